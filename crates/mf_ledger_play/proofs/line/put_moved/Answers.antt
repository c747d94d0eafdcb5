use Rattle.std.proofs.Common.{◌++◌, ap, sym, ◌∙◌}
use Rattle.std.specs.List.{flat_map}
use Rattle.mf_ledger_play.specs.Told.{form_text, moved}
use Rattle.mf_ledger_play.proofs.LineLemmas.{both_written}
use Rattle.mf_ledger_play.proofs.line.put_moved.Goals as goal

pub returns-in_ok-put_postings-in-Accrual-clause-text : goal.returns-in_ok-put_postings-in-Accrual-clause-text
returns-in_ok-put_postings-in-Accrual-clause-text c =
    let asked = c.args.asked.now in
    let text = c.args.text.now.items in
    both_written asked c.args.booking.now c.args.change.now c.postings-cash.result
    c.adjusting_postings-added.result text
    c.put_postings.new.text.items c.put_postings-in-Accrual.new.text.items c.postings-cash.ensures
    c.adjusting_postings-added.ensures c.in_ok-put_postings.ensures.text
    c.in_ok-put_postings-in-Accrual.ensures.text
    ∙ ap (λ basis. text ++ flat_map (form_text asked.form asked.names) (moved basis c.args.booking.now
    c.args.change.now)) (sym c.in-Accrual.is)
