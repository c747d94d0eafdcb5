use Rattle.std.proofs.Common.{◌++◌, ap₂, ◌∙◌}
use Rattle.mf_ledger_play.specs.Told.{form_booked}
use Rattle.mf_ledger_play.proofs.OpeningLemmas.{one_written, two_written}
use Rattle.mf_ledger_play.proofs.opening.put_opening.Goals as goal

pub returns-in-Cash-clause-text : goal.returns-in-Cash-clause-text
returns-in-Cash-clause-text c i today cash added =
    let asked = c.args.asked.now in
    one_written asked c.args.day i c.args.text.now.items c.put_postings.new.text.items
    c.put_postings.new.text.items c.args.opening.now.cash.items c.args.opening.now.added.items c.in-Cash.is cash
    (c.in_ok-put_postings.ensures.text
    ∙ ap₂ (λ o ps. c.args.text.now.items ++ form_booked asked.form asked.names o ps) c.opening-occasion.ensures
    c.deref.ensures.value)

pub returns-in_ok-put_postings-in-Accrual-clause-text : goal.returns-in_ok-put_postings-in-Accrual-clause-text
returns-in_ok-put_postings-in-Accrual-clause-text c i today cash added =
    let asked = c.args.asked.now in
    two_written asked c.args.day i c.args.text.now.items c.put_postings.new.text.items
    c.put_postings-in-Accrual.new.text.items c.args.opening.now.cash.items c.args.opening.now.added.items
    c.in-Accrual.is today cash added
    (c.in_ok-put_postings.ensures.text
    ∙ ap₂ (λ o ps. c.args.text.now.items ++ form_booked asked.form asked.names o ps) c.opening-occasion.ensures
    c.deref.ensures.value)
    (c.in_ok-put_postings-in-Accrual.ensures.text
    ∙ ap₂ (λ o ps. c.put_postings.new.text.items ++ form_booked asked.form asked.names o ps) c.opening-occasion.ensures
    c.deref-in-Accrual.ensures.value)
