use Rattle.std.proofs.Common.{Some, ap, sym, ◌∙◌}
use Rattle.std.proofs.lemmas.Option.{slice_get-get_or}
use Rattle.mf_ledger_play.proofs.PassedLemmas.{loans_more}
use Rattle.mf_ledger_play.proofs.passed.put_loans.Goals as goal

pub loop-place-preserved : goal.loop-place-preserved
loop-place-preserved c =
    let passing = c.args.passing.now in
    loans_more c.args.asked.now passing.number passing.before passing.day c.args.held.now c.loop-place.place
    c.index-held-place.result c.args.text.now.items c.loop-place.text.items c.put_loan.new.text.items
    (slice_get-get_or c.args.held.now c.loop-place.place c.index-held-place.result c.loop-place-test.true
    ∙ ap Some (sym c.index-held-place.is)) c.loop-place.invariant c.in_ok-put_loan.ensures.text
