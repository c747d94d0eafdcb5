use Rattle.std.proofs.Common.{arith, sym}
use Rattle.std.proofs.lemmas.Option.{slice_get-get_or}
use Rattle.mf_play.proofs.TellingLemmas.{told_none, told_more, told_all, untold}
use Rattle.mf_play.proofs.told.first_untold.Goals as goal

pub loop-place-init : goal.loop-place-init
loop-place-init c = told_none c.args.rows.now

pub loop-place-preserved : goal.loop-place-preserved
loop-place-preserved c =
    told_more c.args.rows.now c.loop-place.place _
    (slice_get-get_or _ c.loop-place.place _ c.loop-place-test.true)
    (_, sym (rw c.in-Ok-Some.field-0-is at c.in-Ok-Some.ensures.call)) c.loop-place.invariant

pub returns-in-Ok-None-clause-first : goal.returns-in-Ok-None-clause-first
returns-in-Ok-None-clause-first c =
    untold c.args.rows.now c.loop-place.place _ (slice_get-get_or _ c.loop-place.place _ c.loop-place-test.true)
    (sym (rw c.in-Ok-None.field-0-is at c.in-Ok-None.ensures.call)) c.loop-place.invariant

pub returns-clause-none : goal.returns-clause-none
returns-clause-none c =
    told_all c.args.rows.now c.loop-place.place
    (omega (arith, c.loop-place-test.false, c.loop-place.auto.place-end)) c.loop-place.invariant
