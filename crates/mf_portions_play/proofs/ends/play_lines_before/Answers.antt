use Rattle.std.proofs.Common.{arith}
use Rattle.std.proofs.lemmas.Option.{slice_get-get_or}
use Rattle.mf_portions_play.proofs.EndsLemmas.{all_ended, ended_more, none_yet, stopped_there}
use Rattle.mf_portions_play.proofs.ends.play_lines_before.Goals as goal

pub loop-place-init : goal.loop-place-init
loop-place-init g c = none_yet g.S.InstitutionStore c.args.until c.args.rows.now c.args.store.now

pub loop-place-preserved : goal.loop-place-preserved
loop-place-preserved g c =
    ended_more g.S.InstitutionStore c.args.until c.args.rows.now c.loop-place.place _ c.args.store.now
    c.loop-place.store c.play_line_before.new.store
    (slice_get-get_or _ c.loop-place.place _ c.loop-place-test.true) c.loop-place.invariant
    (rw c.in-Ok-Ok.field-0-is at (c.in-Ok-Ok.ensures {u = tt}).ends)

pub returns-in-Ok-Err-clause-ends : goal.returns-in-Ok-Err-clause-ends
returns-in-Ok-Err-clause-ends g c =
    stopped_there g.S.InstitutionStore c.args.until c.args.rows.now c.loop-place.place _ c.in-Ok-Err.why
    c.args.store.now c.loop-place.store c.play_line_before.new.store
    (slice_get-get_or _ c.loop-place.place _ c.loop-place-test.true) c.loop-place.invariant
    (rw c.in-Ok-Err.field-0-is at (c.in-Ok-Err.ensures {u = tt}).ends)

pub returns-clause-ends : goal.returns-clause-ends
returns-clause-ends g c =
    all_ended g.S.InstitutionStore c.args.until c.args.rows.now c.loop-place.place c.args.store.now
    c.loop-place.store (omega (arith, c.loop-place-test.false, c.loop-place.auto.place-end)) c.loop-place.invariant
