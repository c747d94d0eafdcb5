use Rattle.std.proofs.Common.{arith}
use Rattle.std.proofs.lemmas.Option.{slice_get-get_or}
use Rattle.mf_play.proofs.PlayedLines.{none_played, played_more, stopped_there, gave_up_there, all_played}
use Rattle.mf_play.proofs.playing.play_lines.Goals as goal

pub loop-place-init : goal.loop-place-init
loop-place-init g c = none_played g.S.InstitutionStore c.args.rows.now c.args.store.now

pub loop-place-preserved : goal.loop-place-preserved
loop-place-preserved g c =
    played_more g.S.InstitutionStore c.args.rows.now c.loop-place.place _ c.args.store.now c.loop-place.store
    c.play_line.new.store (slice_get-get_or _ c.loop-place.place _ c.loop-place-test.true) c.loop-place.invariant
    (rw c.in-Ok-Ok.field-0-is at (c.in-Ok-Ok.ensures {u = tt}).plays)

pub returns-in-Ok-Err-clause-plays : goal.returns-in-Ok-Err-clause-plays
returns-in-Ok-Err-clause-plays g c =
    stopped_there g.S.InstitutionStore c.args.rows.now c.loop-place.place _ c.in-Ok-Err.why c.args.store.now
    c.loop-place.store c.play_line.new.store (slice_get-get_or _ c.loop-place.place _ c.loop-place-test.true)
    c.loop-place.invariant (rw c.in-Ok-Err.field-0-is at (c.in-Ok-Err.ensures {u = tt}).plays)

pub returns-in-Err-clause-plays : goal.returns-in-Err-clause-plays
returns-in-Err-clause-plays g c =
    gave_up_there g.S.InstitutionStore c.args.rows.now c.loop-place.place _ c.in-Err.fault c.args.store.now
    c.loop-place.store c.play_line.new.store c.loop-place.invariant (c.in-Err.ensures {u = tt}).plays

pub returns-clause-plays : goal.returns-clause-plays
returns-clause-plays g c =
    all_played g.S.InstitutionStore c.args.rows.now c.loop-place.place c.args.store.now c.loop-place.store
    (omega (arith, c.loop-place-test.false, c.loop-place.auto.place-end)) c.loop-place.invariant
