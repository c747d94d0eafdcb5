use Rattle.sqlite.specs.Held.{state}
use Rattle.mf_store_verdict.proofs.PlayLemmas.{verdict_played}
use Rattle.mf_store_verdict.specs.Verdict.{IsRightBy}
use Rattle.mf_store_verdict.proofs.verdict.play_found.Goals as goal

pub returns-in-Ok-clause-kept : goal.returns-in-Ok-clause-kept
returns-in-Ok-clause-kept g c = c.play_known.ensures.kept

pub returns-in-Ok-clause-exact : goal.returns-in-Ok-clause-exact
returns-in-Ok-clause-exact g c clean db shows told =
    let old = state g.S.Store c.args.connection.now in
    let live = c.play_known.ensures.kept.was_open clean (c.in-Ok.ensures.open clean) in
    verdict_played (IsRightBy c.args.beginning) db old.now c.args.audit c.in-Ok.played (shows.is live)
    c.requires.finds told
    (c.in-Ok.ensures.answer clean)

pub returns-in-Err-clause-kept : goal.returns-in-Err-clause-kept
returns-in-Err-clause-kept g c = c.play_known.ensures.kept
