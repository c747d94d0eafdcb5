use Rattle.std.proofs.Common.{sym, subst}
use Rattle.std.specs.Prelude.{IfOk}
use Rattle.sqlite.specs.Files.{over_files}
use Rattle.sqlite.specs.Held.{state}
use Rattle.mf_store.specs.Stands.{StandsFor}
use Rattle.mf_store_archived.specs.Joining.{AreArchives}
use Rattle.mf_store_played.specs.Answer.{IsCopyAnswerOf}
use Rattle.mf_store_played.specs.Archived.{IsArchivedAnswerOf}
use Rattle.mf_store_verdict.specs.Verdict.{IsRightBy}
use Rattle.mf_store_verdict.proofs.PlayLemmas.{ok_each, ok_once}
use Rattle.mf_store_verdict.proofs.playing.play.Goals as goal

pub returns-in-Copy-clause-answer : goal.returns-in-Copy-clause-answer
returns-in-Copy-clause-answer g c clean its =
    let trees = (state g.S.Store c.args.connection.now).now.trees in
    subst (λ b. IfOk c.play_tables_from.result (IsRightBy b trees)) (sym c.in-Copy.is)
    (ok_each c.play_tables_from.result (StandsFor over_files c.in-Copy.copy)
    (λ copied played. IsCopyAnswerOf copied trees played) (c.play_tables_from.ensures.answer clean its))

pub returns-in-Archives-clause-answer : goal.returns-in-Archives-clause-answer
returns-in-Archives-clause-answer g c clean its =
    let trees = (state g.S.Store c.args.connection.now).now.trees in
    let archives = c.in-Archives.archives.now in
    subst (λ b. IfOk c.play_tables_over_archives.result (IsRightBy b trees)) (sym c.in-Archives.is)
    (ok_once c.play_tables_over_archives.result (AreArchives archives) (IsArchivedAnswerOf archives trees)
    (c.play_tables_over_archives.ensures.answer clean its))
