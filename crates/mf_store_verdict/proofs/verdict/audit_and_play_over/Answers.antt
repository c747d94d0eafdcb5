use Rattle.std.proofs.lemmas.Result.{IfOk-weaker}
use Rattle.sqlite.specs.Held.{state}
use Rattle.mf_store_played.specs.Archived.{IsArchivedAnswerOf}
use Rattle.mf_store_verdict.proofs.PlayLemmas.{verdict_by}
use Rattle.mf_store_verdict.proofs.verdict.audit_and_play_over.Goals as goal

pub returns-clause-exact : goal.returns-clause-exact
returns-clause-exact g c clean rowids archives =
    let old = state g.S.Store c.args.connection.now in
    IfOk-weaker c.audit_with.result _ _ (λ v told. verdict_by _ (IsArchivedAnswerOf c.args.archives.now) old.now v told
    (λ trees played is. is archives))
    (c.audit_with.ensures.exact clean rowids)
