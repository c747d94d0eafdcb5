use Rattle.std.proofs.Common.{◌∙◌}
use Rattle.std.proofs.lemmas.Result.{IfOk-weaker}
use Rattle.mf_model.specs.Store.{rows_at}
use Rattle.mf_store.proofs.OfficeRowsLemmas.{clients_shown}
use Rattle.mf_store.proofs.store.Store.clients_at.Goals as goal

pub returns-clause-value : goal.returns-clause-value
returns-clause-value g c clean i s =
    IfOk-weaker c.names_from.result _ _ (λ list h. h c.args.office (rows_at c.args.office i).clients
    (c.deref.ensures.value
    ∙ c.in_ok-rows.ensures.rows clean i s ∙ clients_shown c.args.office i s.sound)) c.names_from.ensures.names
