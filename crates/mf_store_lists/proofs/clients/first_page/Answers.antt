use Rattle.std.proofs.Common.{ap, ◌∙◌}
use Rattle.std.specs.List.{enumerate_from}
use Rattle.std.proofs.lemmas.Result.{IfOk-weaker}
use Rattle.mf_model.specs.declared.store.Counts.{Counts}
use Rattle.mf_model.specs.Store.{rows_at}
use Rattle.mf_store_lists.proofs.NumberedLemmas.{client_rows}
use Rattle.mf_store_lists.proofs.clients.first_page.Goals as goal

pub returns-then-counts-gt-FEW-clause-value : goal.returns-then-counts-gt-FEW-clause-value
returns-then-counts-gt-FEW-clause-value g c clean i s =
    let counts = c.in_ok-counts.ensures in
    let mid = c.page_looked_up.ensures.asks.kept.premise clean in
    c.page_looked_up.ensures.value clean i (counts.asks.kept.same mid i s)
    (ap (λ (n : Counts). n.clients) (counts.value mid i s))

pub returns-clause-value : goal.returns-clause-value
returns-clause-value g c clean i s =
    let office = c.args.office in
    let read = c.in_ok-rows.ensures in
    let mid = read.asks.kept.premise clean in
    IfOk-weaker c.page_of.result _ _ (λ lines told. told office (enumerate_from 1 (rows_at office i).clients)
    (c.deref.ensures.value ∙ read.rows clean i (c.in_ok-counts.ensures.asks.kept.same mid i s)
    ∙ client_rows office c.get.result i c.get.ensures.value s.sound)) c.page_of.ensures.clients
