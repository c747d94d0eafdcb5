use Rattle.std.proofs.Common.{◌∙◌, false, subst}
use Rattle.std.proofs.lemmas.Result.{IfOk-weaker}
use Rattle.sqlite.specs.Held.{state}
use Rattle.mf_store_sql.specs.Queries.{Answers}
use Rattle.mf_store_sql.specs.Rows.{ArePlain}
use Rattle.mf_store_schema.proofs.CallLemmas.{first_is}
use Rattle.mf_store_schema.proofs.PutLemmas.{showing}
use Rattle.mf_store_schema.proofs.table.find_row.Goals as goal

pub returns-clause-row : goal.returns-clause-row
returns-clause-row g c clean lists kept =
    let t = g.T.Table in
    let laws = g.met.T.Table in
    let given = g.T.Key.Values.values c.args.key in
    let s = state g.S.Store c.args.connection.now in
    let shows = c.in_ok-rows.ensures.shows clean in
    let plain = subst (λ n. ArePlain 0 n given) laws.keyed (g.met.T.Key.Values.plain c.args.key) in
    let are = showing t.columns t.place t.tree t.stored t.by t.list t.put laws.ordered laws.fits laws.kept laws.held
    laws.changes laws.spared (t.columns).key (λ journaled. (laws.kept journaled).finds) (laws.kept false).always given
    plain (t.is_at c.args.key)
    (laws.found c.args.key) lists s.now c.in_ok-rows.rows.items (kept shows.is_open)
    (subst (λ sql. Answers sql given s.now c.in_ok-rows.rows.items) c.find_text.ensures shows.answers) in
    IfOk-weaker c.first.result _ _ (λ x reads. first_is t.stored (t.is_at c.args.key) (t.list lists)
    c.in_ok-rows.rows.items x are (λ rs e. reads rs (c.deref.ensures.value ∙ e))) c.first.ensures.row
