use Rattle.std.proofs.Common.{subst}
use Rattle.sqlite.specs.Held.{state}
use Rattle.mf_store_sql.specs.Queries.{Answers}
use Rattle.mf_store_schema.proofs.CallLemmas.{shown}
use Rattle.mf_store_schema.proofs.PutLemmas.{showing}
use Rattle.mf_store_schema.proofs.table.list_rows.Goals as goal

pub returns-clause-rows : goal.returns-clause-rows
returns-clause-rows g c clean lists kept =
    let t = g.T.Table in
    let laws = g.met.T.Table in
    let given = g.T.Part.Values.values c.args.part in
    let s = state g.S.Store c.args.connection.now in
    shown c.ask.result (λ v. v.items) s c.list_text.result.now given lists _ (λ v serves a.
    showing t.columns t.place t.tree t.stored t.by t.list t.put laws.ordered laws.fits laws.kept laws.held laws.changes
    laws.spared g.T.Part.Values.width g.met.T.Listed.lists g.met.T.Listed.partly given
    (g.met.T.Part.Values.plain c.args.part) (g.T.Listed.is_in c.args.part) (g.met.T.Listed.listed c.args.part) lists
    s.now v.items serves (subst (λ sql. Answers sql given s.now v.items) c.list_text.ensures a)) kept
    (c.ask.ensures.shows clean)
