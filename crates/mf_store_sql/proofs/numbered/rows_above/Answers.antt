use Rattle.std.proofs.Common.{pos, [], ◌∷◌}
use Rattle.std.proofs.lemmas.Result.{IfOk-weaker}
use Rattle.sqlite.specs.Held.{state}
use Rattle.sqlite.specs.declared.types.Value.TheVariants.{Int}
use Rattle.mf_store_sql.specs.NumberedMeanings.{ShowsAbove}
use Rattle.mf_store_sql.specs.Queries.{Answers}
use Rattle.mf_store_sql.proofs.NumberedShownLemmas.{shows_above}
use Rattle.mf_store_sql.proofs.numbered.rows_above.Goals as goal

pub returns-clause-rows : goal.returns-clause-rows
returns-clause-rows g c clean =
    let db = (state g.S.Store c.args.connection.now).now in
    let sql = c.args.text.now in
    let params = Int (pos c.args.number) ∷ Int (pos c.args.most) ∷ [] in
    IfOk-weaker c.query.result (λ rows. Answers sql params db rows.items)
    (λ rows. ShowsAbove sql c.args.number c.args.most db rows.items)
    (λ rows h. shows_above sql c.args.number c.args.most db rows.items h)
    (rw (c.params-to_sql.ensures, c.params-to_sql-2.ensures) at (c.query.ensures.rows clean))
