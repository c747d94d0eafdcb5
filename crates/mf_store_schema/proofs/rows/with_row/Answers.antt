use Rattle.std.proofs.Common.{◌++◌, ◌∷◌, [], rules, subst, sym}
use Rattle.mf_store_schema.specs.Read.{IsReadAs, AreReadAs}
use Rattle.mf_store_schema.proofs.ReadLemmas.{more}
use Rattle.mf_store_schema.proofs.rows.with_row.Goals as goal

pub returns-clause-read : goal.returns-clause-read
returns-clause-read g c rows before =
    let row = c.args.row.now in
    let one : IsReadAs g.T.Table.stored c.in-Some-found.record row =
    record { has = search rules; only = search rules } in
    subst (λ l. AreReadAs g.T.Table.stored l (rows ++ row ∷ [])) (sym c.in_ok-push.ensures.items)
    (more g.T.Table.stored c.in-Some.read.items rows (rw c.in-Some.is at before) c.in-Some-found.record row one)
