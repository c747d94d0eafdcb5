use Rattle.std.proofs.Common.{slice_get, ◌∙◌}
use Rattle.std.proofs.lemmas.Result.{IfOk-weaker}
use Rattle.sqlite.specs.Held.{state}
use Rattle.mf_store_schema.specs.Rows.{is_row_of_instalment}
use Rattle.mf_store_schema.specs.Writes.{are_some}
use Rattle.mf_store_values.proofs.PrincipalLemmas.{find_principal_plain, first_left, principal_shows}
use Rattle.mf_store_values.proofs.principal.is_principal_open.Goals as goal

pub ask-requires-clause-plain : goal.ask-requires-clause-plain
ask-requires-clause-plain g c = find_principal_plain

pub returns-clause-left : goal.returns-clause-left
returns-clause-left g c clean lists kept =
    let s = rw (c.params-to_sql.ensures, c.params-to_sql-2.ensures, c.params-to_sql-3.ensures) at
    (c.in_ok-rows.ensures.shows clean) in
    let serves = kept s.is_open in
    let are = principal_shows (are_some lists.journal) c.args.office c.args.loan c.args.number (state g.S.Store
    c.args.connection.now).now
    c.in_ok-rows.rows.items lists.instalments serves.schema_is serves.holds.all.1.1.1.1.1.1.1.1.1.0 s.answers in
    let first = c.in-Some.ensures.value ∙ (λ t. slice_get (c.deref.ensures.value t) 0) in
    IfOk-weaker c.is_left_in.result _ _ (λ left reads yes. first_left (is_row_of_instalment c.args.office c.args.loan
    c.args.number) lists.instalments c.in_ok-rows.rows.items c.in-Some.row.now are first (reads yes))
    c.is_left_in.ensures.left
