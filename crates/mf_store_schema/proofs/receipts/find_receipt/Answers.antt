use Rattle.std.proofs.Common.{◌∙◌, pos, false, [], ◌∷◌, refl, sym, ap, is_eq, subst}
use Rattle.std.proofs.lemmas.Result.{IfOk-weaker}
use Rattle.sqlite.specs.Given.{IsPlain}
use Rattle.sqlite.specs.Held.{state}
use Rattle.sqlite.specs.Listing.{understood}
use Rattle.sqlite.specs.declared.types.Value.TheVariants.{Int, Text}
use Rattle.mf_store_sql.specs.Columns.{Number, Text as OfText}
use Rattle.mf_store_sql.specs.Queries.{Answers}
use Rattle.mf_store_schema.specs.Keys.{number_and_text}
use Rattle.mf_store_schema.specs.ReceiptsTexts.{kept, fits, ordered}
use Rattle.mf_store_schema.specs.Rows.{receipt_row, by_receipt, is_row_of_receipt, put_receipt}
use Rattle.mf_store_schema.specs.Tables.{schema_keeping, receipts}
use Rattle.mf_store_schema.proofs.CallLemmas.{first_is}
use Rattle.mf_store_schema.proofs.PutLemmas.{showing}
use Rattle.mf_store_schema.proofs.receipts.find_receipt.Goals as goal

pub ask-requires-clause-plain : goal.ask-requires-clause-plain
ask-requires-clause-plain g c =
    λ journaled. subst (λ sql. IsPlain (understood (schema_keeping journaled) sql)) (sym c.find_text.ensures)
    (kept journaled).finds.plain

pub returns-clause-row : goal.returns-clause-row
returns-clause-row g c clean lists keeping =
    let office = c.args.office in
    let receipt = c.args.receipt.now in
    let given = Int (pos office) ∷ Text receipt ∷ [] in
    let s = state g.S.Store c.args.connection.now in
    let shows = rw (c.params-to_sql.ensures, c.params-to_sql-2.ensures) at (c.in_ok-rows.ensures.shows clean) in
    let are = showing receipts 8 17 receipt_row by_receipt (λ l. l.receipts) put_receipt ordered fits kept
    (λ trees l all. all.1.1.1.1.1.1.1.1.0) (λ x l trees all. all) (λ x l. refl) 2
    (λ journaled. (kept journaled).finds) (kept false).always given
    ((Number, refl, (office, refl)), ((OfText, refl, (receipt, refl)), tt)) (is_row_of_receipt office receipt)
    (λ x. ap is_eq (number_and_text office receipt x.office x.receipt)) lists s.now c.in_ok-rows.rows.items
    (keeping shows.is_open)
    (subst (λ sql. Answers sql given s.now c.in_ok-rows.rows.items) c.find_text.ensures shows.answers) in
    IfOk-weaker c.first.result _ _ (λ x reads. first_is receipt_row (is_row_of_receipt office receipt) lists.receipts
    c.in_ok-rows.rows.items x are (λ rs e. reads rs (c.deref.ensures.value ∙ e))) c.first.ensures.row
