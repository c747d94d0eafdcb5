-- What the texts that ask for a range mean, and what they show of their tables.
use Rattle.std.proofs.Common.{◌≡◌, ℕ, pos, Bool, true, ◌&&◌, List, [], ◌∷◌, ◌++◌}
use Rattle.std.proofs.Common.{codes, false, map, filter, take, refl, ap, ap₂}
use Rattle.std.proofs.Common.{◌∙◌, is_eq}
use Rattle.std.specs.Ordering.{ordering_then}
use Rattle.sqlite.specs.declared.types.Value.TheVariants.{Int, Text}
use Rattle.sqlite.specs.Collation.TheVariants.{Binary}
use Rattle.sqlite.specs.Command.TheVariants.{Select}
use Rattle.sqlite.specs.Effect.{Database}
use Rattle.sqlite.specs.Listing.{understood, reads_listing}
use Rattle.sqlite.specs.Order.{Row}
use Rattle.sqlite.specs.Query.{output_cmp}
use Rattle.sqlite.specs.Term.{Term, col, op2}
use Rattle.sqlite.proofs.Callers.{IsPlain, command_of}
use Rattle.sqlite_sql.specs.declared.ops.BinaryOp.TheVariants.{Compare}
use Rattle.sqlite_sql.specs.declared.ops.CompareOp.TheVariants.{Lt, Ge, Gt}
use Rattle.sqlite_tied.specs.Compute.{everything}
use Rattle.sqlite_value.proofs.OrderLemmas.{then-Equal}
use Rattle.mf_store_sql.specs.Keep.{Keeps}
use Rattle.mf_store_sql.specs.Queries.{Answers}
use Rattle.mf_store_sql.specs.Scan.{eq, by, scan, cut_at}
use Rattle.mf_store_sql.proofs.CompareLemmas.{equals_back, and_true, int_cmp-pos, at_least_text, below_text}
use Rattle.mf_store_sql.proofs.CompareLemmas.{above_number}
use Rattle.mf_store_sql.proofs.ShownLemmas.{shown_kept, shown_first_kept}
use Rattle.mf_store_sql.specs.Columns.{Number}
use Rattle.mf_store_sql.specs.Texts.{select_text}
use Rattle.mf_store_sql.proofs.TableLemmas.{asked_shows}
use Rattle.mf_store_schema.specs.Tables.{schema_keeping, instalments}
use Rattle.mf_store_schema.specs.Keys.{one_number}
use Rattle.mf_store_schema.specs.InstalmentsTexts.{kept, fits, ordered, lists_by_1}
use Rattle.mf_store_schema.specs.Rows.{by_office, office_row, is_between_keys, by_loan, loan_row, is_loan_above}
use Rattle.mf_store_schema.specs.Rows.{by_instalment, instalment_row, is_instalment_in}
use Rattle.mf_store_schema.specs.declared.instalments.InstalmentRow.{InstalmentRow}
use Rattle.mf_store_schema.specs.declared.offices.OfficeRow.{OfficeRow}
use Rattle.mf_store_schema.specs.declared.loans.LoanRow.{LoanRow}

-- ---- offices

abbrev pub offices_in : List ℕ
offices_in = codes "SELECT number, parent, hkey, name FROM offices WHERE hkey >= ?1 AND hkey < ?2 ORDER BY number"

pub offices_in_is : (journaled : Bool) → command_of (understood (schema_keeping journaled) offices_in)
    ≡ Select (record {
      lets = [];
      body = scan 2 (op2 (Compare Ge Binary) (col 1 3) (col 0 0) ∷ op2 (Compare Lt Binary)
          (col 1 3) (col 0 1) ∷ []) (col 1 1 ∷ col 1 2 ∷ col 1 3 ∷ col 1 4 ∷ []) (by (col 1 1) ∷ []);
    }) (codes "number"
    ∷ codes "parent" ∷ codes "hkey" ∷ codes "name" ∷ [])
unfolding understood everything
offices_in_is false = refl
offices_in_is true = refl

pub offices_in_plain : (journaled : Bool) → IsPlain (understood (schema_keeping journaled) offices_in)
unfolding understood everything
offices_in_plain false = (refl, refl)
offices_in_plain true = (refl, refl)

pub offices_in_listed : (journaled : Bool) → reads_listing (schema_keeping journaled) offices_in ≡ false
unfolding understood everything
offices_in_listed false = refl
offices_in_listed true = refl

abbrev office_key : OfficeRow → Row
office_key x = Int (pos x.number) ∷ []

pub offices_in_shows : (journaled : Bool) (low high : List ℕ) (db : Database) (rows : List Row) (items : List OfficeRow)
    → db.schema ≡ schema_keeping journaled → Keeps office_row by_office (db.trees 2) items → Answers offices_in (Text
    low ∷ Text high
    ∷ []) db rows → rows ≡ map office_row (filter (is_between_keys low high) items)
offices_in_shows journaled low high db rows items has k =
    shown_kept office_row by_office (schema_keeping journaled) 2 offices_in (offices_in_plain journaled)
    (offices_in_listed journaled) _ _ _ _ (offices_in_is journaled) _
    (is_between_keys low high) (λ id o. ap₂ ◌&&◌ (at_least_text o.hkey low) (and_true _ ∙ below_text o.hkey high))
    office_key office_row (λ id x. refl)
    (λ a b. then-Equal _ ∙ int_cmp-pos a.number b.number) (λ t. refl) db items rows has k

-- ---- loans

abbrev pub loans_above : List ℕ
loans_above =
    codes "SELECT office, number, client, product, principal, periods, stage, approved, disbursed FROM loans WHERE "
    ++ codes "office = ?1 AND number > ?2 ORDER BY office, number LIMIT 100"

pub loans_above_is : (journaled : Bool) → command_of (understood (schema_keeping journaled) loans_above)
    ≡ Select (record {
      lets = [];
      body = cut_at 100 (scan 13 (eq (col 1 1) (col 0 0) ∷ op2 (Compare Gt Binary) (col 1 2)
          (col 0 1) ∷ []) (col 1 1 ∷ col 1 2 ∷ col 1 3 ∷ col 1 4 ∷ col 1 5 ∷ col 1 6 ∷ col 1 7 ∷ col 1 8 ∷ col 1 9 ∷ [])
          (by (col 1 1) ∷ by (col 1 2) ∷ []));
    }) (codes "office" ∷ codes "number" ∷ codes "client" ∷ codes "product"
    ∷ codes "principal" ∷ codes "periods" ∷ codes "stage" ∷ codes "approved" ∷ codes "disbursed" ∷ [])
unfolding understood everything
loans_above_is false = refl
loans_above_is true = refl

pub loans_above_plain : (journaled : Bool) → IsPlain (understood (schema_keeping journaled) loans_above)
unfolding understood everything
loans_above_plain false = (refl, refl)
loans_above_plain true = (refl, refl)

pub loans_above_listed : (journaled : Bool) → reads_listing (schema_keeping journaled) loans_above ≡ false
unfolding understood everything
loans_above_listed false = refl
loans_above_listed true = refl

abbrev loan_key : LoanRow → Row
loan_key x = Int (pos x.office) ∷ Int (pos x.number) ∷ []

loan_ranks : (tests : List Term) (a b : LoanRow) → output_cmp (scan 13 tests (col 1 1 ∷ col 1 2 ∷ col 1 3 ∷ col 1 4
    ∷ col 1 5 ∷ col 1 6 ∷ col 1 7 ∷ col 1 8 ∷ col 1 9 ∷ []) (by (col 1 1) ∷ by (col 1 2) ∷ [])) (loan_key a, loan_row a)
    (loan_key b, loan_row b) ≡ by_loan a b
loan_ranks tests a b = ap₂ ordering_then (int_cmp-pos a.office b.office) (then-Equal _ ∙ int_cmp-pos a.number b.number)

pub loans_above_shows : (journaled : Bool) (office after : ℕ) (db : Database) (rows : List Row) (items : List LoanRow)
    → db.schema ≡ schema_keeping journaled
    → Keeps loan_row by_loan (db.trees 13) items → Answers loans_above (Int (pos office) ∷ Int (pos after) ∷ []) db rows
    → rows ≡ take 100 (map loan_row (filter (is_loan_above office after) items))
loans_above_shows journaled office after db rows items has k =
    shown_first_kept loan_row by_loan (schema_keeping journaled) 13 100 loans_above (loans_above_plain journaled)
    (loans_above_listed journaled) (eq (col 1 1)
    (col 0 0) ∷ op2 (Compare Gt Binary) (col 1 2) (col 0 1) ∷ []) _ _ _ (loans_above_is journaled) _
    (is_loan_above office after) (λ id y. ap₂ ◌&&◌ (equals_back y.office office) (and_true _
    ∙ above_number y.number after)) loan_key loan_row (λ id y. refl) (loan_ranks (eq (col 1 1) (col 0 0)
    ∷ op2 (Compare Gt Binary) (col 1 2) (col 0 1) ∷ [])) (λ t. refl) db items rows has k

-- ---- instalments

abbrev pub instalments_of_office : List ℕ
instalments_of_office = select_text instalments 1

pub instalments_of_office_shows : (journaled : Bool) (office : ℕ) (db : Database) (rows : List Row) (items : List
    InstalmentRow)
    → db.schema ≡ schema_keeping journaled → Keeps instalment_row by_instalment (db.trees 19) items
    → Answers instalments_of_office (Int (pos office) ∷ []) db rows
    → rows ≡ map instalment_row (filter (is_instalment_in office) items)
instalments_of_office_shows journaled office db rows items has keeps h =
    asked_shows instalment_row by_instalment (schema_keeping journaled) 9 19 instalments ordered fits
    (kept journaled).under 1 (Int (pos office) ∷ []) (lists_by_1 journaled) refl ((Number, refl, (office, refl)), tt)
    (is_instalment_in office)
    (λ x. ap is_eq (one_number office x.office)) db items rows has keeps h
