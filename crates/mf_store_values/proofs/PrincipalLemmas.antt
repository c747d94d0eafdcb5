-- What the query of an instalment's principal shows.
use Rattle.std.proofs.Common.{◌≡◌, ℕ, pos, Bool, true, false, List, [], ◌∷◌, ◌++◌, map, filter}
use Rattle.std.proofs.Common.{codes, slice_get, Option, None, Some, refl, sym, ap, ap₂, ◌∙◌}
use Rattle.std.specs.Ordering.{ordering_then}
use Rattle.sqlite.specs.declared.types.Value.TheVariants.{Int}
use Rattle.sqlite.specs.Command.TheVariants.{Select}
use Rattle.sqlite.specs.Order.{Row}
use Rattle.sqlite.specs.Effect.{Database}
use Rattle.sqlite.specs.Term.{Term, col}
use Rattle.sqlite.specs.Query.{Query, output_cmp}
use Rattle.sqlite.specs.Listing.{understood, reads_listing}
use Rattle.sqlite.proofs.Callers.{IsPlain, command_of}
use Rattle.sqlite_keyed.proofs.ListLemmas.{slice_get-filter}
use Rattle.sqlite_tied.specs.Compute.{everything}
use Rattle.sqlite_value.proofs.OrderLemmas.{then-Equal}
use Rattle.mf_store_sql.specs.Keep.{Keeps}
use Rattle.mf_store_sql.specs.Queries.{Answers}
use Rattle.mf_store_sql.specs.Scan.{eq, by, scan}
use Rattle.mf_store_sql.proofs.CompareLemmas.{equals_back, and_true, key_step, int_cmp-pos}
use Rattle.mf_store_sql.proofs.ShownLemmas.{shown_kept}
use Rattle.mf_store_schema.specs.Tables.{schema_keeping}
use Rattle.mf_store_schema.specs.Rows.{by_instalment, instalment_row, is_row_of_instalment}
use Rattle.mf_store_schema.specs.declared.instalments.InstalmentRow.{InstalmentRow}
use Rattle.mf_store_values.specs.Principal.{principal_row, IsOpenRow, IsFirstOpen}

-- ---- the text

abbrev pub find_principal : List ℕ
find_principal =
    codes "SELECT owed_principal, paid_principal, waived_principal, written_off_principal FROM instalments WHERE "
    ++ codes "office = ?1 AND loan = ?2 AND number = ?3 ORDER BY office, loan, number"

abbrev is_key : List Term
is_key = eq (col 1 1) (col 0 0) ∷ eq (col 1 2) (col 0 1) ∷ eq (col 1 3) (col 0 2) ∷ []

abbrev by_key : Query
by_key = scan 19 is_key (col 1 17 ∷ col 1 18 ∷ col 1 19 ∷ col 1 20 ∷ [])
    (by (col 1 1) ∷ by (col 1 2) ∷ by (col 1 3) ∷ [])

find_principal_is : (journaled : Bool) → command_of (understood (schema_keeping journaled) find_principal)
    ≡ Select (record { lets = []; body = by_key }) (codes "owed_principal" ∷ codes "paid_principal" ∷ codes
    "waived_principal" ∷ codes "written_off_principal" ∷ [])
unfolding understood everything
find_principal_is false = refl
find_principal_is true = refl

pub find_principal_plain : (journaled : Bool) → IsPlain (understood (schema_keeping journaled) find_principal)
unfolding understood everything
find_principal_plain false = (refl, refl)
find_principal_plain true = (refl, refl)

find_principal_listed : (journaled : Bool) → reads_listing (schema_keeping journaled) find_principal ≡ false
unfolding understood everything
find_principal_listed false = refl
find_principal_listed true = refl

-- ---- its rows

abbrev instalment_key : InstalmentRow → Row
instalment_key x = Int (pos x.office) ∷ Int (pos x.loan) ∷ Int (pos x.number) ∷ []

ranks : (a b : InstalmentRow) → output_cmp by_key (instalment_key a, principal_row a)
    (instalment_key b, principal_row b) ≡ by_instalment a b
ranks a b = ap₂ ordering_then (int_cmp-pos a.office b.office)
    (ap₂ ordering_then (int_cmp-pos a.loan b.loan) (then-Equal _ ∙ int_cmp-pos a.number b.number))

pub principal_shows : (journaled : Bool) (office loan number : ℕ) (db : Database) (rows : List Row) (items : List
    InstalmentRow)
    → db.schema ≡ schema_keeping journaled → Keeps instalment_row by_instalment (db.trees 19) items
    → Answers find_principal (Int (pos office) ∷ Int (pos loan) ∷ Int (pos number) ∷ []) db rows
    → rows ≡ map principal_row (filter (is_row_of_instalment office loan number) items)
principal_shows journaled office loan number db rows items has k =
    shown_kept instalment_row by_instalment (schema_keeping journaled) 19 find_principal
    (find_principal_plain journaled) (find_principal_listed journaled) is_key _ _ _ (find_principal_is journaled) _
    (is_row_of_instalment office loan number) (λ id y.
    (key_step _ _ _ _ (equals_back y.office office) (key_step _ _ _ _ (equals_back y.loan loan) (and_true _
    ∙ equals_back y.number number)))) instalment_key principal_row (λ id y. refl) ranks (λ t. refl) db items rows has k

-- ---- what a row says

-- the first of the rows that are shown is that of the instalment that is found
pub first_left : (test : InstalmentRow → Bool) (items : List InstalmentRow) (rows : List Row) (row : Row)
    → rows ≡ map principal_row (filter test items) → Some row ≡ slice_get rows 0
    → ((r : InstalmentRow) → row ≡ principal_row r → IsOpenRow r) → IsFirstOpen test items
first_left test items rows row are first left =
    go (filter test items) refl (sym (ap (λ l. slice_get l 0) are) ∙ sym first)
  where
    go : (l : List InstalmentRow) → filter test items ≡ l → slice_get (map principal_row l) 0 ≡ Some row
        → IsFirstOpen test items
    go [] e h = absurd (let never : ◌≡◌ {A = Option Row} None (Some row) = h in cc)
    go (r ∷ l) e h = record {
      row = r;
      found = sym (slice_get-filter test items) ∙ ap (λ l. slice_get l 0) e;
      is_open = left r (let same : Some (principal_row r) ≡ Some row = h in cc);
    }
