-- What the query for all rows shows of the lines that an archive keeps.
use Rattle.std.proofs.Common.{◌≡◌, ℕ, ◌<ℤ◌, true, List, [], ◌∷◌, map, length, refl, sym, ap, ap₂, ◌∙◌, subst, Less}
use Rattle.std.proofs.Common.{IsPermutation, Some}
use Rattle.std.specs.Prelude.{Result, Ok, Err, OnErr, IfErr}
use Rattle.std.specs.List.{AllByRecursion}
use Rattle.std.proofs.lemmas.List.Sorted.{IsPermutation-refl}
use Rattle.sqlite.specs.declared.types.Value.TheVariants.{Null, Int}
use Rattle.sqlite.specs.Effect.{Database, Reads}
use Rattle.sqlite.specs.Listing.{understood, reads_listing}
use Rattle.sqlite.specs.Order.{Row}
use Rattle.sqlite.specs.Program.{overlay}
use Rattle.sqlite.specs.Query.{output_cmp}
use Rattle.sqlite.specs.Term.{col, eval_all}
use Rattle.sqlite.proofs.Callers.{IsPlain, command_of}
use Rattle.sqlite_tied.specs.Compute.{everything}
use Rattle.sqlite_value.proofs.OrderLemmas.{then-Equal}
use Rattle.sqlite_keyed.proofs.ListLemmas.{all_of, ascending_weaker, filter_all}
use Rattle.mf_journal.specs.declared.following.Head.{Head}
use Rattle.mf_model.specs.Institution.{JournalLine}
use Rattle.mf_store_sql.specs.Numbered.{numbered_row, Filed, id_of, values_in, shown_filed}
use Rattle.mf_store_sql.specs.NumberedMeanings.{shown_terms}
use Rattle.mf_store_sql.specs.Queries.{Answers}
use Rattle.mf_store_sql.specs.Rows.{AreKeepable}
use Rattle.mf_store_sql.specs.Scan.{by}
use Rattle.mf_store_sql.proofs.AlikeLemmas.{answer_full}
use Rattle.mf_store_sql.proofs.ColumnLemmas.{columns_at, columns_later, all_columns, reads_row, as_many}
use Rattle.mf_store_sql.proofs.NumberedLemmas.{below_int, out, shows_lines}
use Rattle.mf_store_schema.specs.Tables.{journal}
use Rattle.mf_store_journal.specs.Rows.{journal_rows_in}
use Rattle.mf_store_archive.specs.Appending.{KeepsArchive}
use Rattle.mf_store_archive.proofs.TextsLemmas.{is_archive}
use Rattle.mf_store_archived.specs.Archives.{Tells}
use Rattle.mf_store_archived.specs.Reading.{KeepsPart, ShowsAll, all_text, every_row}

shows_all : ShowsAll
unfolding understood everything
shows_all = record { plain = (refl, refl); unlisted = refl; is = refl }

map_on : {A B : Type 0} (P : A → Type 0) (f g : A → B) → ((x : A) → P x → f x ≡ g x) → (xs : List A)
    → AllByRecursion P xs → map f xs ≡ map g xs
map_on P f g same [] all = refl
map_on P f g same (x ∷ xs) all = ap₂ ◌∷◌ (same x all.0) (map_on P f g same xs all.1)

-- how many columns there are after the number
abbrev n : ℕ
n = length journal.columns

shown_is : (l : Filed) → AreKeepable journal.columns (values_in l)
    → eval_all (shown_terms n) ([] ∷ numbered_row id_of values_in l ∷ []) ≡ shown_filed l
shown_is l fit = ap (λ vs. Int (id_of l) ∷ vs)
    (reads_row [] (id_of l) 1 n (Null ∷ values_in l)
    ∙ columns_later 0 n Null (values_in l)
    ∙ ap (λ m. columns_at 0 m (values_in l)) (sym (as_many journal.columns (values_in l) fit))
    ∙ all_columns (values_in l))

module _ (db : Database) (lines : List Filed) (k : KeepsArchive db lines) where
  rows_shown : (rows : List Row) → Answers (all_text journal) [] db rows → rows ≡ map shown_filed lines
  rows_shown rows h =
      let sql = all_text journal in
      let terms = shown_terms n in
      let order = by (col 1 0) ∷ [] in
      let q = every_row 0 n in
      let test = λ (l : Filed). true in
      let tested = λ (l : Filed). refl in
      let out = λ (l : Filed). out 0 [] terms order [] lines test tested l in
      let means = shows_all in
      let read = subst (λ c. Reads c db [] rows) (ap (λ s. command_of (understood s sql)) k.schema_is ∙ means.is)
      (h (subst (λ s. IsPlain (understood s sql)) (sym k.schema_is) means.plain) (ap (λ s. reads_listing s sql)
      k.schema_is ∙ means.unlisted)) in
      let a = read.answer Null in
      let full = map (numbered_row id_of values_in) lines in
      let rising = ascending_weaker (λ (a b : Filed). id_of a <ℤ id_of b) (λ a b. output_cmp q (out a) (out b)
      ≡ Less) (λ a b h. then-Equal _ ∙ below_int (id_of a) (id_of b) h) lines ((k.keeps).kept).rising in
      let same = subst (λ ls. IsPermutation ls lines) (sym (filter_all test lines (all_of _ (λ _. refl) lines)))
      (IsPermutation-refl lines) in
      shows_lines 0 [] terms order [] lines test tested Null rows
      (answer_full 0 [] terms order [] (is_archive.numbered).under db.trees full ((k.keeps).kept).rows rows a) lines
      same rising
      ∙ map_on (λ (l : Filed). AreKeepable journal.columns (values_in l)) (λ l. (out l).1) shown_filed
      (λ l fit. shown_is l fit) lines (k.keeps).fitting

-- of an archive they tell its lines
pub tells_all : (sql : List ℕ) (begins : Head) (lines : List JournalLine) (db : Database) (rows : List Row)
    → sql ≡ all_text journal → KeepsPart begins lines db → Answers sql [] db rows → Tells begins lines rows
tells_all sql begins lines db rows is part shows = record {
  can_be = part.can_be;
  rows_are = rows_shown db (journal_rows_in begins (Some lines)) part.keeps rows
      (subst (λ text. Answers text [] db rows) is shows);
}

-- what is no error is none of any kind
pub no_error : {A E : Type 0} (r : Result A E) (P : E → Type 0) → OnErr r ⊥ → IfErr r P
no_error (Ok a) P none = tt
no_error (Err e) P none = absurd none
