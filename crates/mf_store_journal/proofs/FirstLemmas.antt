-- What the query for the first row shows of the lines that the table keeps.
use Rattle.std.proofs.Common.{◌≡◌, ℕ, ◌<ℤ◌, ◌≤◌, true, List, [], ◌∷◌, map, take, length, slice_get}
use Rattle.std.proofs.Common.{Option, option_map, refl, sym, ap, ap₂, ◌∙◌, arith, subst, Less, IsPermutation}
use Rattle.std.specs.List.{AllByRecursion}
use Rattle.std.proofs.lemmas.List.Sorted.{IsPermutation-refl}
use Rattle.sqlite.specs.declared.types.Value.TheVariants.{Null, Int}
use Rattle.sqlite.specs.Effect.{Database, Reads}
use Rattle.sqlite.specs.Listing.{understood, reads_listing}
use Rattle.sqlite.specs.Order.{Row}
use Rattle.sqlite.specs.Program.{overlay}
use Rattle.sqlite.specs.Query.{output_cmp, IsAnswerAs}
use Rattle.sqlite.specs.Term.{col, eval_all}
use Rattle.sqlite.proofs.Callers.{IsPlain, command_of}
use Rattle.sqlite_value.proofs.OrderLemmas.{then-Equal}
use Rattle.sqlite_keyed.proofs.ListLemmas.{all_of, ascending_weaker, filter_all}
use Rattle.mf_store_sql.specs.Numbered.{numbered_row, Filed, id_of, values_in, shown_filed}
use Rattle.mf_store_sql.specs.NumberedMeanings.{shown_terms}
use Rattle.mf_store_sql.specs.Queries.{Answers}
use Rattle.mf_store_sql.specs.Rows.{AreKeepable}
use Rattle.mf_store_sql.specs.Scan.{by, scan}
use Rattle.mf_store_sql.proofs.AlikeLemmas.{answer_full}
use Rattle.mf_store_sql.proofs.ColumnLemmas.{columns_at, columns_later, all_columns, reads_row, as_many}
use Rattle.mf_store_sql.proofs.NumberedLemmas.{below_int, out, shows_lines}
use Rattle.mf_store_journal.specs.Adding.{KeepsJournal}
use Rattle.mf_store_schema.specs.Tables.{journal}
use Rattle.mf_store_journal.specs.Texts.{first_text}
use Rattle.mf_store_journal.proofs.TextsLemmas.{is_journal}

map_on : {A B : Type 0} (P : A → Type 0) (f g : A → B) → ((x : A) → P x → f x ≡ g x) → (xs : List A)
    → AllByRecursion P xs → map f xs ≡ map g xs
map_on P f g same [] all = refl
map_on P f g same (x ∷ xs) all = ap₂ ◌∷◌ (same x all.0) (map_on P f g same xs all.1)

first_taken : {A B : Type 0} (f : A → B) (xs : List A) → slice_get (take 1 (map f xs)) 0
    ≡ option_map f (slice_get xs 0)
first_taken f [] = refl
first_taken f (x ∷ xs) = refl

one_at_most : {A : Type 0} (xs : List A) → length (take 1 xs) ≤ 1
one_at_most [] = omega arith
one_at_most (x ∷ xs) = omega arith

-- how many columns there are after the number
abbrev n : ℕ
n = length journal.columns

shown_is : (l : Filed) → AreKeepable journal.columns (values_in l)
    → eval_all (shown_terms n) ([] ∷ numbered_row id_of values_in l ∷ []) ≡ shown_filed l
shown_is l fit = ap (λ vs. Int (id_of l) ∷ vs)
    (reads_row [] (id_of l) 1 n (Null ∷ values_in l)
    ∙ columns_later 0 n Null (values_in l)
    ∙ ap (λ m. columns_at 0 m (values_in l)) (sym (as_many journal.columns (values_in l) fit))
    ∙ all_columns (values_in l))

module _ (db : Database) (lines : List Filed) (k : KeepsJournal db lines) where
  first_shows : (rows : List Row) → Answers (first_text journal) [] db rows → rows ≡ take 1 (map shown_filed lines)
  first_shows rows h =
      let sql = first_text journal in
      let terms = shown_terms n in
      let order = by (col 1 0) ∷ [] in
      let q = scan 23 [] terms order in
      let test = λ (l : Filed). true in
      let tested = λ (l : Filed). refl in
      let out = λ (l : Filed). out 23 [] terms order [] lines test tested l in
      let means = is_journal.first in
      let read = subst (λ c. Reads c db [] rows) (ap (λ s. command_of (understood s sql)) k.schema_is ∙ means.is)
      (h (subst (λ s. IsPlain (understood s sql)) (sym k.schema_is) means.plain) (ap (λ s. reads_listing s sql)
      k.schema_is ∙ means.unlisted)) in
      let a = read.answer Null in
      let all = map (λ (o : Row × Row). o.1) a.ordered in
      let full = map (numbered_row id_of values_in) lines in
      let whole : IsAnswerAs Null q (overlay db.trees []) [] all = record {
        staged = a.staged;
        grouped = a.grouped;
        kept = a.kept;
        distinct = a.distinct;
        ordered = a.ordered;
        same = a.same;
        sorted = a.sorted;
        shown = refl;
      } in
      let rising = ascending_weaker (λ (a b : Filed). id_of a <ℤ id_of b) (λ a b. output_cmp q (out a) (out b)
      ≡ Less) (λ a b h. then-Equal _ ∙ below_int (id_of a) (id_of b) h) lines ((k.keeps).kept).rising in
      let same = subst (λ ls. IsPermutation ls lines) (sym (filter_all test lines (all_of _ (λ _. refl) lines)))
      (IsPermutation-refl lines) in
      let every = shows_lines 23 [] terms order [] lines test tested Null all
      (answer_full 23 [] terms order [] (is_journal.numbered).under db.trees full ((k.keeps).kept).rows all whole) lines
      same rising
      ∙ map_on (λ (l : Filed). AreKeepable journal.columns (values_in l)) (λ l. (out l).1) shown_filed
      (λ l fit. shown_is l fit) lines (k.keeps).fitting in
      a.shown ∙ ap (take 1) every

  pub first_row_is : (rows : List Row) (row : Option Row) → (length rows ≤ 1 → row ≡ slice_get rows 0)
      → Answers (first_text journal) [] db rows → row ≡ option_map shown_filed (slice_get lines 0)
  first_row_is rows row first h =
      let shown = first_shows rows h in
      first (subst (λ rs. length rs ≤ 1) (sym shown) (one_at_most (map shown_filed lines)))
      ∙ ap (λ rs. slice_get rs 0) shown ∙ first_taken shown_filed lines
