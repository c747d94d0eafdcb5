-- What the queries of a numbered table show of the lines that it keeps.
use Rattle.std.proofs.Common.{◌≡◌, ℕ, ℤ, pos, ◌<ℤ◌, ◌≤◌, Bool, true, List, [], ◌∷◌, ◌++◌, map, filter, take}
use Rattle.std.proofs.Common.{reverse, length, slice_get, Option, Some, None, option_map, refl, sym, ap, ap₂, ◌∙◌}
use Rattle.std.proofs.Common.{arith, subst}
use Rattle.std.proofs.Common.{Less, int_cmp, is_lt, is_gt, IsPermutation}
use Rattle.std.specs.List.{AllByRecursion, last_or}
use Rattle.std.proofs.lemmas.Int.{ints}
use Rattle.std.proofs.lemmas.List.{reverse-append}
use Rattle.std.proofs.lemmas.List.Sorted.{IsPermutation-refl, IsPermutation-reverse}
use Rattle.sqlite.specs.declared.types.Value.TheVariants.{Null, Int}
use Rattle.sqlite.specs.Collation.TheVariants.{Binary}
use Rattle.sqlite.specs.Effect.{Database, Reads}
use Rattle.sqlite.specs.Listing.{understood, reads_listing}
use Rattle.sqlite.specs.Ops.{binary, is_true}
use Rattle.sqlite.specs.Order.{Row, value_cmp}
use Rattle.sqlite.specs.Program.{overlay}
use Rattle.sqlite.specs.Query.{Query, output_cmp, IsAnswerAs}
use Rattle.sqlite.specs.Schema.{Schema}
use Rattle.sqlite.specs.Term.{holds, eval_all}
use Rattle.sqlite.proofs.Callers.{IsPlain, command_of}
use Rattle.sqlite_sql.specs.declared.ops.BinaryOp.TheVariants.{Compare}
use Rattle.sqlite_sql.specs.declared.ops.CompareOp.TheVariants.{Gt}
use Rattle.sqlite_value.proofs.OrderLemmas.{then-Equal, value_cmp-Int}
use Rattle.sqlite_keyed.proofs.ListLemmas.{all-filter, all_of, ascending-filter, ascending_weaker, filter_all}
use Rattle.mf_store_sql.specs.Numbered.{Numbered, numbered_row, is_above, Filed, id_of, values_in, shown_filed}
use Rattle.mf_store_sql.specs.Numbered.{KeepsLines, above_text, last_text}
use Rattle.mf_store_sql.specs.NumberedMeanings.{number_above, shown_terms, by_falling, rows_above, row_with_highest}
use Rattle.mf_store_sql.specs.NumberedMeanings.{IsNumbered, ShowsAs, ShowsAbove, ShowsLast}
use Rattle.mf_store_sql.specs.Queries.{Answers}
use Rattle.mf_store_sql.specs.Rows.{AreKeepable}
use Rattle.mf_store_sql.specs.Scan.{by, scan}
use Rattle.mf_store_sql.proofs.AlikeLemmas.{answer_full}
use Rattle.mf_store_sql.proofs.ColumnLemmas.{columns_at, columns_later, all_columns, reads_row, as_many}
use Rattle.mf_store_sql.proofs.CompareLemmas.{truth_back, and_true}
use Rattle.mf_store_sql.proofs.NumberedLemmas.{below_int, all-reverse, ascending-reverse, out, shows_lines}

-- ---- lists

map_on : {A B : Type 0} (P : A → Type 0) (f g : A → B) → ((x : A) → P x → f x ≡ g x) → (xs : List A)
    → AllByRecursion P xs → map f xs ≡ map g xs
map_on P f g same [] all = refl
map_on P f g same (x ∷ xs) all = ap₂ ◌∷◌ (same x all.0) (map_on P f g same xs all.1)

abbrev first_or : {A : Type 0} → Option A → List A → Option A
first_or o [] = o
first_or o (x ∷ xs) = Some x

first_behind : {A : Type 0} (o : Option A) (x : A) (ys : List A) → first_or (Some x) ys ≡ first_or o (ys ++ x ∷ [])
first_behind o x [] = refl
first_behind o x (y ∷ ys) = refl

last_first : {A : Type 0} (o : Option A) (xs : List A) → last_or o xs ≡ first_or o (reverse xs)
last_first o [] = refl
last_first o (x ∷ xs) = last_first (Some x) xs ∙ first_behind o x (reverse xs)
    ∙ ap (first_or o) (sym (reverse-append (x ∷ []) xs))

first_taken : {A B : Type 0} (f : A → B) (xs : List A) → slice_get (take 1 (map f xs)) 0
    ≡ option_map f (first_or None xs)
first_taken f [] = refl
first_taken f (x ∷ xs) = refl

one_at_most : {A : Type 0} (xs : List A) → length (take 1 xs) ≤ 1
one_at_most [] = omega arith
one_at_most (x ∷ xs) = omega arith

-- ---- an answer of whole rows

gt_values : (a b : ℤ) → is_true (binary (Compare Gt Binary) (Int a) (Int b)) ≡ is_gt (value_cmp (Int a) (Int b))
unfolding binary
gt_values a b = truth_back _

gt_turned : (a b : ℤ) → is_gt (int_cmp a b) ≡ is_lt (int_cmp b a)
gt_turned a b = grind (arith, ints)

shown_is : (t : Numbered) (params : Row) (l : Filed) → AreKeepable t.columns (values_in l)
    → eval_all (shown_terms (length t.columns)) (params ∷ numbered_row id_of values_in l ∷ []) ≡ shown_filed l
shown_is t params l fit = ap (λ vs. Int (id_of l) ∷ vs)
    (reads_row params (id_of l) 1 (length t.columns) (Null ∷ values_in l)
    ∙ columns_later 0 (length t.columns) Null (values_in l)
    ∙ ap (λ n. columns_at 0 n (values_in l)) (sym (as_many t.columns (values_in l) fit))
    ∙ all_columns (values_in l))

module _ (schema : Schema) (place tree : ℕ) (t : Numbered) (k : IsNumbered schema place tree t) (db : Database)
    (lines : List Filed) (has : db.schema ≡ schema) (keeps : KeepsLines t (db.trees tree) lines) where
  answer : (sql : List ℕ) (q : Query) → ShowsAs schema place tree t sql q → (params : Row) (rows : List Row)
      → Answers sql params db rows → IsAnswerAs Null q (overlay db.trees []) params rows
  answer sql q a params rows h =
      let read = subst (λ c. Reads c db params rows) (ap (λ s. command_of (understood s sql)) has ∙ a.is)
      (h (subst (λ s. IsPlain (understood s sql)) (sym has) a.plain) (ap (λ s. reads_listing s sql) has ∙ a.unlisted))
      in read.answer Null

  -- the rows above a number
  pub above_shows : (number most : ℕ) (rows : List Row)
      → Answers (above_text t) (Int (pos number) ∷ Int (pos most) ∷ []) db rows
      → rows ≡ map shown_filed (take most (filter (is_above id_of (pos number)) lines))
  above_shows number most rows h =
      let params : Row = Int (pos number) ∷ Int (pos most) ∷ [] in
      let terms = shown_terms (length t.columns) in
      let tests = number_above ∷ [] in
      let order = by (Rattle.sqlite.specs.Term.col 1 0) ∷ [] in
      let q = scan tree tests terms order in
      let test = is_above id_of (pos number) in
      let tested = λ (l : Filed). and_true _ ∙ gt_values (id_of l) (pos number)
      ∙ ap is_gt (value_cmp-Int (id_of l) (pos number)) ∙ gt_turned (id_of l) (pos number) in
      let out = λ (l : Filed). out tree tests terms order params lines test tested l in
      let a = answer (above_text t) (rows_above tree (length t.columns)) k.above params rows h in
      let all = map (λ (o : Row × Row). o.1) a.ordered in
      let full = map (numbered_row id_of values_in) lines in
      let whole : IsAnswerAs Null q (overlay db.trees []) params all = record {
        staged = a.staged;
        grouped = a.grouped;
        kept = a.kept;
        distinct = a.distinct;
        ordered = a.ordered;
        same = a.same;
        sorted = a.sorted;
        shown = refl;
      } in
      let rising = ascending_weaker (λ (a b : Filed). id_of a <ℤ id_of b) (λ a b. output_cmp q (out a) (out b)
      ≡ Less) (λ a b h. then-Equal _ ∙ below_int (id_of a) (id_of b) h) (filter test lines)
      (ascending-filter (λ (a b : Filed). id_of a <ℤ id_of b) test lines (keeps.kept).rising) in
      let every = shows_lines tree tests terms order params lines test tested Null all
      (answer_full tree tests terms order params k.under db.trees full (keeps.kept).rows all whole)
      (filter test lines) (IsPermutation-refl (filter test lines)) rising
      ∙ map_on (λ (l : Filed). AreKeepable t.columns (values_in l)) (λ l. (out l).1) shown_filed (λ l fit. shown_is t
      params l fit) (filter test lines) (all-filter _ test lines keeps.fitting) in
      a.shown ∙ ap (take most) every ∙ take-map most (filter test lines)
    where
      take-map : (n : ℕ) (ls : List Filed) → take n (map shown_filed ls) ≡ map shown_filed (take n ls)
      take-map Rattle.std.proofs.Common.zero ls = refl
      take-map (Rattle.std.proofs.Common.suc n) [] = refl
      take-map (Rattle.std.proofs.Common.suc n) (l ∷ ls) = ap (λ rs. shown_filed l ∷ rs) (take-map n ls)

  -- the row with the highest number
  pub last_shows : (rows : List Row) → Answers (last_text t) [] db rows
      → rows ≡ take 1 (map shown_filed (reverse lines))
  last_shows rows h =
      let terms = shown_terms (length t.columns) in
      let order = by_falling ∷ [] in
      let q = scan tree [] terms order in
      let test = λ (l : Filed). true in
      let tested = λ (l : Filed). refl in
      let out = λ (l : Filed). out tree [] terms order [] lines test tested l in
      let a = answer (last_text t) (row_with_highest tree (length t.columns)) k.last [] rows h in
      let all = map (λ (o : Row × Row). o.1) a.ordered in
      let full = map (numbered_row id_of values_in) lines in
      let whole : IsAnswerAs Null q (overlay db.trees []) [] all = record {
        staged = a.staged;
        grouped = a.grouped;
        kept = a.kept;
        distinct = a.distinct;
        ordered = a.ordered;
        same = a.same;
        sorted = a.sorted;
        shown = refl;
      } in
      let rising = ascending-reverse (λ (a b : Filed). id_of a <ℤ id_of b) (λ a b. output_cmp q (out a) (out b)
      ≡ Less) (λ a b h. then-Equal _ ∙ below_int (id_of a) (id_of b) h) lines (keeps.kept).rising in
      let same = subst (λ ls. IsPermutation ls (reverse lines)) (sym (filter_all test lines (all_of _ (λ _. refl)
      lines))) (IsPermutation-reverse lines) in
      let every = shows_lines tree [] terms order [] lines test tested Null all
      (answer_full tree [] terms order [] k.under db.trees full (keeps.kept).rows all whole) (reverse lines) same rising
      ∙ map_on (λ (l : Filed). AreKeepable t.columns (values_in l)) (λ l. (out l).1) shown_filed (λ l fit. shown_is t []
      l fit) (reverse lines) (all-reverse _ lines keeps.fitting) in
      a.shown ∙ ap (take 1) every

-- ---- the same of whatever table

pub shows_above : (sql : List ℕ) (number most : ℕ) (db : Database) (rows : List Row)
    → Answers sql (Int (pos number) ∷ Int (pos most) ∷ []) db rows → ShowsAbove sql number most db rows
shows_above sql number most db rows h = record {
  above = λ schema place tree t lines is k has keeps. above_shows schema place tree t k db lines has keeps number most
      rows (subst (λ s. Answers s (Int (pos number) ∷ Int (pos most) ∷ []) db rows) is h);
}

pub shows_last : (sql : List ℕ) (db : Database) (rows : List Row) (row : Option Row)
    → (length rows ≤ 1 → row ≡ slice_get rows 0) → Answers sql [] db rows → ShowsLast sql db row
shows_last sql db rows row first h = record { last = last }
  where
    last : (schema : Schema) (place tree : ℕ) (t : Numbered) (lines : List Filed) → sql ≡ last_text t
        → IsNumbered schema place tree t → db.schema ≡ schema → KeepsLines t (db.trees tree) lines
        → row ≡ option_map shown_filed (last_or None lines)
    last schema place tree t lines is k has keeps =
        let shown = last_shows schema place tree t k db lines has keeps rows (subst (λ s. Answers s [] db rows) is h)
        in first (subst (λ rs. length rs ≤ 1) (sym shown) (one_at_most (map shown_filed (reverse lines))))
        ∙ ap (λ rs. slice_get rs 0) shown ∙ first_taken shown_filed (reverse lines)
        ∙ ap (option_map shown_filed) (sym (last_first None lines))
