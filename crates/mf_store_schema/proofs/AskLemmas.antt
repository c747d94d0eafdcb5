-- What a query that asks for a whole table shows, whatever rows it has.
use Rattle.std.proofs.Common.{◌≡◌, inl, inr, ◌≤◌, ◌+◌, ℕ, ℤ, zero, suc, true, false, List, [], ◌∷◌, map, filter, length}
use Rattle.std.proofs.Common.{Some, slice_get, refl, sym, ap, ◌∙◌, subst, arith, Ordering, Less, IsPermutation}
use Rattle.std.specs.List.{AllByRecursion, list_all}
use Rattle.std.proofs.lemmas.List.{length-map}
use Rattle.std.proofs.lemmas.List.Sorted.{IsPermutation-map}
use Rattle.sqlite.specs.declared.types.Value.TheVariants.{Null}
use Rattle.sqlite.specs.Order.{Row, column}
use Rattle.sqlite.specs.Tree.{Trees}
use Rattle.sqlite.specs.Term.{Term, holds, eval_all}
use Rattle.sqlite.specs.Query.{Output, output, IsAnswerAs}
use Rattle.sqlite.specs.Program.{overlay}
use Rattle.sqlite.specs.Table.{Table}
use Rattle.sqlite.specs.Schema.{Schema}
use Rattle.sqlite.specs.Listing.{understood, reads_listing}
use Rattle.sqlite.specs.Effect.{Database, Reads}
use Rattle.sqlite.proofs.Callers.{IsPlain, command_of}
use Rattle.sqlite_value.specs.declared.keys.Key.{Key}
use Rattle.sqlite_schema.specs.declared.schema.Constraint.TheVariants.{Datatype}
use Rattle.sqlite_rules.specs.Lists.{Has}
use Rattle.sqlite_catalog.specs.Listing.{IsSound}
use Rattle.sqlite_trees.specs.Tree.{IsAscending}
use Rattle.sqlite_keyed.proofs.ListLemmas.{map-map}
use Rattle.mf_store_sql.specs.Columns.{Columns, sql_column, sql_table}
use Rattle.mf_store_sql.specs.Keep.{AreSameValues, AreAlike, Keeps, same_id}
use Rattle.mf_store_sql.specs.Meanings.{columns_of, order_from}
use Rattle.mf_store_sql.specs.Queries.{Answers}
use Rattle.mf_store_sql.specs.Rows.{AreKeepable, first_cmp}
use Rattle.mf_store_sql.specs.Scan.{scan}
use Rattle.mf_store_sql.specs.Texts.{select_text}
use Rattle.mf_store_sql.proofs.ReadLemmas.{flat_map_if}
use Rattle.mf_store_sql.proofs.TableLemmas.{asked_shows}
use Rattle.mf_store_schema.specs.Whole.{HasRowids, IsAskable, ShowsTable}
use Rattle.mf_store_schema.proofs.OpenLemmas.{raw_row, kept_by_rows}
use Rattle.mf_store_schema.proofs.TreeLemmas.{raw_of, past_end, row_columns}

-- a column that is shown, and past the last of them NULL, as the row itself has there
shown_column : (params row : Row) (at n k : ℕ) → length row ≤ at + n
    → column (eval_all (columns_of 1 at n) (params ∷ row ∷ [])) k ≡ column row (at + k)
shown_column params row at zero k short = sym (past_end row (at + k) (omega (arith, short)))
shown_column params row at (suc n) zero short = ap (column row) (omega arith)
shown_column params row at (suc n) (suc k) short = shown_column params row (suc at) n k (omega (arith, short))
    ∙ ap (column row) (omega arith)

-- the rows as they are shown, under their rowids
abbrev pub filled : Row → ℕ → ℤ × Row → ℤ × Row
filled params n e = (e.0, eval_all (columns_of 1 1 n) (params ∷ raw_row e ∷ []))

row_filled : (params : Row) (n : ℕ) (e : ℤ × Row) → length e.1 ≤ n
    → AreSameValues (raw_row e) (raw_row (filled params n e))
row_filled params n e short zero = refl
row_filled params n e short (suc c) = let next : 1 + c ≡ suc c =
    omega arith in sym (shown_column params (raw_row e) 1 n c (omega (arith, short)) ∙ ap (column (raw_row e)) next)

rows_filled : (params : Row) (n : ℕ) (raw : List (ℤ × Row)) → AllByRecursion (λ (e : ℤ × Row). length e.1 ≤ n) raw
    → AreAlike (map raw_row raw) (map raw_row (map (filled params n) raw))
rows_filled params n [] all = tt
rows_filled params n (e ∷ raw) all = (row_filled params n e all.0, rows_filled params n raw all.1)

rows_shown : (params : Row) (n : ℕ) (raw : List (ℤ × Row)) → map (λ r. eval_all (columns_of 1 1 n) (params ∷ r ∷ []))
    (map raw_row raw) ≡ map (λ (e : ℤ × Row). e.1) (map (filled params n) raw)
rows_shown params n [] = refl
rows_shown params n (e ∷ raw) =
    ap (λ l. eval_all (columns_of 1 1 n) (params ∷ raw_row e ∷ []) ∷ l) (rows_shown params n raw)

-- the rowids stay apart
none_filled : (params : Row) (n : ℕ) (a : ℤ) (raw : List (ℤ × Row)) → AllByRecursion (λ (b : ℤ × Row). same_id a b.0
    ≡ false) raw → AllByRecursion (λ (b : ℤ × Row). same_id a b.0 ≡ false) (map (filled params n) raw)
none_filled params n a [] all = tt
none_filled params n a (e ∷ raw) all = (all.0, none_filled params n a raw all.1)

apart_filled : (params : Row) (n : ℕ) (raw : List (ℤ × Row)) → IsAscending (λ (a b : ℤ × Row). same_id a.0 b.0 ≡ false)
    raw → IsAscending (λ (a b : ℤ × Row). same_id a.0 b.0 ≡ false) (map (filled params n) raw)
apart_filled params n [] up = tt
apart_filled params n (e ∷ raw) up = (none_filled params n e.0 raw up.0, apart_filled params n raw up.1)

filter_true : {X : Type 0} (xs : List X) → filter (λ (x : X). true) xs ≡ xs
filter_true [] = refl
filter_true (x ∷ xs) = ap (λ l. x ∷ l) (filter_true xs)

-- each row of the tree is shown, in some order
pub shown_all : (at : ℕ) (project : List Term) (order : List (Term × Key)) (params : Row) (db : Trees) (rows : List Row)
    → IsAnswerAs Null (scan at [] project order) db params rows
    → IsPermutation (map (λ r. eval_all project (params ∷ r ∷ [])) (db at)) rows
shown_all at project order params db rows a =
    let q = scan at [] project order in
    let staged : a.staged ≡ map (λ r. params ∷ r ∷ []) (db at) =
    a.grouped ∙ flat_map_if (λ r. list_all (holds (params ∷ r ∷ [])) []) (λ r. params ∷ r ∷ []) (db at)
    ∙ ap (map (λ r. params ∷ r ∷ [])) (filter_true (db at)) in
    let kept : a.kept ≡ map (λ r. output q (params ∷ r ∷ [])) (db at) =
    a.distinct ∙ ap (map (output q)) staged ∙ map-map (output q) (λ r. params ∷ r ∷ []) (db at) in
    let both = IsPermutation-map (λ (o : Output). o.1) a.kept a.ordered a.same in
    let left : map (λ (o : Output). o.1) a.kept ≡ map (λ r. eval_all project (params ∷ r ∷ [])) (db at) =
    ap (map (λ (o : Output). o.1)) kept ∙ map-map (λ (o : Output). o.1) (λ r. output q (params ∷ r ∷ [])) (db at) in
    subst (λ l. IsPermutation (map (λ r. eval_all project (params ∷ r ∷ [])) (db at)) l) (sym a.shown)
    (subst (λ l. IsPermutation l (map (λ (o : Output). o.1) a.ordered)) left both)

all_at : {X : Type 0} (P : X → Type 0) (xs : List X) (x : X) → Has xs x → AllByRecursion P xs → P x
all_at P [] x h all = absurd h
all_at P (y ∷ ys) x (inl is) all = subst P (sym is) all.0
all_at P (y ∷ ys) x (inr h) all = all_at P ys x h all.1

-- what stands at a place stands in the list
has_at : {X : Type 0} (xs : List X) (place : ℕ) (x : X) → slice_get xs place ≡ Some x → Has xs x
has_at [] place x h = absurd (cc)
has_at (y ∷ xs) zero x h = inl (let e : x ≡ y = cc in e)
has_at (y ∷ xs) (suc place) x h = inr (has_at xs place x h)

module _ {X : Type 0} (stored : X → Row) (cmp : X → X → Ordering) (k : Schema) (place tree : ℕ) (t : Columns)
    (ordered : (a b : X) → cmp a b ≡ first_cmp t.key (stored a) (stored b))
    (fit : (x : X) → AreKeepable t.columns (stored x))
    (under : (trees : Trees) → overlay trees [] tree ≡ trees tree) (asked : IsAskable k place tree t) where
  abbrev n : ℕ
  n = length t.columns

  -- a table with its rowids in order whose rows are shown as those of items that rise by key keeps the items
  kept_by_answer : (db : Database) (rows : List Row) (items : List X) → db.schema ≡ k → IsSound k db.trees
      → HasRowids (db.trees tree) → Answers (select_text t 0) [] db rows → rows ≡ map stored items
      → IsAscending (λ a b. cmp a b ≡ Less) items → Keeps stored cmp (db.trees tree) items
  kept_by_answer db rows items has sound whole h are rising =
      let sql = select_text t 0 in
      let asks = asked.asks in
      let read = subst (λ c. Reads c db [] rows) (ap (λ s. command_of (understood s sql)) has ∙ asks.is)
      (h (subst (λ s. IsPlain (understood s sql)) (sym has) asks.plain) (ap (λ s. reads_listing s sql) has
      ∙ asks.unlisted)) in
      let rowed = db.trees tree in
      let show = λ (r : Row). eval_all (columns_of 1 1 n) ([] ∷ r ∷ []) in
      let seen : IsPermutation (map show rowed) rows = subst (λ t. IsPermutation (map show t) rows) (under db.trees)
      (shown_all tree (columns_of 1 1 n) (order_from 0 t.key) [] (overlay db.trees []) rows (read.answer Null)) in
      let raw = raw_of rowed whole in
      let typed = all_at (λ (t : Table). AllByRecursion (λ row. Rattle.sqlite_schema.specs.Rules.passes Datatype k
      db.trees t row ≡ true) (db.trees t.tree)) k.tables (sql_table tree t) (has_at k.tables place _ asked.there)
      (sound.obeys.rules Datatype) in
      let short = subst (λ m. AllByRecursion (λ (e : ℤ × Row). length e.1 ≤ m) raw.0) (length-map t.columns sql_column)
      (row_columns k (sql_table tree t) db.trees raw.0 refl (subst (AllByRecursion _) raw.1 typed)) in
      let near : AreAlike rowed (map raw_row (map (filled [] n) raw.0)) =
      subst (λ l. AreAlike l (map raw_row (map (filled [] n) raw.0))) (sym raw.1) (rows_filled [] n raw.0 short) in
      let shown : IsPermutation (map (λ (e : ℤ × Row). e.1) (map (filled [] n) raw.0)) rows =
      subst (λ l. IsPermutation l rows) (ap (map show) raw.1 ∙ rows_shown [] n raw.0) seen in
      kept_by_rows stored cmp rowed (map (filled [] n) raw.0) rows items near (apart_filled [] n raw.0 raw.2) shown are
      rising

  -- what the text that asks for the whole table shows of it
  pub shows_whole : (sql : List ℕ) → sql ≡ select_text t 0 → (db : Database) (rows : List Row) → db.schema ≡ k
      → IsSound k db.trees → Answers sql [] db rows → ShowsTable stored cmp (db.trees tree) rows
  shows_whole sql text db rows has sound told = record {
    shows = λ items keeps. asked_shows stored cmp k place tree t ordered fit under 0 [] asked.asks refl tt (λ x. true)
        (λ x. refl) db items rows has keeps h ∙ ap (map stored) (filter_true items);
    keeps = λ whole items rising are. kept_by_answer db rows items has sound whole h are rising;
  }
    where
      h : Answers (select_text t 0) [] db rows
      h = subst (λ s. Answers s [] db rows) text told
