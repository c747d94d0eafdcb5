-- What the texts of a table do to the rows that it keeps, whatever its columns are.
use Rattle.std.proofs.Common.{◌≡◌, ℕ, ℤ, zero, suc, ◌+◌, ◌-◌, ◌/◌, ◌*◌, Bool, true, List, [], ◌∷◌, ◌++◌, map, filter}
use Rattle.std.proofs.Common.{find, take, length, None, Ok, refl, sym, ap, ap₂, ◌∙◌, arith, subst, Ordering, inl, inr}
use Rattle.std.proofs.Common.{is_eq}
use Rattle.std.specs.Cmp.{IsTotalOrder}
use Rattle.std.proofs.lemmas.Cmp.{on_total}
use Rattle.std.proofs.lemmas.List.{append-nil, length-map, take_all}
use Rattle.std.proofs.lemmas.Nat.{div-mul-add}
use Rattle.sqlite.specs.declared.types.Value.{Value}
use Rattle.sqlite.specs.declared.types.Value.TheVariants.{Null, Int}
use Rattle.sqlite.specs.Order.{Row, column}
use Rattle.sqlite.specs.Cast.{cast, cast_row}
use Rattle.sqlite.specs.Kind.TheVariants as kind
use Rattle.sqlite.specs.Tree.{Trees}
use Rattle.sqlite.specs.Term.{lit, col, eval_all}
use Rattle.sqlite.specs.Effect.{Database, value_rows}
use Rattle.sqlite.specs.Rows.{stamped}
use Rattle.sqlite.specs.Schema.{Schema}
use Rattle.sqlite.specs.State.{State, Executes}
use Rattle.sqlite.specs.Program.{overlay}
use Rattle.sqlite_catalog.specs.Listing.{IsSound}
use Rattle.sqlite_schema.specs.Rules.{agree}
use Rattle.sqlite_value.specs.Keys.{plain}
use Rattle.mf_store_sql.specs.Keep.{Keeps, put_item}
use Rattle.mf_store_sql.specs.Queries.{Answers}
use Rattle.mf_store_sql.proofs.CompareLemmas.{or_false}
use Rattle.mf_store_sql.proofs.KeptLemmas.{Spares}
use Rattle.mf_store_sql.proofs.InsertLemmas.{inserts_kept}
use Rattle.mf_store_sql.proofs.ShownLemmas.{shown_kept}
use Rattle.mf_store_sql.proofs.UpsertLemmas.{upserted, puts_kept, updates_kept}
use Rattle.mf_store_sql.proofs.WriteLemmas.{opened, task}
use Rattle.mf_store_sql.specs.Scan.{eq, scan}
use Rattle.mf_store_sql.specs.Columns.{Columns, upwards, sql_table, key_index}
use Rattle.mf_store_sql.specs.Texts.{select_text, insert_text, upsert_text, names_of}
use Rattle.mf_store_sql.specs.Rows.{first_cmp, begins, AreKeepable, ArePlain}
use Rattle.mf_store_sql.specs.Meanings.{columns_of, tests_from, order_from, are_always, Asks, IsKept}
use Rattle.mf_store_sql.proofs.ColumnLemmas.{columns_at, all_columns, reads_row, reads_parameters, as_many, all_kept}
use Rattle.mf_store_sql.proofs.ColumnLemmas.{are_plain, few_always}
use Rattle.mf_store_sql.proofs.KeyLemmas.{columns_total, tested, sorts, sorted_by, agrees}
use Rattle.mf_store_sql.proofs.UpdateLemmas.{updated, behind}

many_upwards : (at n : ℕ) → length (upwards at n) ≡ n
many_upwards at zero = refl
many_upwards at (suc n) = ap suc (many_upwards (suc at) n)

-- the values of a statement: NULL for the rowid, and the parameters
pub one_row : (tree : ℕ) (t : Columns) (row : Row) → length row ≡ length t.columns
    → value_rows (stamped (sql_table tree t) row) (suc (length t.columns))
    (length (lit Null ∷ columns_of 0 0 (length t.columns)) / suc (length t.columns))
    (lit Null ∷ columns_of 0 0 (length t.columns)) ≡ (Null ∷ row) ∷ []
one_row tree t row many =
    let w = length t.columns in
    let terms = lit Null ∷ columns_of 0 0 w in
    let long : length terms ≡ suc w = ap suc (length-map (upwards 0 w) (col 0) ∙ many_upwards 0 w) in
    let once : length terms / suc w
    ≡ 1 = ap (λ n. n / suc w) (long ∙ (let e : suc w ≡ 1 * suc w + 0 = omega arith in e))
    ∙ div-mul-add 1 (suc w) 0 (omega arith) in
    let whole : take (suc w) terms ≡ terms = take_all (suc w) terms (omega (arith, long)) in
    let values : eval_all terms (row ∷ []) ≡ Null ∷ row = ap (λ vs. Null ∷ vs) (reads_parameters [] 0 w row
    ∙ ap (λ n. columns_at 0 n row) (sym many) ∙ all_columns row) in
    ap₂ (λ ps n. value_rows ps (suc w) n terms) (append-nil row) once
    ∙ ap (λ ts. eval_all ts (row ∷ []) ∷ []) whole ∙ ap (λ r. r ∷ []) values

-- an order by first columns is a total one
pub keyed_total : {X : Type 0} (stored : X → Row) (by : X → X → Ordering) (n : ℕ)
    → ((a b : X) → by a b ≡ first_cmp n (stored a) (stored b)) → IsTotalOrder by
keyed_total stored by n ordered = subst IsTotalOrder (λ i a b. sym (ordered a b) i)
    (on_total stored (columns_total 0 n))

module _ {X : Type 0} (stored : X → Row) (by : X → X → Ordering) (schema : Schema) (place tree : ℕ) (t : Columns)
    (ordered : (a b : X) → by a b ≡ first_cmp t.key (stored a) (stored b))
    (fit : (x : X) → AreKeepable t.columns (stored x))
    (under : (trees : Trees) → overlay trees [] tree ≡ trees tree) where
  whole_row : (params : Row) (id : ℤ) (x : X)
      → eval_all (columns_of 1 1 (length t.columns)) (params ∷ (Int id ∷ stored x)
      ∷ []) ≡ stored x
  whole_row params id x = reads_row params id 0 (length t.columns) (stored x)
      ∙ ap (λ n. columns_at 0 n (stored x)) (sym (as_many t.columns (stored x) (fit x))) ∙ all_columns (stored x)

  -- SELECT: the rows whose first columns have the values, in the order of their key
  pub asked_shows : (n : ℕ) (params : Row) → Asks schema place tree t n → are_always n t.columns ≡ true
      → ArePlain 0 n params → (is : X → Bool) → ((x : X) → is x ≡ begins n params (stored x))
      → (db : Database) (items : List X) (rows : List Row) → db.schema ≡ schema → Keeps stored by (db.trees tree) items
      → Answers (select_text t n) params db rows → rows ≡ map stored (filter is items)
  asked_shows n params a first p is same db items rows has keeps h =
      shown_kept stored by schema tree (select_text t n) a.plain a.unlisted (tests_from 0 n)
      (columns_of 1 1 (length t.columns)) (order_from 0 t.key) (names_of t) a.is params is
      (λ id x. tested 0 n params (stored x) id p (are_plain n t.columns (stored x) first (fit x)) ∙ sym (same x))
      (λ x. columns_at 0 t.key (stored x)) stored
      (λ id x. ap₂ (λ (s r : Row). (s, r)) (sorts params id 0 t.key (stored x)) (whole_row params id x))
      (λ a b. sorted_by 0 t.key (stored a) (stored b) ∙ sym (ordered a b)) under db items rows has keeps h

module _ {X : Type 0} (stored : X → Row) (by : X → X → Ordering) (schema : Schema) (place tree : ℕ) (t : Columns)
    (ordered : (a b : X) → by a b ≡ first_cmp t.key (stored a) (stored b))
    (fit : (x : X) → AreKeepable t.columns (stored x)) (k : IsKept schema place tree t) where
  by_total : IsTotalOrder by
  by_total = keyed_total stored by t.key ordered

  keyed : (x : X) → ArePlain 0 t.key (stored x)
  keyed x = are_plain t.key t.columns (stored x) k.always (fit x)

  many : (x : X) → length (stored x) ≡ length t.columns
  many x = as_many t.columns (stored x) (fit x)

  kept_row : (x : X) (v : Value) → cast_row (sql_table tree t) (v ∷ stored x) ≡ cast kind.Integer v ∷ stored x
  kept_row x v = ap (λ r. cast kind.Integer v ∷ r) (all_kept t.columns (stored x) (fit x))

  agreed : (x : X) (id i : ℤ) (y : X) → agree plain (upwards 1 t.key) (Int i ∷ stored y) (upwards 1 t.key) (Int id
      ∷ stored x) ≡ is_eq (by x y)
  agreed x id i y = agrees 0 t.key id i (stored x) (stored y) (keyed x) (keyed y) ∙ ap is_eq (sym (ordered x y))

  -- INSERT: the row is put, and none had its key
  pub added : (x : X) (old new : State) (count : ℕ) (items : List X) → old.now.schema ≡ schema
      → Keeps stored by (old.now.trees tree) items → Executes (insert_text t) (stored x) old new (Ok count)
      → (new.now.schema ≡ schema) × Keeps stored by (new.now.trees tree) (put_item by x items)
      × Spares schema tree old.now.trees new.now.trees × IsSound schema new.now.trees
      × (find (λ y. is_eq (by x y)) items ≡ None)
  added x old new count items has keeps h =
      inserts_kept stored by by_total schema place (sql_table tree t) k.there k.quiet refl (insert_text t) k.adds.plain
      (lit Null ∷ columns_of 0 0 (length t.columns)) (suc (length t.columns)) (key_index tree t) k.adds.is k.index
      k.guards_it (stored x) x (one_row tree t (stored x) (many x)) (kept_row x)
      (agreed x) old new count items has keeps h

  -- INSERT .. ON CONFLICT: the row is put, in place of the one with its key
  pub put : (x : X) (old new : State) (count : ℕ) (items : List X) → old.now.schema ≡ schema
      → Keeps stored by (old.now.trees tree) items → Executes (upsert_text t) (stored x) old new (Ok count)
      → (new.now.schema ≡ schema) × Keeps stored by (new.now.trees tree) (put_item by x items)
      × Spares schema tree old.now.trees new.now.trees × IsSound schema new.now.trees
  put x old new count items has keeps h =
      let w = length t.columns in
      let key = upwards 1 t.key in
      let db = old.now.trees in
      let next = new.now.trees in
      let sql = upsert_text t in
      let its = task schema place (sql_table tree t) k.there sql (stored x) old new has k.puts.plain count in
      let it = opened schema place (sql_table tree t) k.there sql (stored x) old new has k.puts.plain count _
      k.puts.is h (λ w. w) (λ out d. d) in
      let project = col 1 0 ∷ col 1 0 ∷ columns_of 1 1 t.key ++ columns_of 0 (w + 2 + t.key) (w - t.key) in
      let did = upserted its place k.quiet refl db (lit Null ∷ columns_of 0 0 w) (suc w) (stored x) key (scan tree
      (eq (col 1 0) (col 0 w) ∷ []) project []) _ (one_row tree t (stored x) (many x)) (kept_row x) it.2 in
      let id = did.0 in
      let at_end : w ≡ length (stored x) + 0 = omega (arith, many x) in
      let few = few_always t.key t.columns k.always in
      let clash = λ (i : ℤ) (y : X). k.alone (Int id ∷ stored x) (Int i ∷ stored y) ∙ or_false _ ∙ agreed x id i y in
      let ends : Keeps stored by (next tree) (put_item by x items) × Spares schema tree db next = elim did.3 [
        | inl free ↦ puts_kept stored by by_total its db next x items keeps (kept_row x) key id clash did.1 did.2 free.0
            free.1
        | inr other ↦ updates_kept stored by by_total its db next x items keeps (kept_row x) key id clash did.1 did.2 w
            project (λ v vs. ap (column (stored x ++ v ∷ vs)) at_end ∙ behind (stored x) (v ∷ vs) 0)
            (λ i y tied. updated tree t id i (stored x) (stored y) k.always (many x) few (keyed x) (keyed y)
            (ap is_eq (sym (ordered x y)) ∙ tied)) k.under other.0 other.1 other.2
      ] in
      (it.3, ends.0, ends.1, it.4)
