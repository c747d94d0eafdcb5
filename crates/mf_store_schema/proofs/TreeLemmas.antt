-- What a database says of the rows of a table, whatever rows they are.
use Rattle.std.proofs.Common.{◌≡◌, inl, inr, ◌≤◌, ◌<◌, ◌+◌, ◌^◌, ℕ, ℤ, zero, suc, true, false, List, [], ◌∷◌, map}
use Rattle.std.proofs.Common.{length, None, refl, sym, ap, subst, arith, is_eq, Less, true≢false}
use Rattle.std.proofs.Math.Logic.{∥∥₁_elim}
use Rattle.std.specs.List.{AllByRecursion, list_all}
use Rattle.std.proofs.Math.Dec.{ltb}
use Rattle.std.proofs.lemmas.Bool.{and_parts, ltb-true}
use Rattle.sqlite.specs.declared.types.Value.TheVariants.{Null, Int, Real, Text, Blob}
use Rattle.sqlite.specs.Files.{AreFoundIn}
use Rattle.sqlite.specs.Order.{Row, column, value_cmp}
use Rattle.sqlite_trees.specs.declared.store.Shape.{Shape}
use Rattle.sqlite_trees.specs.Tree.{Trees, rowid, IsAscending}
use Rattle.sqlite_trees.specs.View.{IsShaped, IsOrdered}
use Rattle.sqlite_trees.specs.Objects.{catalog_tree, IsListed}
use Rattle.sqlite_trees.specs.Props.{IsOrdered-prop}
use Rattle.sqlite_schema.specs.declared.schema.Column.{Column}
use Rattle.sqlite_schema.specs.declared.schema.Table.{Table}
use Rattle.sqlite_schema.specs.declared.schema.Schema.{Schema}
use Rattle.sqlite_schema.specs.declared.schema.Constraint.TheVariants.{Datatype}
use Rattle.sqlite_schema.specs.Rules.{are_typed, passes}
use Rattle.sqlite_rules.specs.Lists.{Has}
use Rattle.sqlite_catalog.specs.Listing.{IsSound}
use Rattle.sqlite_catalog.proofs.LayoutLemmas.{table_shape}
use Rattle.sqlite_pool.specs.File.{version_in, in_use}
use Rattle.sqlite_wal.specs.Recovery.{Image}
use Rattle.sqlite_store.specs.Listed.{catalog_rows, is_listed}
use Rattle.sqlite_store.specs.Listing.{file_trees, all_shapes, all_reals}
use Rattle.sqlite_store.proofs.ListingLemmas.{all_ordered}
use Rattle.mf_store_sql.specs.Keep.{same_id}
use Rattle.mf_store_schema.specs.Versions.{schema_at}
use Rattle.mf_store_schema.specs.declared.versions.Version.{Version}
use Rattle.mf_store_schema.specs.declared.versions.Version.TheVariants.{First, Second, Third}
use Rattle.mf_store_schema.specs.Whole.{HasRowids, HaveRowidsUnder}
use Rattle.mf_store_schema.proofs.OpenLemmas.{raw_row}

-- what is listed as a table has its rowids in order, where the trees are in order
pub rowids_in_order : (trees : Trees) (shape : ℕ → Shape) (reals : ℕ → ℕ) (its : Schema) (t : Table)
    → IsListed (trees catalog_tree) shape reals → IsOrdered shape trees → IsSound its trees → Has its.tables t
    → HasRowids (trees t.tree)
rowids_in_order trees shape reals its t listed ordered sound there =
    let objects = subst (λ s. IsShaped s (trees catalog_tree)) listed.itself.0 (ordered catalog_tree) in
    subst (λ s. IsShaped s (trees t.tree)) (table_shape listed objects.0 sound.lists.listed t there).0 (ordered t.tree)

apart_from : (n : ℤ) (vs : Row) (raw : List (ℤ × Row)) → AllByRecursion (λ r. value_cmp (rowid (Int n ∷ vs)) (rowid r)
    ≡ Less) (map raw_row raw) → AllByRecursion (λ (b : ℤ × Row). same_id n b.0 ≡ false) raw
apart_from n vs [] all = tt
apart_from n vs (e ∷ raw) all = (ap is_eq all.0, apart_from n vs raw all.1)

-- the rows less their rowids, which are apart
pub raw_of : (rows : List Row) → HasRowids rows → (raw : List (ℤ × Row)) × (rows ≡ map raw_row raw)
    × IsAscending (λ (a b : ℤ × Row). same_id a.0 b.0 ≡ false) raw
raw_of [] h = ([], refl, tt)
raw_of ([] ∷ rows) h = absurd (true≢false (sym h.1.0))
raw_of ((Null ∷ vs) ∷ rows) h = absurd (true≢false (sym h.1.0))
raw_of ((Real x ∷ vs) ∷ rows) h = absurd (true≢false (sym h.1.0))
raw_of ((Text t ∷ vs) ∷ rows) h = absurd (true≢false (sym h.1.0))
raw_of ((Blob b ∷ vs) ∷ rows) h = absurd (true≢false (sym h.1.0))
raw_of ((Int n ∷ vs) ∷ rows) h =
    let more = raw_of rows (h.0.1, h.1.1) in
    let others = subst (AllByRecursion (λ r. value_cmp (rowid (Int n ∷ vs)) (rowid r) ≡ Less)) more.1 h.0.0 in
    ((n, vs) ∷ more.0, ap (λ l. (Int n ∷ vs) ∷ l) more.1, (apart_from n vs more.0 others, more.2))

-- ---- the columns of a row

no_more_columns : (at : ℕ) (cs : List Column) (vs : Row) → are_typed None at cs vs ≡ true → length vs ≤ length cs
no_more_columns at [] [] h = omega arith
no_more_columns at [] (v ∷ vs) h = absurd (true≢false (sym h))
no_more_columns at (c ∷ cs) [] h = omega arith
no_more_columns at (c ∷ cs) (v ∷ vs) h =
    let typed : are_typed None (at + 1) cs vs ≡ true = (and_parts _ _ h).1 in
    let more : length vs ≤ length cs = no_more_columns (at + 1) cs vs typed in
    omega (arith, more)

pub past_end : (row : Row) (n : ℕ) → length row ≤ n → column row n ≡ Null
past_end [] n h = refl
past_end (v ∷ row) zero h = absurd (omega (arith, h))
past_end (v ∷ row) (suc n) h = past_end row n (omega arith)

-- no row has more columns than its table
pub row_columns : (its : Schema) (t : Table) (trees : ℕ → List Row) (raw : List (ℤ × Row)) → t.key ≡ None
    → AllByRecursion (λ r. passes Datatype its trees t r ≡ true) (map raw_row raw)
    → AllByRecursion (λ (e : ℤ × Row). length e.1 ≤ length t.columns) raw
row_columns its t trees [] keyless typed = tt
row_columns its t trees (e ∷ raw) keyless typed = (
  no_more_columns 0 t.columns e.1 (subst (λ key. are_typed key 0 t.columns e.1 ≡ true) keyless
      (and_parts _ _ typed.0).0),
  row_columns its t trees raw keyless typed.1,
)

-- ---- the tables of a store and of files that were just opened

each_table : (P : Table → Type 0) (ts : List Table) → ((t : Table) → Has ts t → P t) → AllByRecursion P ts
each_table P [] h = tt
each_table P (t ∷ ts) h = (h t (inl refl), each_table P ts (λ u there. h u (inr there)))

-- trees with no rows have these in order
abbrev pub AreLow : Schema → Type 0
AreLow k = (trees : Trees) → ((t : ℕ) → t < 2 ^ 32 → HasRowids (trees t)) → HaveRowidsUnder k trees

low_tables : (trees : Trees) → ((t : ℕ) → t < 2 ^ 32 → HasRowids (trees t)) → (ts : List Table)
    → list_all (λ (t : Table). ltb t.tree (2 ^ 32)) ts ≡ true
    → AllByRecursion (λ (t : Table). HasRowids (trees t.tree)) ts
low_tables trees empty [] low = tt
low_tables trees empty (t ∷ ts) low =
    let both = and_parts _ _ low in
    (empty t.tree (ltb-true t.tree (2 ^ 32) both.0), low_tables trees empty ts both.1)

pub are_low : (v : Version) → AreLow (schema_at v)
are_low First trees empty = low_tables trees empty (schema_at First).tables refl
are_low Second trees empty = low_tables trees empty (schema_at Second).tables refl
are_low Third trees empty = low_tables trees empty (schema_at Third).tables refl

-- files that hold a database, or none
pub rowids_of_files : (k : Schema) (image : Image) (trees : Trees) → AreLow k → AreFoundIn image trees → IsSound k trees
    → HaveRowidsUnder k trees
rowids_of_files k image trees low (inl found) sound =
    let size = found.0 in
    let pages = found.1 in
    let wanted = found.2 in
    let files = file_trees size wanted pages in
    let ordered : IsOrdered (all_shapes wanted) files =
    ∥∥₁_elim found.4 (IsOrdered-prop _ _) (λ ours. all_ordered ours.file.db (version_in pages)) in
    let listed : IsListed (files catalog_tree) (all_shapes wanted) (all_reals wanted) =
    subst (λ rows. IsListed rows (all_shapes wanted) (all_reals wanted))
    (sym (catalog_rows size wanted (in_use size pages))) (is_listed wanted) in
    let its = subst (IsSound k) found.5 sound in
    subst (HaveRowidsUnder k) (sym found.5) (each_table (λ (t : Table). HasRowids (files t.tree)) k.tables (λ t there.
    rowids_in_order files (all_shapes wanted) (all_reals wanted) k t listed ordered its there))
rowids_of_files k image trees low (inr none) sound =
    low trees (λ t small. subst HasRowids (sym (none.1.0 t small)) (tt, tt))
