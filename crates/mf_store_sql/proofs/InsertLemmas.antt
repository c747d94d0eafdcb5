-- What a plain INSERT of one row makes of a table that keeps items. It goes well only where the key is new, so then it
-- makes what the upsert makes.
use Rattle.std.proofs.Common.{◌≡◌, ℕ, ℤ, true, false, not, ◌&&◌, List, [], ◌∷◌, map, fold, find, length, ◌/◌, slice_get}
use Rattle.std.proofs.Common.{Some, None, Ok, refl, sym, ap, ◌∙◌, subst, Ordering, Less, Equal, Greater, is_eq}
use Rattle.std.specs.List.{AllByRecursion}
use Rattle.std.specs.Cmp.{IsTotalOrder}
use Rattle.std.specs.Ordering.{is_ne}
use Rattle.std.proofs.lemmas.Bool.{and_parts, not-true}
use Rattle.std.proofs.lemmas.List.Sorted.{list_any-IsPermutation}
use Rattle.sqlite.specs.declared.types.Value.{Value}
use Rattle.sqlite.specs.declared.types.Value.TheVariants.{Null, Int}
use Rattle.sqlite.specs.Order.{Row, value_cmp}
use Rattle.sqlite.specs.Tree.{Trees}
use Rattle.sqlite.specs.Term.{Term}
use Rattle.sqlite.specs.Table.{Table}
use Rattle.sqlite.specs.Schema.{Schema}
use Rattle.sqlite.specs.Source.TheVariants.{Values}
use Rattle.sqlite.specs.Ops.{binary}
use Rattle.sqlite.specs.Cast.{cast, cast_row}
use Rattle.sqlite.specs.Kind.TheVariants.{Integer}
use Rattle.sqlite.specs.Edit.{edit_of, next_rowid, is_taken, with_rowid, are_fresh, put_all}
use Rattle.sqlite.specs.Rowids.TheVariants.{Chosen}
use Rattle.sqlite_rules.specs.declared.error.Rowids.{Rowids}
use Rattle.sqlite.specs.Effect.{value_rows}
use Rattle.sqlite.specs.Rows.{Written, Task, higher, stamped, rowids_for, count_of}
use Rattle.sqlite.specs.Does.{WritesRows}
use Rattle.sqlite.specs.Listing.{understood}
use Rattle.sqlite.specs.State.{State, Executes}
use Rattle.sqlite.proofs.Callers.{IsPlain, command_of}
use Rattle.sqlite_catalog.specs.Listing.{IsSound}
use Rattle.sqlite_schema.specs.declared.command.Command.TheVariants.{Insert}
use Rattle.sqlite_schema.specs.declared.schema.Index.{Index}
use Rattle.sqlite_schema.specs.declared.schema.Constraint.TheVariants.{Unique}
use Rattle.sqlite_schema.specs.Rules.{passes, guards, clashes, agree, differ}
use Rattle.sqlite_rules.specs.Edit.{Applies}
use Rattle.sqlite_rules.specs.Lists.{Has}
use Rattle.sqlite_rules.proofs.ListLemmas.{all_has, all_from, test_has, has_got, has_filtered}
use Rattle.sqlite_trees.specs.Tree.{rowid, put_row, has_rowid}
use Rattle.sqlite_keyed.proofs.ListLemmas.{slice_get-filter, filter_none, filter_all, all_weaker, all_map}
use Rattle.sqlite_keyed.proofs.ListLemmas.{none_from_any, any_from_none}
use Rattle.mf_store_sql.specs.Keep.{Keeps, KeepsWhole, row_with_id, same_id, put_item, drop_item}
use Rattle.mf_store_sql.proofs.CompareLemmas.{truth_back, and_true, cast_null}
use Rattle.sqlite_rules.proofs.TableLemmas.{has_put, dropped_again}
use Rattle.sqlite_rules.proofs.ProbeLemmas.{mapped_has}
use Rattle.mf_store_sql.specs.Meanings.{IsQuiet}
use Rattle.mf_store_sql.proofs.WriteLemmas.{went, same_value, edited_by, chosen, not_counted, opened, task}
use Rattle.mf_store_sql.proofs.KeptLemmas.{Spares, put_kept}
use Rattle.mf_store_sql.proofs.AlikeLemmas.{agree_alike, has_tree}

-- a row that was there still is, once another is put under a free rowid
has_other : (id : ℤ) (vs : Row) (rows : List Row) (x : Row) → is_taken rows (Int id ∷ vs) ≡ false → Has rows x
    → Has (put_row (Int id ∷ vs) rows) x
has_other id vs rows x free h = (has_filtered (λ r. not (has_rowid id r)) (put_row (Int id ∷ vs) rows) x
    (subst (λ l. Has l x) (sym (dropped_again id (Int id ∷ vs) rows refl free)) h)).0

-- ---- a unique key that two rows cannot share

not_equal : (o : Ordering) → is_ne o ≡ not (is_eq o)
not_equal Less = refl
not_equal Equal = refl
not_equal Greater = refl

differs : (a b : ℤ) → differ (Int a) (Int b) ≡ not (same_id a b)
unfolding binary
differs a b = truth_back _ ∙ not_equal (value_cmp (Int a) (Int b))

unshared : (schema : Schema) (table : Table) (index : Index) (trees : Trees) → Has schema.tables table
    → Has schema.indexes index → guards index table ≡ true → IsSound schema trees
    → (n r : Row) → Has (trees table.tree) n → Has (trees table.tree) r → differ (rowid r) (rowid n) ≡ true
    → agree index.order index.columns r index.columns n ≡ false
unshared schema table index trees has_table has_index guarded sound n r has_n has_r apart =
    let rows = trees table.tree in
    let each = all_has (λ (t : Table). AllByRecursion (λ row. passes Unique schema trees t row ≡ true) (trees t.tree))
    schema.tables table (sound.obeys.rules Unique) has_table in
    let passed : passes Unique schema trees table n ≡ true =
    all_has (λ (row : Row). passes Unique schema trees table row ≡ true) rows n each has_n in
    let clear = not-true _ (rw guarded at (test_has (λ (i : Index). not (guards i table && clashes i.order i.columns
    rows n)) schema.indexes index passed has_index)) in
    let here = all_has (λ (o : Row). (agree index.order index.columns o index.columns n && differ (rowid o) (rowid n))
    ≡ false) rows r (none_from_any _ rows clear) has_r in
    sym (and_true _) ∙ ap (λ b. agree index.order index.columns r index.columns n && b) (sym apart) ∙ here

-- ---- what the statement does

module _ (t : Task) (at : ℕ) (quiet : IsQuiet t.schema t.table.tree) (uncounted : t.table.is_counted ≡ false)
    (db : Trees) where
  inserted : (terms : List Term) (width : ℕ) (values : Row) (written : Written)
      → value_rows (stamped t.table t.params) width (length terms / width) terms ≡ (Null ∷ values) ∷ []
      → WritesRows t db (Insert at (Values terms width)) (Ok written)
      → Applies t.schema t.keys db (edit_of db t.table [] Chosen 0 ((Null ∷ values) ∷ [])) written.trees
  inserted terms width values written one h =
      let given = went h in
      let after = went given.2 in
      let top = count_of after.0 in
      let edit = edit_of db t.table [] (rowids_for t.table top) 0 given.0 in
      let put = went after.2 in
      let counted = went put.2 in
      let trees : written.trees ≡ put.0 = ap (λ (it : Written). it.trees) (same_value counted.2)
      ∙ not_counted t uncounted put.0 counted.0 after.0 (fold higher top edit.news) counted.1 in
      subst (λ (p : Rowids × List Row × Trees). Applies t.schema t.keys db (edit_of db t.table [] p.0 0 p.1) p.2)
      {x = (rowids_for t.table top, given.0, put.0)} {y = (Chosen, (Null ∷ values) ∷ [], written.trees)}
      (λ i. (chosen t uncounted top i, (given.1.1 ∙ one) i, sym trees i)) (edited_by t quiet db edit put.0 refl put.1)

-- ---- the same over items

module _ {X : Type 0} (stored : X → Row) (cmp : X → X → Ordering) (total : IsTotalOrder cmp) (schema : Schema) (at : ℕ)
    (table : Table) (there : slice_get schema.tables at ≡ Some table)
    (quiet : IsQuiet schema table.tree) (uncounted : table.is_counted ≡ false) (sql : List ℕ)
    (plain : IsPlain (understood schema sql)) where
  -- INSERT INTO table VALUES (..): the index is that of the key
  pub inserts_kept : (terms : List Term) (width : ℕ) (index : Index) → command_of (understood schema sql)
      ≡ Insert at (Values terms width) → Has schema.indexes index → guards index table ≡ true
      → (params : Row) (x : X) → value_rows (stamped table params) width (length terms / width) terms
      ≡ (Null ∷ stored x) ∷ [] → ((v : Value) → cast_row table (v ∷ stored x) ≡ cast Integer v ∷ stored x)
      → ((id i : ℤ) (y : X) → agree index.order index.columns (Int i ∷ stored y) index.columns (Int id ∷ stored x)
      ≡ is_eq (cmp x y))
      → (old new : State) (count : ℕ) (items : List X) → old.now.schema ≡ schema
      → Keeps stored cmp (old.now.trees table.tree) items → Executes sql params old new (Ok count)
      → (new.now.schema ≡ schema) × Keeps stored cmp (new.now.trees table.tree) (put_item cmp x items)
      × Spares schema table.tree old.now.trees new.now.trees × IsSound schema new.now.trees
      × (find (λ y. is_eq (cmp x y)) items ≡ None)
  inserts_kept terms width index is has_index guarded params x one same agrees old new count items has k h =
      let t = task schema at table there sql params old new has plain count in
      let it = opened schema at table there sql params old new has plain count _ is h (λ w. w) (λ out d. d) in
      let sound : IsSound schema new.now.trees = it.4 in
      let db = old.now.trees in
      let rows = db table.tree in
      let next = new.now.trees in
      let edit = edit_of db table [] Chosen 0 ((Null ∷ stored x) ∷ []) in
      let step : Applies schema t.keys db edit next =
      inserted t at quiet uncounted db terms width (stored x) _ one it.2 in
      let id = next_rowid rows in
      let n : Row = Int id ∷ stored x in
      let news : edit.news ≡ n ∷ [] =
      ap (λ (r : Row). with_rowid Chosen rows r ∷ []) (same Null ∙ ap (λ v. v ∷ stored x) cast_null) in
      let free : is_taken rows n ≡ false = not-true _ (and_parts _ _ (subst (λ ns. are_fresh rows ns ≡ true) news
      step.fresh)).0 in
      let put : next table.tree ≡ put_row n rows = step.rows ∙ ap (put_all rows) news in
      let others = none_from_any (λ (r : Row). is_eq (value_cmp (rowid r) (rowid n))) rows free in
      let has_new : Has (next table.tree) n = subst (λ rs. Has rs n) (sym put) (has_put n rows) in
      let es = k.whole.entries in
      let q = λ (y : X). is_eq (cmp x y) in
      let clear : AllByRecursion (λ (e : ℤ × X). q e.1 ≡ false) es =
      all_from (λ (e : ℤ × X). q e.1 ≡ false) es (λ e l.
      (let r = row_with_id stored e in
      let here : Has k.full r = subst (λ rs. Has rs r) (sym k.whole.rows) (mapped_has (row_with_id stored) es e l) in
      let s = has_tree rows k.full k.alike r here in
      let apart : same_id e.0 id ≡ false = ap (λ v. is_eq (value_cmp v (rowid n))) (sym (s.2 0))
      ∙ all_has (λ (o : Row). is_eq (value_cmp (rowid o) (rowid n)) ≡ false) rows s.0 others s.1 in
      let other : differ (rowid s.0) (rowid n) ≡ true = ap (λ v. differ v (rowid n)) (s.2 0) ∙ differs e.0 id
      ∙ ap not apart in
      sym (agrees id e.0 e.1) ∙ sym (agree_alike index.order index.columns s.0 r index.columns n s.2)
      ∙ unshared schema table index next (has_got schema.tables at table there) has_index guarded sound n s.0 has_new
      (subst (λ rs. Has rs s.0) (sym put) (has_other id (stored x) rows s.0 free s.1)) other)) in
      let none : AllByRecursion (λ y. q y ≡ false) items =
      none_from_any q items (sym (list_any-IsPermutation q (map (λ (e : ℤ × X). e.1) es) items k.whole.same)
      ∙ any_from_none q (map (λ (e : ℤ × X). e.1) es) (all_map (λ y. q y ≡ false) (λ (e : ℤ × X). e.1) es clear)) in
      let all : drop_item cmp x items ≡ items = filter_all (λ y. not (q y)) items (all_weaker (λ y. q y ≡ false)
      (λ y. not (q y) ≡ true) (λ y f. ap not f) items none) in
      let ends : Keeps stored cmp (next table.tree) (put_item cmp x items) =
      put_kept stored cmp total schema t.keys db next edit step x items id news k.full k.alike
      (subst (KeepsWhole stored cmp k.full) (sym all) k.whole) in
      let not_found : find q items ≡ None =
      sym (slice_get-filter q items) ∙ ap (λ l. slice_get l 0) (filter_none q items none) in
      (it.3, ends, step.tables, sound, not_found)
