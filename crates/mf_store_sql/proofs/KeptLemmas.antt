-- What a statement does to a table that keeps items, and to the others.
use Rattle.std.proofs.Common.{◌≡◌, ◌≢◌, ℕ, ℤ, Bool, false, List, [], ◌∷◌, slice_get, Some, Ok, refl, sym, ap, ◌∙◌}
use Rattle.std.proofs.Common.{subst, Ordering, true}
use Rattle.std.specs.List.{AllByRecursion, list_all}
use Rattle.std.specs.Cmp.{IsTotalOrder}
use Rattle.sqlite.specs.declared.types.Value.TheVariants.{Null, Int}
use Rattle.sqlite.specs.Order.{Row}
use Rattle.sqlite.specs.Tree.{Trees}
use Rattle.sqlite.specs.Term.{Term, col, holds}
use Rattle.sqlite.specs.Query.{Output}
use Rattle.sqlite.specs.Program.{overlay}
use Rattle.sqlite.specs.Table.{Table}
use Rattle.sqlite.specs.Schema.{Schema}
use Rattle.sqlite.specs.Command.TheVariants.{Delete}
use Rattle.sqlite.specs.Edit.{Edit, id_in, edit_of, left_by, without_all, are_fresh, put_all}
use Rattle.sqlite.specs.Rowids.TheVariants.{Given}
use Rattle.std.proofs.lemmas.Bool.{and_parts, not-true}
use Rattle.sqlite_rules.specs.Edit.{Applies}
use Rattle.sqlite_schema.specs.declared.schema.Keys.{Keys}
use Rattle.sqlite_catalog.specs.Listing.{IsSound}
use Rattle.sqlite.specs.Listing.{understood}
use Rattle.sqlite.specs.State.{State, Executes}
use Rattle.sqlite.proofs.Callers.{IsPlain, command_of}
use Rattle.sqlite_trees.specs.Tree.{rowid, put_row}
use Rattle.sqlite_rules.specs.Calls.{ids_of}
use Rattle.sqlite_keyed.specs.Lists.{delete_where}
use Rattle.sqlite_keyed.proofs.ListLemmas.{map-map}
use Rattle.mf_store_sql.specs.Keep.{AreAlike, Keeps, KeepsWhole, drop_item, put_item}
use Rattle.mf_store_sql.specs.Scan.{scan}
use Rattle.mf_store_sql.proofs.KeepLemmas.{taken_rows, keeps-deleted, keeps-put, dropped}
use Rattle.mf_store_sql.proofs.AlikeLemmas.{answer_full, left_alike, put_alike, taken_alike}
use Rattle.mf_store_sql.proofs.ReadLemmas.{finds_ids}
use Rattle.mf_store_sql.specs.Meanings.{IsQuiet}
use Rattle.mf_store_sql.proofs.WriteLemmas.{went, opened, task, wrote}

-- the other tables are as they were
abbrev pub Spares : Schema → ℕ → Trees → Trees → Type 0
Spares schema tree old new = AllByRecursion (λ (t : Table). t.tree ≢ tree → new t.tree ≡ old t.tree) schema.tables

-- an edit that puts one row, where no other has its key, puts its item
pub put_kept : {X : Type 0} (stored : X → Row) (cmp : X → X → Ordering) → IsTotalOrder cmp → (schema : Schema)
    (keys : Keys) (db next : Trees) (edit : Edit) → Applies schema keys db edit next → (x : X) (items : List X) (id : ℤ)
    → edit.news ≡ (Int id ∷ stored x) ∷ [] → (full : List Row) → AreAlike (left_by db edit) full
    → KeepsWhole stored cmp full (drop_item cmp x items) → Keeps stored cmp (next edit.table.tree)
    (put_item cmp x items)
put_kept stored cmp total schema keys db next edit did x items id news full near kept =
    let row = Int id ∷ stored x in
    let rest = left_by db edit in
    let fresh = and_parts _ _ (subst (λ ns. are_fresh rest ns ≡ true) news did.fresh) in
    record {
      full = put_row row full;
      alike = subst (λ rows. AreAlike rows (put_row row full)) (sym (did.rows ∙ ap (put_all rest) news))
          (put_alike row rest full near);
      whole = keeps-put cmp total stored id x full (drop_item cmp x items) kept (dropped cmp total x items)
          (sym (taken_alike row rest full near) ∙ not-true _ fresh.0);
    }

module _ {X : Type 0} (stored : X → Row) (cmp : X → X → Ordering) (total : IsTotalOrder cmp) (schema : Schema) (at : ℕ)
    (table : Table) (there : slice_get schema.tables at ≡ Some table)
    (quiet : IsQuiet schema table.tree) (uncounted : table.is_counted ≡ false) (sql : List ℕ)
    (plain : IsPlain (understood schema sql)) where
  -- DELETE FROM table WHERE tests
  pub deletes_kept : (tests : List Term) → command_of (understood schema sql) ≡ Delete at (record {
    lets = [];
    body = scan table.tree tests (col 1 0 ∷ []) [];
  })
      → (params : Row) (test : X → Bool) → ((id : ℤ) (x : X) → list_all (holds (params ∷ (Int id ∷ stored x) ∷ []))
      tests ≡ test x) → ((trees : Trees) → overlay trees [] table.tree ≡ trees table.tree)
      → (old new : State) (count : ℕ) (items : List X) → old.now.schema ≡ schema
      → Keeps stored cmp (old.now.trees table.tree) items → Executes sql params old new (Ok count)
      → (new.now.schema ≡ schema) × Keeps stored cmp (new.now.trees table.tree) (delete_where test items)
      × Spares schema table.tree old.now.trees new.now.trees × IsSound schema new.now.trees
  deletes_kept tests is params test tested under old new count items has k h =
      let db = old.now.trees in
      let t = task schema at table there sql params old new has plain count in
      let it = opened schema at table there sql params old new has plain count _ is h (λ w. w) (λ out d. d) in
      let given = went it.2 in
      let did = wrote t quiet db (edit_of db table (ids_of given.0) Given 0 []) refl _ _ _ given.2 in
      let seen = answer_full table.tree tests (col 1 0 ∷ []) [] params under db k.full k.alike given.0
      (given.1.answer Null) in
      let ids = finds_ids stored cmp table.tree tests (col 1 0 ∷ []) [] params test tested (λ _. k.full) items k.whole
      Null given.0 seen (λ (o : Output). id_in (rowid o.1)) (λ e. refl) _
      (λ ordered is. ap ids_of is ∙ map-map _ (λ (o : Output). o.1) ordered) in
      let p = λ (r : Row). list_all (holds (params ∷ r ∷ [])) tests in
      let gone = taken_rows cmp total stored p test tested k.full items k.whole _ ids in
      let left = without_all k.full (ids_of given.0) in
      let after : Keeps stored cmp (new.now.trees table.tree) (delete_where test items) = record {
        full = left;
        alike = subst (λ t. AreAlike t left) (sym did.rows) (left_alike (ids_of given.0) (db table.tree) k.full
            k.alike);
        whole = subst (λ t. KeepsWhole stored cmp t (delete_where test items)) (sym gone) (keeps-deleted cmp total
            stored p test tested k.full items k.whole);
      } in
      (it.3, after, did.tables, it.4)
