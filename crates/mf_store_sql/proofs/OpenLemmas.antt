-- What a database in memory is as it is made; and it is clean ever after.
use Rattle.std.proofs.Common.{◌≡◌, List, [], ◌∷◌, true, refl, ap, subst, ◌∙◌, IsTrue}
use Rattle.std.specs.List.{AllZip}
use Rattle.std.proofs.lemmas.Bool.{and_from}
use Rattle.sqlite_disk.specs.declared.Disk.{Ghosts}
use Rattle.sqlite_pool.specs.Pool as pool
use Rattle.sqlite_store.specs.declared.store.FileStore.{FileStore}
use Rattle.sqlite_store.specs.FileStore.{view, schema_of, IsReady}
use Rattle.sqlite_store.specs.Listing.{listed_from}
use Rattle.sqlite_store.specs.Listed.{catalog_rows}
use Rattle.sqlite_trees.specs.Tree.{Trees}
use Rattle.sqlite_trees.specs.Objects.{catalog_tree}
use Rattle.sqlite_trees.proofs.Doubt.{no_doubt}
use Rattle.sqlite_schema.specs.declared.schema.Schema.{Schema}
use Rattle.sqlite_catalog.specs.Listing.{IsSound, AreListed, IsTableRow, IsIndexRow, IsViewRow}
use Rattle.sqlite.specs.State.{HasCleanDisk}
use Rattle.sqlite.specs.Held.{Held}
use Rattle.sqlite.specs.Steps as steps
use Rattle.sqlite.specs.Files.{file_state, IsOpened}

-- where each file of a type is clean, so is each store over two of them
clean_store : {D : Type 0} {g : Ghosts D} → ((file : D) → g.is_clean file ≡ true) → (store : FileStore D g)
    → IsTrue (view store).is_clean
unfolding pool.state
clean_store clean store = and_from _ _ (clean _) (clean _)

-- and each connection
pub always_clean : {D : Type 0} {g : Ghosts D} → ((file : D) → g.is_clean file ≡ true) → (c : Held (FileStore D g))
    → HasCleanDisk (file_state c)
always_clean clean c = no_doubt (view c.store).is_clean (clean_store clean c.store)

pub made_fresh : {D : Type 0} {g : Ghosts D} → ((file : D) → g.is_clean file ≡ true) → (store : FileStore D g)
    → IsReady store → IsTrue (view store).is_numbered
    → steps.IsFresh (view store)
made_fresh clean store ready numbered =
    record {
      sound = ready.sound (no_doubt _ (clean_store clean store));
      numbered = numbered;
      clean = ready.clean;
      unmarked = ready.unmarked;
    }

-- a store that was made for no object lists none
pub made_empty : {D : Type 0} {g : Ghosts D} → ((file : D) → g.is_clean file ≡ true) → (store : FileStore D g)
    → schema_of store ≡ [] → (view store).trees catalog_tree ≡ []
made_empty clean store none = rw (clean_store clean store) (catalog_rows _ _ _ ∙ ap (listed_from 0) none)

none_zipped : {A B : Type 0} (P : A → B → Type 0) (ys : List B) → AllZip P [] ys → ys ≡ []
none_zipped P [] h = refl
none_zipped P (y ∷ ys) h = absurd h

-- a database with no listed object has no table
no_tables : (schema : Schema) (db : Trees) → db catalog_tree ≡ [] → IsSound schema db → schema ≡ record {
  tables = [];
  indexes = [];
  views = [];
}
no_tables schema db none sound =
    let listed = subst (λ objects. AreListed objects schema) none sound.lists.listed in
    let tables = none_zipped IsTableRow schema.tables listed.tables in
    let indexes = none_zipped (IsIndexRow schema.tables) schema.indexes listed.indexes in
    let views = none_zipped IsViewRow schema.views listed.views in
    λ k. record { tables = tables k; indexes = indexes k; views = views k }

-- a connection over a store that lists no object has no table
pub opened_empty : {D : Type 0} {g : Ghosts D} → ((file : D) → g.is_clean file ≡ true) → (store : FileStore D g)
    (c : Held (FileStore D g)) → (view store).trees catalog_tree ≡ []
    → (HasCleanDisk (file_state c) → IsOpened c) → (HasCleanDisk (file_state c) → (file_state c).now.trees
    ≡ (view store).trees) → steps.IsEmpty (file_state c)
opened_empty clean store c unlisted opens kept =
    let now = always_clean clean c in
    let live = opens now in
    let listed : (file_state c).now.trees catalog_tree ≡ [] = ap (λ (db : Trees). db catalog_tree) (kept now)
    ∙ unlisted in
    (live.0, live.1, no_tables _ _ listed (live.1 live.0.is_open).0)
