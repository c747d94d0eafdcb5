-- What a connection to a file shows, by what the file held.
use Rattle.std.proofs.Common.{◌≡◌, ◌⊎◌, inl, inr, None, [], sym, ap, ◌∙◌, subst}
use Rattle.sqlite.specs.Effect.{Database}
use Rattle.sqlite.specs.Files.{HoldsDatabase}
use Rattle.sqlite.specs.Schema.{Schema}
use Rattle.sqlite.specs.Start.{FindsIn}
use Rattle.sqlite.specs.State.{State, Opens, IsLive}
use Rattle.sqlite.specs.Tree.{Trees}
use Rattle.sqlite_trees.specs.Objects.{catalog_tree}
use Rattle.sqlite_catalog.specs.Listing.{IsSound}
use Rattle.sqlite_wal.specs.Recovery.{Image}
use Rattle.mf_store_sql.specs.Tables.{no_schema}
use Rattle.mf_store_sql.specs.Writes.{Serves}
use Rattle.mf_store_schema.specs.Schemas.{IsKnown}
use Rattle.mf_store_schema.specs.Versions.{IsOfVersion}
use Rattle.mf_store_schema.specs.declared.versions.Version.{Version}
use Rattle.mf_store_schema.specs.Writes.{schema_of, Holds}
use Rattle.mf_store_schema.specs.Whole.{HaveRowids}
use Rattle.mf_store_sound.specs.Files.{HasNoTables, ShowsFile}
use Rattle.mf_store_sound.proofs.BlankLemmas.{empty_if_nothing}
use Rattle.mf_store_sound.proofs.SchemaLemmas.{no_views, nothing_listed, one_schema}

module _ (image : Image) (s : State) (opens : Opens s) (live : IsLive s) (found : FindsIn image s) where
  now_are : (trees : Trees) → HoldsDatabase image trees → s.now.trees ≡ trees
  now_are trees held = ap (λ (db : Database). db.trees) opens.clean ∙ found.holds trees held

  unlisted : s.now.trees catalog_tree ≡ [] → Serves schema_of Holds s.now None
  unlisted none =
      let sound = (live opens.is_open).0 in
      let bare = nothing_listed s.now.trees s.now.schema none sound in
      record { schema_is = bare; holds = subst (λ k. IsSound k s.now.trees) bare sound }

  no_tables : HasNoTables image → Serves schema_of Holds s.now None
  no_tables (inl nothing) = unlisted (ap (λ (db : Database). db.trees catalog_tree) opens.clean
      ∙ (empty_if_nothing image s.committed.trees nothing found.reads).1)
  no_tables (inr held) = unlisted (ap (λ (trees : Trees). trees catalog_tree) (now_are held.0 held.1) ∙ held.2.1)

  pub shows : ((v : Version) → IsOfVersion v s.now.schema → HaveRowids v s.now.trees)
      → ((left : Trees) → s.may_leave left → left ≡ s.now.trees) → ShowsFile image s
  shows rowids leaves = record {
    is_open = opens.is_open;
    none = no_tables;
    holds = now_are;
    sound = (live opens.is_open).0;
    rowids = rowids;
    leaves = leaves;
  }

-- ---- what is said of the file, by what the connection shows

module _ (image : Image) (s : State) (shows : ShowsFile image s) where
  -- the schema is the one that the trees list, which has no views
  pub under : (own : Schema) → own.views ≡ [] → (trees : Trees) → HoldsDatabase image trees → IsSound own trees
      → s.now ≡ record { schema = own; trees = trees }
  under own bare trees held sound =
      let are = shows.holds trees held in
      let same = one_schema s.now.trees s.now.schema own bare shows.sound (subst (IsSound own) (sym are) sound) in
      λ t. record { schema = same t; trees = are t }

  -- where the schema has no views, the trees list no other
  pub seen : (trees : Trees) (k : Schema) → HoldsDatabase image trees → IsSound k trees → s.now.schema.views ≡ []
      → k ≡ s.now.schema
  seen trees k held sound bare =
      one_schema trees k s.now.schema bare sound (subst (IsSound s.now.schema) (shows.holds trees held) shows.sound)

  own_views : (s.now.schema ≡ no_schema) ⊎ IsKnown s.now.schema → s.now.schema.views ≡ []
  own_views (inl none) = ap (λ (k : Schema). k.views) none
  own_views (inr known) = ap (λ (k : Schema). k.views) known.1 ∙ no_views known.0

  -- where the connection has the tables of the program, or none, so has the file
  pub is_one : (s.now.schema ≡ no_schema) ⊎ IsKnown s.now.schema → (trees : Trees) (k : Schema)
      → HoldsDatabase image trees → IsSound k trees → (k ≡ no_schema) ⊎ IsKnown k
  is_one known trees k held sound =
      subst (λ (x : Schema). (x ≡ no_schema) ⊎ IsKnown x) (sym (seen trees k held sound (own_views known))) known

  -- what was left as it is now is what the file held
  pub left_as_held : (trees : Trees) → HoldsDatabase image trees → (left : Trees) → s.may_leave left → left ≡ trees
  left_as_held trees held left may = shows.leaves left may ∙ shows.holds trees held
