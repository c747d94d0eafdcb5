-- What is told of tables that nothing changed, and of the file that they came from.
use Rattle.std.proofs.Common.{◌≡◌, [], refl, sym, ap, ◌∙◌, subst, IsTrue}
use Rattle.std.specs.Prelude.{◌↔◌}
use Rattle.sqlite.specs.Effect.{Database}
use Rattle.sqlite.specs.Files.{HoldsDatabase}
use Rattle.sqlite.specs.Schema.{Schema}
use Rattle.sqlite.specs.State.{State}
use Rattle.sqlite.specs.Tree.{Trees}
use Rattle.sqlite_catalog.specs.Listing.{IsSound}
use Rattle.sqlite_wal.specs.Recovery.{Image}
use Rattle.mf_store_sql.specs.Tables.{no_schema}
use Rattle.mf_store_schema.specs.Schemas.{IsKnown}
use Rattle.mf_store_schema.specs.Versions.{schema_at}
use Rattle.mf_store_sound.specs.Held.{CanBeOpened}
use Rattle.mf_store_sound.specs.Files.{ShowsFile}
use Rattle.mf_store_sound.specs.Told.{IsToldOf, IsToldOfFile}
use Rattle.mf_store_sound.specs.declared.judging.Contents.{Contents}
use Rattle.mf_store_sound.specs.declared.judging.Contents.TheVariants.{Nothing, Known, Others}
use Rattle.mf_store_sound.proofs.FileLemmas.{under, seen}
use Rattle.mf_store_sound.proofs.SchemaLemmas.{no_views, none_at}

-- ---- what is told of the connection is told of the file

module _ (image : Image) (s : State) (shows : ShowsFile image s) where
  told_nothing : (contents : Contents) → IsToldOf s.now contents → s.now.schema ≡ no_schema → contents ≡ Nothing
  told_nothing Nothing told none = refl
  told_nothing (Known v sound) told none = absurd (none_at v (sym none ∙ told.0))
  told_nothing Others told none = absurd (told.0 none)

  module _ (trees : Trees) (k : Schema) (holds : HoldsDatabase image trees) (sound : IsSound k trees) where
    is_seen : (own : Schema) → own.views ≡ [] → s.now.schema ≡ own → k ≡ own
    is_seen own bare is = seen image s shows trees k holds sound (ap (λ (x : Schema). x.views) is ∙ bare) ∙ is

    was_seen : (own : Schema) → own.views ≡ [] → k ≡ own → s.now.schema ≡ own
    was_seen own bare is = ap (λ (db : Database). db.schema) (under image s shows k (ap (λ (x : Schema). x.views) is
        ∙ bare) trees holds sound) ∙ is

    told_tables : (contents : Contents) → IsToldOf s.now contents → IsToldOf (record { schema = k; trees = trees })
        contents
    told_tables Nothing told = is_seen no_schema refl told
    told_tables (Known v held) told = (
      is_seen (schema_at v) (no_views v) told.0,
      subst (λ (t : Trees). IsTrue held ↔ CanBeOpened v t) (shows.holds trees holds) told.1,
    )
    told_tables Others told = (λ none. told.0 (was_seen no_schema refl none), λ known. told.1 (as_known known))
      where
        as_known : IsKnown k → IsKnown s.now.schema
        as_known known = (known.0, was_seen (schema_at known.0) (no_views known.0) known.1)

  pub told_of_file : (contents : Contents) → IsToldOf s.now contents → IsToldOfFile image contents
  told_of_file contents told = record {
    nothing = λ nothing. told_nothing contents told (shows.none nothing).schema_is;
    tables = λ trees k holds sound. told_tables trees k holds sound contents told;
  }
