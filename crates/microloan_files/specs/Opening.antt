-- Which institution a file holds, and as which it is opened.
use Rattle.std.specs.Prelude.{◌≡◌, ◌⊎◌, ℕ}
use Rattle.sqlite.specs.Files.{HoldsDatabase}
use Rattle.sqlite.specs.Tree.{Trees}
use Rattle.sqlite_wal.specs.Recovery.{Image}
use Rattle.mf_model.specs.Institution.{Institution, newly_made}
use Rattle.mf_model.specs.Sound.{IsSound}
use Rattle.mf_store_schema.specs.Writes.{HoldsAt}
use Rattle.mf_store_schema.specs.declared.versions.Version.{Version}
use Rattle.mf_store_noted.specs.Tabled.{HoldsRowsOf}
use Rattle.mf_store_sound.specs.Held.{KeepsJournalAt}
use Rattle.mf_store_sound.specs.Schemas.{tables_at}
use Rattle.mf_store_sound.specs.Files.{HasNoTables}

-- the file is a database that has the rows of this sound institution, and its journal's, by the tables of a version,
-- and nothing else
pub record IsFileAt (v : Version) (image : Image) (i : Institution) : Type 0 where
  pub trees : Trees
  pub database : HoldsDatabase image trees
  pub sound : IsSound i
  pub holds : HoldsAt v trees (tables_at v i)
  pub keeps : KeepsJournalAt v trees i.journal

-- the file is a database that has the rows of this sound institution, by today's tables, and its journal's where it
-- keeps one, and nothing else
pub record IsFileOf (image : Image) (i : Institution) : Type 0 where
  pub trees : Trees
  pub database : HoldsDatabase image trees
  pub sound : IsSound i
  pub rows : HoldsRowsOf trees i

-- the file holds this institution, by the tables of some version
abbrev pub HoldsInSchema : Image → Institution → Type 0
HoldsInSchema image i = (v : Version) × IsFileAt v image i

-- the institution as which a file is opened on a day: a new one where the file has no tables, else the one that it
-- holds
abbrev pub OpensAs : ℕ → Image → Institution → Type 0
OpensAs day image i = (HasNoTables image × (i ≡ newly_made day)) ⊎ HoldsInSchema image i
