-- What files hold that were closed.
use Rattle.std.specs.Prelude.{[], Result, Ok, Err}
use Rattle.mf_base.specs.declared.fault.Fault.{Fault}
use Rattle.sqlite.specs.Files.{HoldsDatabase}
use Rattle.sqlite.specs.Tree.{Trees}
use Rattle.sqlite_disk.specs.declared.Disk.{Ghosts}
use Rattle.sqlite_disk.specs.declared.Files.{Files}
use Rattle.sqlite_store.specs.FileStore.{view}
use Rattle.sqlite_store.specs.declared.store.FileStore.{FileStore}
use Rattle.sqlite_trees.specs.View.{IsClean}
use Rattle.sqlite_wal.specs.Reads.{AreClean}
use Rattle.sqlite_wal.specs.Recovery.{Image}
use Rattle.mf_model.specs.Institution.{Institution}
use Rattle.mf_model.specs.Sound.{IsSound}
use Rattle.mf_store_noted.specs.Tabled.{HoldsRowsOf}

-- The database file and its log hold a database with the rows of the institution, and its journal's where it keeps
-- one, and nothing else; and it is sound.
abbrev pub HoldsInstitution : Image → Institution → Type 0
HoldsInstitution image i = ∥ ((trees : Trees) × HoldsDatabase image trees × IsSound i × HoldsRowsOf trees i) ∥₁

-- the two hold it together, and so does the database file without its log
pub record HoldsByItself (image : Image) (i : Institution) : Type 0 where
  pub both : HoldsInstitution image i
  pub alone : HoldsInstitution (record image { log = [] }) i

-- so far the disk has returned what was written, as what closing gave back tells
abbrev pub CloseWell : {D : Type 0} {g : Ghosts D} → Result (Files D) (Fault × FileStore D g) → Type 0
CloseWell {g = g} (Ok files) = AreClean g files.log files.db
CloseWell (Err left) = IsClean (view left.1)
