-- What closing a connection leaves of its files.
use Rattle.std.specs.Prelude.{◌≡◌, IsTrue, Result, IfOk, IfErr}
use Rattle.mf_base.specs.declared.fault.Fault.{Fault}
use Rattle.mf_base.specs.declared.fault.Fault.TheVariants.{F20}
use Rattle.sqlite.specs.Closing.{HoldsAlone}
use Rattle.sqlite.specs.Files.{file_state, image_of}
use Rattle.sqlite.specs.Held.{Held}
use Rattle.sqlite.specs.State.{HasCleanDisk}
use Rattle.sqlite.specs.Tree.{Trees}
use Rattle.sqlite_disk.specs.declared.Disk.{Ghosts}
use Rattle.sqlite_disk.specs.declared.Files.{Files}
use Rattle.sqlite_store.specs.FileStore.{recovers, view}
use Rattle.sqlite_store.specs.declared.store.FileStore.{FileStore}
use Rattle.sqlite_trees.specs.View.{IsClean}
use Rattle.sqlite_wal.specs.Files.{outcomes}
use Rattle.sqlite_wal.specs.Reads.{AreClean}
use Rattle.sqlite_wal.specs.Recovery.{Image}
use Rattle.mf_store_files.specs.Closed.{CloseWell}

module _ {D : Type 0} {g : Ghosts D} where
  -- The database file holds the tables of the connection, with its log and without it, and so does whatever a stop
  -- leaves of the two. Where they could not be closed, a stop leaves what it could before.
  pub record Closes (c : Held (FileStore D g)) (closed : Result (Files D) (Fault × FileStore D g)) : Type 0 where
    pub premise : CloseWell closed → HasCleanDisk (file_state c)
    pub was_open : IfOk closed (λ files. AreClean g files.log files.db → IsTrue (file_state c).is_open)
    pub whole : IfOk closed (λ files. AreClean g files.log files.db
        → HoldsAlone (image_of g files) (file_state c).now.trees)
    pub left : IfOk closed (λ files. AreClean g files.log files.db → (image : Image)
        → outcomes g files.log files.db image → HoldsAlone image (file_state c).now.trees)
    pub gives_up : IfErr closed (λ e. e.0 ≡ F20)
    pub kept : IfErr closed (λ e. IsClean (view e.1) → (trees : Trees) → recovers e.1 trees
        → (file_state c).may_leave trees)
