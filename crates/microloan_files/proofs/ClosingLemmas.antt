-- What a stop leaves of a store that was closed after a run.
use Rattle.std.proofs.Common.{List, [], ◌∷◌, Result, Ok, Err, IfOk, IfErr}
use Rattle.mf_base.specs.declared.fault.Fault.{Fault}
use Rattle.mf_model.specs.Institution.{Institution}
use Rattle.mf_model.specs.Run.{Line, last}
use Rattle.mf_model.specs.Store.{left_after}
use Rattle.mf_store.specs.Facts.{KnownStore}
use Rattle.mf_store.specs.Stands.{StandsFor, Leaves}
use Rattle.mf_store_noted.specs.Tabled.{HoldsOneOf}
use Rattle.mf_store_files.specs.Closed.{CloseWell, HoldsByItself}
use Rattle.mf_store_files.proofs.StopLemmas.{one_of_run}
use Rattle.sqlite.specs.Files.{over_files}
use Rattle.sqlite_disk.specs.declared.Disk.{Ghosts}
use Rattle.sqlite_disk.specs.declared.Files.{Files}
use Rattle.sqlite_store.specs.FileStore.{view, recovers}
use Rattle.sqlite_store.specs.declared.store.FileStore.{FileStore}
use Rattle.sqlite_trees.specs.Tree.{Trees}
use Rattle.sqlite_trees.specs.View.{IsClean}
use Rattle.sqlite_wal.specs.Files.{outcomes}
use Rattle.sqlite_wal.specs.Reads.{AreClean}
use Rattle.sqlite_wal.specs.Recovery.{Image}
use Rattle.microloan_files.specs.Closing.{CloseAfter}

module _ {D : Type 0} {g : Ghosts D} (final : KnownStore (FileStore D g)) where
  pub close_after : (closed : Result (Files D) (Fault × FileStore D g))
      → IfOk closed (λ files. AreClean g files.log files.db → (i : Institution) → StandsFor over_files final i
      → (left : Image) → outcomes g files.log files.db left → HoldsByItself left i)
      → IfErr closed (λ e. IsClean (view e.1) → (is : List Institution) → Leaves over_files final is → (trees : Trees)
      → recovers e.1 trees → HoldsOneOf is trees)
      → CloseWell closed → (i : Institution) (run : List Line) → StandsFor over_files final (last run i)
      → Leaves over_files final (left_after run i (i ∷ []))
      → CloseAfter i closed run
  close_after (Ok files) whole kept well i run stands leaves = whole well (last run i) stands
  close_after (Err rest) whole kept well i run stands leaves =
      λ left may. one_of_run left run i (kept well (left_after run i (i ∷ [])) leaves left may)
