-- How work over a file ends that is closed after it, and what a stop then leaves of the file.
use Rattle.std.specs.Prelude.{ℕ, Bool, List, [], Result, Ok, Err}
use Rattle.mf_base.specs.declared.fault.Fault.{Fault}
use Rattle.mf_base.specs.declared.fault.StreamFault.{StreamFault}
use Rattle.mf_lists_runs.specs.Choice.{Choice}
use Rattle.mf_office.specs.declared.caller.Caller.{Caller}
use Rattle.mf_model.specs.Institution.{Institution}
use Rattle.mf_model.specs.Run.{Line, last}
use Rattle.mf_store_noted.specs.Tabled.{HoldsRowsOf}
use Rattle.mf_store_files.specs.Closed.{HoldsByItself}
use Rattle.mf_store_files.specs.Stops.{IsLeftBy}
use Rattle.mf_wire_lines.specs.Ends.{Ends}
use Rattle.mf_wire_lines.specs.Streams.{Streams}
use Rattle.microloan_commands.specs.Sheets as sheet
use Rattle.microloan_commands.specs.declared.sheets.SheetFault.{SheetFault}
use Rattle.sqlite_disk.specs.declared.Disk.{Ghosts}
use Rattle.sqlite_disk.specs.declared.Files.{Files}
use Rattle.sqlite_store.specs.FileStore.{recovers}
use Rattle.sqlite_store.specs.declared.store.FileStore.{FileStore}
use Rattle.sqlite_trees.specs.Tree.{Trees}
use Rattle.sqlite_wal.specs.Files.{outcomes}
use Rattle.sqlite_wal.specs.Recovery.{Image}
use Rattle.microloan_files.specs.Listed.{IsListsRunOver}
use Rattle.microloan_files.specs.Sheets.{IsSheetRun}

module _ {D : Type 0} {g : Ghosts D} where
  -- Whatever a stop leaves of the files that were closed holds the institution after all lines of the run that were
  -- answered, with the log and without it. Of files that could not be closed it leaves the tables of a beginning of the
  -- run.
  abbrev pub CloseAfter : Institution → Result (Files D) (Fault × FileStore D g) → List Line → Type 0
  CloseAfter i (Ok files) run = (left : Image) → outcomes g files.log files.db left → HoldsByItself left (last run i)
  CloseAfter i (Err rest) run =
      (left : Trees) → recovers rest.1 left → (j : Institution) × IsLeftBy run i j × HoldsRowsOf left j

  -- The lines of a source were answered as the result says, up to its end or to a fault, by one run on the institution,
  -- with lists or without. It is empty where there was no memory to begin. The files were closed after it.
  pub record RunsAndCloses (choice : Choice) (told : Bool) (i : Institution)
      (closed : Result (Files D) (Fault × FileStore D g))
      (streams : Streams)
      (result : Result ℕ StreamFault) : Type 0 where
    pub run : List Line
    pub ended : Ends (λ before lines texts after. IsListsRunOver choice told i lines texts after) [] run streams result
    pub left : CloseAfter i closed run

  -- The sheet that a source held was collected as the result says by one run on the institution, which is empty where
  -- no line was answered. The files were closed after it.
  pub record CollectsAndCloses (told : List ℕ) (c : Caller) (i : Institution)
      (closed : Result (Files D) (Fault × FileStore D g))
      (streams : Streams) (result : Result (Unit {0}) SheetFault) : Type 0 where
    pub run : List Line
    pub ended : sheet.Ends (λ before rows results after. IsSheetRun told c i rows results after) [] run streams result
    pub left : CloseAfter i closed run
