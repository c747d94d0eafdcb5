-- How collecting a sheet over a file ends, and what a stop then leaves of the file.
use Rattle.std.specs.Prelude.{◌≡◌, ℕ, List, [], map, Result}
use Rattle.mf_base.specs.declared.fault.StreamFault.{StreamFault}
use Rattle.mf_office.specs.declared.caller.Caller.{Caller}
use Rattle.mf_model.specs.Institution.{Institution}
use Rattle.mf_model.specs.Run.{Line, answers, NoneGivenUp}
use Rattle.mf_sheet.specs.Ends.{SheetStreams, Ends}
use Rattle.mf_sheet.specs.Lines.{call_by, result_of}
use Rattle.mf_sheet.specs.Runs.{NoResultIsF20, OnlyF20GivesUp}
use Rattle.mf_sheet_lines.specs.declared.results.SheetResult.{SheetResult}
use Rattle.sqlite_disk.specs.declared.Disk.{Ghosts}
use Rattle.sqlite_store.specs.declared.store.FileStore.{FileStore}
use Rattle.microloan_files.specs.Beginnings.{LeaveBeginning}

-- The run is that of the sheet's lines, sent by somebody, of each of which this is told, on the institution, and the
-- results are those of its replies. A line is given up only where its result is F20.
pub record IsSheetRun (told : List ℕ) (c : Caller) (i : Institution) (rows : List (List (List ℕ)))
    (results : List SheetResult)
    (run : List Line) : Type 0 where
  pub calls : map (λ l. l.call) run ≡ map (call_by told c) rows
  pub replied : results ≡ map result_of (answers run i)
  pub given_up : OnlyF20GivesUp run results
  pub with_memory : NoResultIsF20 results → NoneGivenUp run

-- The sheet was collected as the result says by one run on the institution, which is empty where no line was answered.
-- What a stop leaves of the files is a beginning of that run.
pub record CollectsAsBeginning {D : Type 0} {g : Ghosts D} (told : List ℕ) (c : Caller) (i : Institution)
    (files : FileStore D g)
    (streams : SheetStreams) (result : Result (Unit {0}) StreamFault) : Type 0 where
  pub run : List Line
  pub ended : Ends (λ before rows results after. IsSheetRun told c i rows results after) [] run streams result
  pub left : LeaveBeginning i run files
