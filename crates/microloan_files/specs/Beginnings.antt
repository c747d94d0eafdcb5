-- How a run of request lines over a file ends, and what a stop then leaves of the file.
use Rattle.std.specs.Prelude.{◌≡◌, ℕ, Bool, List, [], map, Result}
use Rattle.mf_base.specs.declared.fault.StreamFault.{StreamFault}
use Rattle.mf_model.specs.Institution.{Institution}
use Rattle.mf_model.specs.Answering.{all_answered}
use Rattle.mf_model.specs.Run.{Line}
use Rattle.mf_store_files.specs.Stops.{IsLeftBy}
use Rattle.mf_wire.specs.Runs.{IsIsolated, lines_in, texts_of}
use Rattle.mf_wire.specs.Senders.{NoTextIsF20}
use Rattle.mf_wire_lines.specs.Ends.{Ends}
use Rattle.mf_wire_lines.specs.Streams.{Streams}
use Rattle.mf_wire_requests.specs.Requests.{call_in}
use Rattle.sqlite_disk.specs.declared.Disk.{Ghosts}
use Rattle.sqlite_store.specs.FileStore.{state}
use Rattle.sqlite_store.specs.declared.store.FileStore.{FileStore}
use Rattle.sqlite_wal.specs.Recovery.{Image}
use Rattle.microloan_files.specs.Opening.{IsFileOf, HoldsInSchema}

-- The run is that of the lines, whose first words are told of them or not, on the institution, and the texts are its
-- replies. What each office is told is isolated.
-- Where no text is F20's, no line was given up.
pub record IsRunOver (told : Bool) (i : Institution) (lines texts : List (List ℕ)) (run : List Line) : Type 0 where
  pub calls : map (λ l. l.call) run ≡ map (call_in told) lines
  pub replied : texts ≡ texts_of run i
  pub isolated : IsIsolated (record { institution = i; run = run; lines = lines_in told lines; texts = texts })
  pub with_memory : NoTextIsF20 texts → run ≡ all_answered (map (call_in told) lines)

module _ {D : Type 0} {g : Ghosts D} where
  -- Whatever a stop leaves of the files holds the institution after all lines of the run that were answered, or with
  -- the change of one line more, of those that were given up after the last change.
  abbrev pub LeaveBeginning : Institution → List Line → FileStore D g → Type 0
  LeaveBeginning i run files = (left : Image) → (state files).may_leave left → ∥ ((j : Institution) × IsLeftBy run i j
      × IsFileOf left j) ∥₁

  -- whatever a stop leaves of the files holds this institution
  abbrev pub StillHolds : Institution → FileStore D g → Type 0
  StillHolds i files = (left : Image) → (state files).may_leave left → ∥ (HoldsInSchema left i) ∥₁

  -- The lines of the source were answered as the result says, up to its end or to a fault, by one run on the
  -- institution, which is empty where there was no memory to begin. What a stop leaves of the files is a beginning of
  -- that run.
  pub record EndsAsBeginning (told : Bool) (i : Institution) (files : FileStore D g) (streams : Streams)
      (result : Result ℕ StreamFault) : Type 0 where
    pub run : List Line
    pub ended : Ends (λ before lines texts after. IsRunOver told i lines texts after) [] run streams result
    pub left : LeaveBeginning i run files
