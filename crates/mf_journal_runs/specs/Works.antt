-- What the program does over a store: runs of request lines, messages and sheets, as the contracts of these calls tell.
use Rattle.std.specs.Prelude.{◌≡◌, ℕ, Bool, List, [], ◌∷◌, Result}
use Rattle.mf_base.specs.declared.fault.StreamFault.{StreamFault}
use Rattle.mf_office.specs.declared.caller.Caller.{Caller}
use Rattle.mf_office.specs.Texts.{IsCaller}
use Rattle.mf_model.specs.Institution.{Institution, JournalLine}
use Rattle.mf_model.specs.declared.store.InstitutionStore.{Ghosts}
use Rattle.mf_wire_lines.specs.Ends as lines
use Rattle.mf_wire_lines.specs.Streams.{Streams}
use Rattle.mf_lists_runs.specs.Choice.{Choice}
use Rattle.mf_lists_runs.specs.Runs.{ListsRuns}
use Rattle.mf_lists_runs.specs.Serving.{ListsAnswerMessage}
use Rattle.mf_wire.specs.Serving.{EndsMessage}
use Rattle.mf_sheet.specs.Ends as sheets
use Rattle.mf_sheet.specs.Ends.{SheetStreams}
use Rattle.mf_sheet.specs.Runs.{RunsRows}
use Rattle.mf_journal_runs.specs.Journals.{GrewBy}

-- A run of request lines, a message that is served, or a sheet that somebody sends; each with its streams and with what
-- the call answers. By lines and messages lists may be asked for or may not, they may have remarks or have none, and a
-- sheet has one for all its lines.
pub data Work : Type 0 where
  Run : Choice → Bool → Streams → Result ℕ StreamFault → Work
  Message : Choice → Bool → Streams → Result Bool StreamFault → Work
  Sheet : List ℕ → Caller → SheetStreams → Result (Unit {0}) StreamFault → Work

module _ {S : Type 0} (store : Ghosts S) where
  -- what the contract of `mf_lists_runs::run`, `mf_lists_runs::serve_one` or `mf_sheet::collect` says of the call,
  -- however it ended
  abbrev pub IsDone : Work → S → S → Type 0
  IsDone (Run choice told streams result) old new = lines.Ends (ListsRuns store choice told) old new streams result
  IsDone (Message choice told streams result) old new =
      EndsMessage (ListsAnswerMessage store choice told) old new streams result
  IsDone (Sheet told caller streams result) old new =
      IsCaller caller × sheets.Ends (RunsRows store told caller) old new streams result

  -- the same of works one after another
  abbrev pub AreDone : List Work → S → S → Type 0
  AreDone [] old new = new ≡ old
  AreDone (work ∷ works) old new = (mid : S) × IsDone work old mid × AreDone works mid new

  -- the store stands for an institution that grew by some lines
  abbrev pub StandsGrown : Institution → S → Type 0
  StandsGrown i new = (j : Institution) × (lines : List JournalLine) × GrewBy lines i j × store.stands new j
