-- Rows of loans: what the texts of a loan's days say of its stage, and what a loan keeps by itself.
use Rattle.std.specs.Prelude.{◌≡◌, ℕ, List, [], Option, Some, None}
use Rattle.mf_model.specs.Sound.{IsStageBy}
use Rattle.mf_store_schema.specs.declared.entries.EntryRow.{EntryRow}
use Rattle.mf_store_sound.specs.Entries.{AreLoanEntries}
use Rattle.mf_model.specs.Stages.{stage_number}
use Rattle.mf_model.specs.declared.loan.Stage.{Stage}
use Rattle.mf_store_values.specs.Flat.{approval_text, disbursal_text}

-- a stage that a loan can have reached on this day has this number and these texts
abbrev pub IsStageOf : ℕ → ℕ → Option (List ℕ) → Option (List ℕ) → Type 0
IsStageOf today number approved disbursed = (s : Stage) × IsStageBy today s × (stage_number s ≡ number)
    × (approval_text s ≡ approved) × (disbursal_text s ≡ disbursed)

-- a loan that is not disbursed has no rows of entries
abbrev pub AreEntriesOf : ℕ → ℕ → Option ℕ → ℕ → ℕ → List EntryRow → Type 0
AreEntriesOf today periods None office loan rows = rows ≡ []
AreEntriesOf today periods (Some day) office loan rows = AreLoanEntries today day periods office loan rows
