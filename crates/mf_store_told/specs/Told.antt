-- Lines of a journal's table that tell requests, and the first that tells none.
use Rattle.std.specs.Prelude.{◌≡◌, ◌+◌, ℕ, List, Option, None, Some}
use Rattle.sqlite.specs.Tree.{Trees}
use Rattle.mf_model.specs.Institution.{JournalLine}
use Rattle.mf_play.specs.Play.{AllTellRequests, IsFirstUntold}
use Rattle.mf_store_journal.specs.Written.{KeepsTo}
use Rattle.mf_store_journal.specs.declared.journal.Journal.{Journal}

-- each line of the journal, where one is kept, tells a request
abbrev pub TellsRequests : Option (List JournalLine) → Type 0
TellsRequests None = Unit {0}
TellsRequests (Some lines) = AllTellRequests lines

-- of lines of which the first comes after a number, the one with this number is the first that tells no request
abbrev pub IsUntoldAt : ℕ → List JournalLine → ℕ → Type 0
IsUntoldAt after lines number = (place : ℕ) × (number ≡ after + place + 1) × IsFirstUntold lines place

-- each line tells a request, or this is the number of the first that tells none
abbrev pub IsUntold : ℕ → List JournalLine → Option ℕ → Type 0
IsUntold after lines None = AllTellRequests lines
IsUntold after lines (Some number) = IsUntoldAt after lines number

-- the table keeps the lines of a journal that begins and stands so, and each of them tells a request
pub record KeepsTold (journal : Journal) (trees : Trees) : Type 0 where
  pub to : KeepsTo journal trees
  pub told : AllTellRequests to.lines
