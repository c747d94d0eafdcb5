-- Writes that are made in one commit, with the line of the journal that notes their request where one is kept.
use Rattle.std.specs.Prelude.{◌≡◌, ℕ, List, [], ◌∷◌, Option, None, Some, IsTrue, Result, OnOk, OnErr, IfOk, IfErr}
use Rattle.mf_base.specs.declared.fault.Fault.{Fault}
use Rattle.mf_base.specs.declared.fault.Fault.TheVariants.{F20}
use Rattle.sqlite.specs.Held.{Held, state}
use Rattle.sqlite_trees.specs.declared.store.Store.{Ghosts}
use Rattle.mf_model.specs.Institution.{Institution, JournalLine, Noted, noted_line, with_line}
use Rattle.mf_store_schema.specs.Calls.{OnlyFaultsShut}
use Rattle.mf_store_schema.specs.declared.writes.StoreWrite.{StoreWrite}
use Rattle.mf_store_noted.specs.Becoming.{BecomesKept}
use Rattle.mf_store_noted.specs.Kept.{begins_of}
use Rattle.mf_store_noted.specs.Tabled.{HasGoodDisk, IsTabled, LeavesTables}
use Rattle.mf_store_journal.specs.declared.journal.Journal.{Journal}
use Rattle.mf_store_noted.specs.declared.journal.Place.{Place}

-- the day of the next line; of no journal there is none
abbrev pub day_at : Option Place → ℕ
day_at None = 0
day_at (Some place) = place.day

-- what becomes of the one institution is the other, with this line in its journal where it keeps one
abbrev pub with_line_after : JournalLine → Institution → Institution → Institution
with_line_after line i j = record j { journal = with_line line i.journal }

-- the same with the line that notes a request which the one institution accepted
abbrev pub noted_after : Noted → Institution → Institution → Institution
noted_after noted i j = with_line_after (noted_line i.catalogue.day noted) i j

module _ {S : Type 0} (g : Ghosts S) where
  -- The writes are made with the line, whole, or, with F20, not at all; the result is the journal as it stands then. A
  -- stop leaves what it could leave before, or the change with its line.
  pub record MakesWrites (journal : Option Journal) (writes : List StoreWrite) (line : JournalLine) (old new : Held S)
      (result : Result (Option Journal) Fault) : Type 0 where
    pub premise : HasGoodDisk g new → HasGoodDisk g old
    pub gives_up : IfErr result (λ fault. fault ≡ F20)
    pub shuts : OnlyFaultsShut (state g old) (state g new)
    pub is_open : HasGoodDisk g new → OnOk result (IsTrue (state g new).is_open)
    pub begins : IfOk result (λ next. begins_of next ≡ begins_of journal)
    pub made : HasGoodDisk g new → IfOk result (λ next. (i j : Institution) → IsTabled g journal old i
        → BecomesKept (begins_of journal) writes i j → IsTabled g next new (with_line_after line i j))
    pub left : HasGoodDisk g new → OnOk result ((i j : Institution) → IsTabled g journal old i
        → BecomesKept (begins_of journal) writes i j → LeavesTables g new (with_line_after line i j ∷ []))
    pub same : HasGoodDisk g new → OnErr result ((i : Institution) → IsTabled g journal old i
        → IsTabled g journal new i)
    pub stop : HasGoodDisk g new → (i j : Institution) (is : List Institution) → IsTabled g journal old i
        → BecomesKept (begins_of journal) writes i j → LeavesTables g old is
        → LeavesTables g new (with_line_after line i j ∷ is)
