-- The first lines of a journal leave an institution's tables.
use Rattle.std.specs.Prelude.{◌≡◌, List, [], ◌∷◌, Option, Some, IsTrue, Result, OnOk, OnErr, IfOk, IfErr}
use Rattle.sqlite.specs.Held.{Held, state}
use Rattle.sqlite_trees.specs.declared.store.Store.{Ghosts}
use Rattle.mf_base.specs.declared.fault.Fault.{Fault}
use Rattle.mf_base.specs.declared.fault.Fault.TheVariants.{F20}
use Rattle.mf_model.specs.Institution.{Institution, JournalLine}
use Rattle.mf_journal.specs.declared.following.Head.{Head}
use Rattle.mf_store_schema.specs.Calls.{OnlyFaultsShut}
use Rattle.mf_store_schema.specs.Rows.{Lists}
use Rattle.mf_store_journal.specs.declared.journal.Journal.{Journal}
use Rattle.mf_store_noted.specs.Tabled.{HasGoodDisk, IsTabled, LeavesTables}
use Rattle.mf_store_archive.specs.Archived.{IsCut, with_lines}
use Rattle.mf_store_archive.specs.Removing.{FitsTaking, after_taking}
use Rattle.mf_store_archive.specs.declared.taking.TakeOut.{TakeOut}

-- a journal is kept
abbrev pub FitsTakeOut : TakeOut → Option Lists → Type 0
FitsTakeOut write lists = FitsTaking lists

-- the lists after the write
abbrev pub after_take_out : TakeOut → Option Lists → Option Lists
after_take_out write lists = after_taking write.begins lists

-- a journal that begins elsewhere and stands where it stood
abbrev pub begun_elsewhere : Head → Journal → Journal
begun_elsewhere begins journal = record journal { begins = begins }

module _ {S : Type 0} (g : Ghosts S) where
  -- The first lines of the institution's journal leave its tables, which begin where those lines ended then, and all
  -- else stays; or, giving up with F20, none leaves. A stop leaves what it could leave before, or the institution with
  -- the lines that stay, whole.
  pub record TakesOut (journal : Journal) (begins : Head) (old new : Held S) (result : Result Journal Fault) : Type
      0 where
    pub premise : HasGoodDisk g new → HasGoodDisk g old
    pub gives_up : IfErr result (λ fault. fault ≡ F20)
    pub shuts : OnlyFaultsShut (state g old) (state g new)
    pub is_open : HasGoodDisk g new → OnOk result (IsTrue (state g new).is_open)
    pub begun : IfOk result (λ next. next ≡ begun_elsewhere begins journal)
    pub made : HasGoodDisk g new → IfOk result (λ next. (i : Institution) (first rest : List JournalLine)
        → IsTabled g (Some journal) old i → IsCut journal.begins begins i first rest
        → IsTabled g (Some next) new (with_lines rest i))
    pub left : HasGoodDisk g new → OnOk result ((i : Institution) (first rest : List JournalLine)
        → IsTabled g (Some journal) old i → IsCut journal.begins begins i first rest
        → LeavesTables g new (with_lines rest i ∷ []))
    pub same : HasGoodDisk g new → OnErr result ((i : Institution) → IsTabled g (Some journal) old i
        → IsTabled g (Some journal) new i)
    pub stop : HasGoodDisk g new → (i : Institution) (first rest : List JournalLine) (is : List Institution)
        → IsTabled g (Some journal) old i → IsCut journal.begins begins i first rest → LeavesTables g old is
        → LeavesTables g new (with_lines rest i ∷ is)
