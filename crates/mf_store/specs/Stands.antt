-- The institution that a store stands for.
use Rattle.std.specs.Prelude.{◌≡◌, ◌<◌, ◌-◌, ◌^◌, ℕ, List, [], ◌∷◌, Some, IsTrue, Result, OnOk, OnErr, IfErr}
use Rattle.mf_base.specs.declared.fault.Fault.{Fault}
use Rattle.mf_base.specs.declared.fault.Fault.TheVariants.{F20}
use Rattle.sqlite.specs.Held.{Held, state}
use Rattle.sqlite_trees.specs.declared.store.Store.{Ghosts}
use Rattle.mf_store_sql.specs.Writes.{Serves}
use Rattle.mf_model.specs.Institution.{Institution, Noted}
use Rattle.mf_model.specs.Sound.{IsSound}
use Rattle.mf_model.specs.Store.{Commits}
use Rattle.mf_model.specs.declared.commit.Commit.{Commit}
use Rattle.mf_store_schema.specs.Calls.{IsOpenUpTo}
use Rattle.mf_store.specs.Facts.{KnownStore, AreTrueOf}
use Rattle.mf_store_schema.specs.Rows.{Lists}
use Rattle.mf_store_schema.specs.Writes.{schema_of, Holds}
use Rattle.mf_store_schema.specs.declared.writes.StoreWrite.{StoreWrite}
use Rattle.mf_store_noted.specs.Becoming.{BecomesBeside}
use Rattle.mf_store_noted.specs.Kept.{IsJournalOf, begins_of, tables_kept}
use Rattle.mf_store_noted.specs.Tabled.{HasGoodDisk, IsTabled, LeavesTables}
use Rattle.mf_store_noted.specs.Writing.{noted_after}

-- what the store's tables keep of an institution, with its journal where the store keeps one
abbrev pub kept_by : {S : Type 0} → KnownStore S → Institution → Lists
kept_by k i = tables_kept (begins_of k.journal) i

module _ {S : Type 0} (g : Ghosts S) where
  -- The tables hold the institution's rows, and its journal's where one is kept, and nothing else, and it is sound; and
  -- what is known beside them is so in it.
  pub record StandsFor (k : KnownStore S) (i : Institution) : Type 0 where
    pub sound : IsSound i
    pub serves : IsTrue (state g k.connection).is_open → Serves schema_of Holds (state g k.connection).now
        (Some (kept_by k i))
    pub journal : IsJournalOf k.journal i
    pub knows : AreTrueOf k.known i

  -- so far the disk has returned what was written
  abbrev pub IsClean : KnownStore S → Type 0
  IsClean k = HasGoodDisk g k.connection

  -- the tables are this program's, and a stop at this moment leaves one of these institutions, whole
  abbrev pub Leaves : KnownStore S → List Institution → Type 0
  Leaves k is = LeavesTables g k.connection is

  -- no fault has shut its connection, so that it can ask its tables
  abbrev pub IsOpen : KnownStore S → Type 0
  IsOpen k = IsTrue (state g k.connection).is_open

  -- The disk has failed so often by now, or more often; and if no more often, it is open. The count of faults, of 64
  -- bits, is not at its greatest.
  unfoldable pub IsOpenUntil : ℕ → Held S → Type 0
  IsOpenUntil faults h = (faults < 2 ^ 64 - 1) × IsOpenUpTo faults (state g h)

  -- only a fault of the disk shuts it in between
  abbrev pub FaultsAloneShut : KnownStore S → KnownStore S → Type 0
  FaultsAloneShut old new = (faults : ℕ) → IsOpenUntil faults old.connection → IsOpenUntil faults new.connection

  -- it stands for what it stood for, a stop leaves nothing more than before, and only a fault of the disk shuts it
  pub record Stays (old new : KnownStore S) : Type 0 where
    pub premise : IsClean new → IsClean old
    pub journal : new.journal ≡ old.journal
    pub shuts : FaultsAloneShut old new
    pub same : IsClean new → (i : Institution) → StandsFor old i → StandsFor new i
    pub stop : IsClean new → (is : List Institution) → Leaves old is → Leaves new is

  -- A call that asks the tables and changes nothing: it gives up with F20 alone, and where it answers it is open.
  pub record AsksTables {R : Type 0} (old new : KnownStore S) (result : Result R Fault) : Type 0 where
    pub kept : Stays old new
    pub gives_up : IfErr result (λ fault. fault ≡ F20)
    pub stays_open : IsClean new → OnOk result (IsOpen new)

  -- the same of a call that may know the answer beside its tables: where it answers it is open if it was
  pub record MayAskTables {R : Type 0} (old new : KnownStore S) (result : Result R Fault) : Type 0 where
    pub kept : Stays old new
    pub gives_up : IfErr result (λ fault. fault ≡ F20)
    pub stays_open : IsClean new → IsOpen old → OnOk result (IsOpen new)

  -- Writes are made with the line that notes their request, where a journal is kept, or, giving up, not at all. What is
  -- known is so in the institution before them.
  pub record WritesNoted (writes : List StoreWrite) (noted : Noted) (old new : KnownStore S)
      (result : Result (Unit {0}) Fault) : Type 0 where
    pub premise : IsClean new → IsClean old
    pub gives_up : IfErr result (λ fault. fault ≡ F20)
    pub shuts : FaultsAloneShut old new
    pub stays_open : IsClean new → OnOk result (IsOpen new)
    pub known : IsClean new → (i : Institution) → StandsFor old i → AreTrueOf new.known i
    pub made : IsClean new → OnOk result ((i j : Institution) → StandsFor old i → BecomesBeside writes i j
        → IsTabled g new.journal new.connection (noted_after noted i j))
    pub left : IsClean new → OnOk result ((i j : Institution) → StandsFor old i → BecomesBeside writes i j
        → Leaves new (noted_after noted i j ∷ []))
    pub same : IsClean new → OnErr result ((i : Institution) → StandsFor old i → StandsFor new i)
    pub stop : IsClean new → (i j : Institution) (is : List Institution) → StandsFor old i → BecomesBeside writes i j
        → Leaves old is → Leaves new (noted_after noted i j ∷ is)

  -- A commit that is made whole, with the line that notes its request where a journal is kept, or, giving up, not at
  -- all: where it is made the store is open, and only a fault of the disk shuts it.
  pub record MakesCommit (commit : Commit) (noted : Noted) (old new : KnownStore S)
      (result : Result (Unit {0}) Fault) : Type 0 where
    pub commits : Commits StandsFor IsClean Leaves commit noted old new result
    pub shuts : FaultsAloneShut old new
    pub stays_open : IsClean new → OnOk result (IsOpen new)
