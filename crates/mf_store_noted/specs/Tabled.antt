-- The institution that tables hold, with its journal where they keep one.
use Rattle.std.specs.Prelude.{◌≡◌, ◌⊎◌, ℕ, List, [], ◌∷◌, Option, None, Some, IsTrue}
use Rattle.sqlite.specs.Held.{Held, state}
use Rattle.sqlite.specs.State.{HasCleanDisk}
use Rattle.sqlite.specs.Tree.{Trees}
use Rattle.sqlite_trees.specs.declared.store.Store.{Ghosts}
use Rattle.mf_model.specs.Institution.{Institution, newly_made}
use Rattle.mf_model.specs.Sound.{IsSound}
use Rattle.mf_journal.specs.Founding.{founding}
use Rattle.mf_journal.specs.declared.following.Head.{Head}
use Rattle.mf_store_sql.specs.Writes.{Serves}
use Rattle.mf_store_schema.specs.Calls.{OnlyFaultsShut}
use Rattle.mf_store_schema.specs.Rows.{Lists}
use Rattle.mf_store_schema.specs.Tables.{IsPresent}
use Rattle.mf_store_schema.specs.Writes.{schema_of, Holds}
use Rattle.mf_store_values.specs.Flat.{tables_of}
use Rattle.mf_store_noted.specs.Kept.{IsBegun, IsJournalOf, begins_of, journaled, tables_kept}
use Rattle.mf_store_journal.specs.declared.journal.Journal.{Journal}

-- the trees hold the institution's rows, and its journal's wherever that begins, and nothing else
pub record HoldsRowsOf (trees : Trees) (i : Institution) : Type 0 where
  pub begins : Option Head
  pub begun : IsBegun begins i
  pub holds : Holds trees (Some (tables_kept begins i))

-- the trees hold one of these institutions, whole
abbrev pub HoldsOneOf : List Institution → Trees → Type 0
HoldsOneOf [] trees = ⊥
HoldsOneOf (i ∷ is) trees = HoldsRowsOf trees i ⊎ HoldsOneOf is trees

module _ {S : Type 0} (g : Ghosts S) where
  -- The tables hold the institution's rows and, where the journal begins here, its journal's, and nothing else; and it
  -- is sound. Of a connection that a fault has shut nothing more is known.
  pub record IsKeptIn (journal : Option Head) (h : Held S) (i : Institution) : Type 0 where
    pub sound : IsSound i
    pub serves : IsTrue (state g h).is_open → Serves schema_of Holds (state g h).now (Some (tables_kept journal i))

  -- the same, and the journal is the institution's
  pub record IsTabled (journal : Option Journal) (h : Held S) (i : Institution) : Type 0 where
    pub kept : IsKeptIn (begins_of journal) h i
    pub keeps : IsJournalOf journal i

  -- so far the disk has returned what was written
  abbrev pub HasGoodDisk : Held S → Type 0
  HasGoodDisk h = HasCleanDisk (state g h)

  -- the tables are this program's, and a stop at this moment leaves one of these institutions, whole
  pub record LeavesTables (h : Held S) (is : List Institution) : Type 0 where
    pub ours : HasGoodDisk h → IsTrue (state g h).is_open → IsPresent (state g h).now.schema
    pub whole : HasGoodDisk h → (trees : Trees) → (state g h).may_leave trees → HoldsOneOf is trees

  -- the tables hold what they held, a stop leaves nothing more than before, and only a fault of the disk shuts the
  -- connection
  pub record StayTabled (old new : Held S) : Type 0 where
    pub premise : HasGoodDisk new → HasGoodDisk old
    pub shuts : OnlyFaultsShut (state g old) (state g new)
    pub same : HasGoodDisk new → (journal : Option Head) (i : Institution) → IsKeptIn journal old i
        → IsKeptIn journal new i
    pub stop : HasGoodDisk new → (is : List Institution) → LeavesTables old is → LeavesTables new is

  -- Where a new institution with these lists could not be made, nothing is changed, a stop leaves nothing more than
  -- before but that institution, whole, and only a fault of the disk shuts the connection.
  pub record IsUnfoundedAs (made : Lists) (old new : Held S) : Type 0 where
    pub premise : HasGoodDisk new → HasGoodDisk old
    pub was_open : HasGoodDisk new → IsTrue (state g new).is_open → IsTrue (state g old).is_open
    pub same : HasGoodDisk new → IsTrue (state g new).is_open → (state g new).now ≡ (state g old).now
    pub shuts : OnlyFaultsShut (state g old) (state g new)
    pub stop : HasGoodDisk new → Serves schema_of Holds (state g old).now None → (trees : Trees)
        → (state g new).may_leave trees → (state g old).may_leave trees ⊎ Holds trees (Some made)

  -- so of a new institution on a day that keeps no journal
  abbrev pub IsUnfounded : ℕ → Held S → Held S → Type 0
  IsUnfounded day = IsUnfoundedAs (tables_of (newly_made day))

  -- and of one that keeps one
  abbrev pub IsUnfoundedJournaled : ℕ → Held S → Held S → Type 0
  IsUnfoundedJournaled day = IsUnfoundedAs (tables_kept (Some (founding 3 day)) (journaled (newly_made day)))
