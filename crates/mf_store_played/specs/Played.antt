-- Lines of a journal played from the founding at which it begins, and rows held against rows.
use Rattle.std.specs.Prelude.{◌≡◌, ◌≢◌, ◌≤◌, ◌+◌, ℕ, List, [], ◌∷◌, take, slice_get, Result, Ok, Err, IfOk}
use Rattle.mf_base.specs.DayText.{last_entered_day}
use Rattle.mf_base.specs.declared.fault.Fault.{Fault}
use Rattle.sqlite.specs.State.{State, HasCleanDisk}
use Rattle.mf_journal.specs.Founding.{founding}
use Rattle.mf_journal.specs.declared.following.Head.{Head}
use Rattle.mf_model.specs.Institution.{Institution, JournalLine, newly_made}
use Rattle.mf_model.specs.declared.store.InstitutionStore.{Ghosts}
use Rattle.mf_play.specs.Play.{PlaysTo, StopsAt}
use Rattle.mf_play.specs.declared.stop.Stop.{Stop}
use Rattle.mf_store_journal.specs.Reading.{IsThird}
use Rattle.mf_store_journal.specs.Written.{KeepsJournalFrom}
use Rattle.mf_store_noted.specs.Kept.{journaled}
use Rattle.mf_store_schema.specs.Rows.{Lists}
use Rattle.mf_store_sound.specs.Held.{AllTrue}
use Rattle.mf_store_played.specs.declared.played.PlayedTable.{PlayedTable}
use Rattle.mf_store_played.specs.declared.played.PlayedTable.TheVariants.{Meta, Offices, Staff, Clients, Charges}
use Rattle.mf_store_played.specs.declared.played.PlayedTable.TheVariants.{Products, Loans, Entries, Receipts}
use Rattle.mf_store_played.specs.declared.played.PlayedTable.TheVariants.{Instalments, Shares}

-- the journal begins at the founding of an institution, whose first business day is this
pub record IsFounding (begins : Head) (day : ℕ) : Type 0 where
  pub early : day ≤ last_entered_day
  pub is : begins ≡ founding 3 day

-- the institution that is founded on a day, with a journal that has no line yet
abbrev pub founded : ℕ → Institution
founded day = journaled (newly_made day)

-- ---- rows against rows

-- this is the first place at which two lists differ: the items there are others, or only one list has one
pub record DiffersAt {A : Type 0} (xs ys : List A) (place : ℕ) : Type 0 where
  pub before : take place xs ≡ take place ys
  pub there : slice_get xs place ≢ slice_get ys place

-- the place of a table in the order of the schema
abbrev pub order_of : PlayedTable → ℕ
order_of Meta = 0
order_of Offices = 1
order_of Staff = 2
order_of Clients = 3
order_of Charges = 4
order_of Products = 5
order_of Loans = 6
order_of Entries = 7
order_of Receipts = 8
order_of Instalments = 9
order_of Shares = 10

-- of each table, in the order of the schema: that its rows are the same
abbrev pub sames : Lists → Lists → List (Type 0)
sames a b = (a.meta ≡ b.meta) ∷ (a.offices ≡ b.offices) ∷ (a.staff ≡ b.staff) ∷ (a.clients ≡ b.clients)
    ∷ (a.charges ≡ b.charges) ∷ (a.products ≡ b.products) ∷ (a.loans ≡ b.loans) ∷ (a.entries ≡ b.entries)
    ∷ (a.receipts ≡ b.receipts) ∷ (a.instalments ≡ b.instalments) ∷ (a.shares ≡ b.shares) ∷ []

-- the rows of this table differ, first at this place
abbrev pub DiffersIn : PlayedTable → Lists → Lists → ℕ → Type 0
DiffersIn Meta a b row = DiffersAt a.meta b.meta row
DiffersIn Offices a b row = DiffersAt a.offices b.offices row
DiffersIn Staff a b row = DiffersAt a.staff b.staff row
DiffersIn Clients a b row = DiffersAt a.clients b.clients row
DiffersIn Charges a b row = DiffersAt a.charges b.charges row
DiffersIn Products a b row = DiffersAt a.products b.products row
DiffersIn Loans a b row = DiffersAt a.loans b.loans row
DiffersIn Entries a b row = DiffersAt a.entries b.entries row
DiffersIn Receipts a b row = DiffersAt a.receipts b.receipts row
DiffersIn Instalments a b row = DiffersAt a.instalments b.instalments row
DiffersIn Shares a b row = DiffersAt a.shares b.shares row

-- this is the first table whose rows differ, first at this place
pub record IsFirstDifference (table : PlayedTable) (row : ℕ) (a b : Lists) : Type 0 where
  pub before : AllTrue (take (order_of table) (sames a b))
  pub there : DiffersIn table a b row

-- ---- lines of a table, played over a store

module _ {S : Type 0} (store : Ghosts S) where
  -- the lines after a number played, and the store stands for what follows; or the line of this number is the first
  -- that doesn't play, for this
  abbrev pub CameToByNumber : ℕ → Institution → List JournalLine → S → Result (Unit {0}) (ℕ × Stop) → Type 0
  CameToByNumber after i lines new (Ok done) = (j : Institution) × PlaysTo i lines j × store.stands new j
  CameToByNumber after i lines new (Err found) =
      (place : ℕ) × (found.0 ≡ after + place + 1) × StopsAt i lines place found.1

  -- the same of the lines that a table keeps of a journal that begins after a number, and of each institution that the
  -- store stood for, as long as the disks return what was written
  abbrev pub PlaysTable : ℕ → State → State → S → S → Result (Result (Unit {0}) (ℕ × Stop)) Fault → Type 0
  PlaysTable after old new was now result = HasCleanDisk new → IsThird old.now.schema → store.clean now
      → (begins : Head) (lines : List JournalLine) → begins.number ≡ after → KeepsJournalFrom begins old.now.trees lines
      → (i : Institution) → store.stands was i → IfOk result (CameToByNumber after i lines now)
