-- A loan with its entries that is sound by itself; who entered these is left open.
use Rattle.std.specs.Prelude.{◌≡◌, ℕ, ◌≤◌, List, [], Option, Some, None, IfSome, is_some, true}
use Rattle.std.specs.List.{AllByRecursion}
use Rattle.mf_base.specs.DayText.{last_entered_day}
use Rattle.mf_office.specs.Texts.{IsCaller}
use Rattle.mf_account.specs.declared.entry.Entry.{Entry}
use Rattle.mf_account.specs.Loan.{AreEntries}
use Rattle.mf_model.specs.Institution.{Catalogue, Ledger, item_numbered, product_in}
use Rattle.mf_account.specs.Receipts.{IsReceipt}
use Rattle.mf_model.specs.Sound.{IsStageBy, lends}
use Rattle.mf_model.specs.Stages.{disbursed_on}
use Rattle.mf_model.specs.declared.loan.Loan.{Loan}

-- an entry whose day can be entered, by a caller whose numbers are in range
abbrev pub IsReadable : Entry → Type 0
IsReadable e = (e.day ≤ last_entered_day) × IsCaller e.staff

-- what an entry keeps beside its own columns: its day can be entered and is not after today, its caller is in range,
-- and its receipt is one
pub record IsEnteredBy (today : ℕ) (e : Entry) : Type 0 where
  pub readable : IsReadable e
  pub entered : e.day ≤ today
  pub receipt : IfSome e.receipt IsReceipt

-- a loan's client is there, its product lends so, and its days are in order
pub record IsOwnLoan (k : Catalogue) (clients : List (List ℕ)) (l : Loan) : Type 0 where
  pub client : is_some (item_numbered clients l.client) ≡ true
  pub product : lends (product_in k l.product) l.principal l.periods ≡ true
  pub stage : IsStageBy k.day l.stage

-- the entries of a loan of so many periods, none before it is disbursed; who entered them is left open
abbrev pub AreEntriesIn : ℕ → ℕ → Option ℕ → List Entry → Type 0
AreEntriesIn today periods None entries = entries ≡ []
AreEntriesIn today periods (Some day) entries =
    AreEntries periods day entries × AllByRecursion (IsEnteredBy today) entries

-- a sound loan, but for who entered its entries
pub record IsPlainLoan (k : Catalogue) (clients : List (List ℕ)) (l : Ledger) : Type 0 where
  pub own : IsOwnLoan k clients l.loan
  pub entries : AreEntriesIn k.day l.loan.periods (disbursed_on l.loan.stage) l.entries
