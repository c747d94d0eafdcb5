-- The receipts of an office: those of the entries that carry one.
use Rattle.std.specs.Prelude.{◌≢◌, ℕ, ◌+◌, ◌&&◌, ◌==◌, cond, List, [], ◌∷◌, ◌++◌, Option, Some, None, Result, Ok, Err}
use Rattle.std.specs.List.{find, AllByRecursion}
use Rattle.std.specs.Str.{bytes_eq}
use Rattle.mf_base.specs.declared.fault.Fault.{Fault}
use Rattle.mf_base.specs.declared.fault.Fault.TheVariants.{F15}
use Rattle.mf_account.specs.declared.entry.Entry.{Entry}
use Rattle.mf_model.specs.declared.loan.ReceiptUse.{ReceiptUse}
use Rattle.mf_model.specs.Institution.{Ledger}

-- a receipt, and the entry that carries it
pub record Use : Type 0 where
  pub receipt : List ℕ
  pub by : ReceiptUse

-- an entry's use of a receipt
abbrev pub use_by : ℕ → Entry → ReceiptUse
use_by loan e = record { loan = loan; seq = e.seq; day = e.day; amount = e.amount }

-- the receipt of an entry, if it has one, and its use
abbrev pub use_of : Option (List ℕ) → ℕ → Entry → List Use
use_of None loan entry = []
use_of (Some receipt) loan entry = record { receipt = receipt; by = use_by loan entry } ∷ []

-- the receipts of the entries of a loan
abbrev pub uses_in : ℕ → List Entry → List Use
uses_in loan [] = []
uses_in loan (e ∷ es) = use_of e.receipt loan e ++ uses_in loan es

-- those of loans that are numbered from n on
abbrev pub uses_from : ℕ → List Ledger → List Use
uses_from n [] = []
uses_from n (l ∷ ls) = uses_in n l.entries ++ uses_from (n + 1) ls

-- where a receipt was used
abbrev pub first_use : List ℕ → List Use → Option Use
first_use receipt us = find (λ (u : Use). bytes_eq u.receipt receipt) us

-- where the receipt of an entry was used, if it has one
abbrev pub used_before : Option (List ℕ) → List Use → Option Use
used_before None us = None
used_before (Some receipt) us = first_use receipt us

-- the number of the entry that carries a used receipt, where the loan, the amount and the day are the same; else F15
abbrev pub repeated_seq : ℕ → ℕ → ℕ → ReceiptUse → Result ℕ Fault
repeated_seq loan amount day by = cond ((by.loan == loan) && ((by.amount == amount) && (by.day == day))) (Ok by.seq)
    (Err F15)

-- no receipt stands twice
abbrev pub AreApart : List Use → Type 0
AreApart [] = Unit {0}
AreApart (u ∷ us) = AllByRecursion (λ (v : Use). u.receipt ≢ v.receipt) us × AreApart us
