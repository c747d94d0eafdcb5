-- What is asked to be entered of a loan, and the entry that it makes.
use Rattle.std.specs.Prelude.{ℕ, Option}
use Rattle.mf_base.specs.declared.fault.Fault.{Fault}
use Rattle.mf_office.specs.declared.caller.Caller.{Caller}
use Rattle.mf_account.specs.declared.entry.Entry.{Entry}
use Rattle.mf_account.specs.Loan.{DisbursedLoan}
use Rattle.mf_model.specs.Loans.{none_first, fee_first}
use Rattle.mf_model.specs.Postings.{repayment, fee, posting}
use Rattle.mf_model.specs.Sound.{IsRepayment, IsPostingInRange}
use Rattle.mf_desk.specs.declared.entries.Asked.{Asked}
use Rattle.mf_desk.specs.declared.entries.Asked.TheVariants as asked

-- what was asked is in its ranges
abbrev pub IsAskedInRange : Asked → Type 0
IsAskedInRange (asked.Repayment r) = IsRepayment r
IsAskedInRange (asked.Posting p) = IsPostingInRange p
IsAskedInRange (asked.Fee charge due) = Unit {0}

-- what refuses it before its account does
abbrev pub first_of : Asked → DisbursedLoan → Option Fault
first_of (asked.Repayment r) = none_first
first_of (asked.Posting p) = none_first
first_of (asked.Fee charge due) = fee_first due

-- the entry, as the next of an account
abbrev pub entry_of : Asked → Caller → ℕ → DisbursedLoan → Entry
entry_of (asked.Repayment r) staff today = repayment r staff
entry_of (asked.Posting p) staff today = posting p staff today
entry_of (asked.Fee charge due) staff today = fee charge due staff today
