-- By which line of a run, and by whom, an entry was made or taken back.
use Rattle.std.specs.Prelude.{◌≡◌, ◌⊎◌, ℕ, ◌+◌, Bool, true, false, is_some, List, [], ◌∷◌, slice_get, Option}
use Rattle.std.specs.Prelude.{Some, None}
use Rattle.mf_office.specs.declared.account.Account.{Account}
use Rattle.mf_office.specs.declared.caller.Caller.{Caller}
use Rattle.mf_account.specs.declared.entry.Entry.{Entry}
use Rattle.mf_account.specs.declared.entry.Kind.{Kind}
use Rattle.mf_account.specs.declared.entry.Kind.TheVariants.{Repay, Fee, Penalty, Waive, WriteOff, Refund}
use Rattle.mf_model.specs.declared.request.LoanRequest.{LoanRequest}
use Rattle.mf_model.specs.declared.request.LoanRequest.TheVariants.{Reverse}
use Rattle.mf_model.specs.declared.request.Request.TheVariants.{Loan}
use Rattle.mf_model.specs.Desk.{loan_need, meets, staff_at}
use Rattle.mf_model.specs.Institution.{Institution, Ledger, Staff}
use Rattle.mf_model.specs.Needs.{Need, A_teller, An_officer, A_manager}
use Rattle.mf_model.specs.Run.{Line, change_of_line, next}
use Rattle.mf_model.specs.Store.{ledger_at}

-- at some line of a run this holds, of the line and of the institution as it was then
abbrev pub AtSomeLine : (Line → Institution → Type 0) → List Line → Institution → Type 0
AtSomeLine P [] i = ⊥
AtSomeLine P (l ∷ ls) i = P l i ⊎ AtSomeLine P ls (next l i)

-- who may make an entry of a kind
abbrev pub kind_need : Kind → Need
kind_need Repay = A_teller
kind_need Fee = An_officer
kind_need Penalty = An_officer
kind_need Waive = A_manager
kind_need WriteOff = A_manager
kind_need Refund = A_manager

-- the entries of a loan; none where there is none
abbrev pub entries_held : Option Ledger → List Entry
entries_held None = []
entries_held (Some l) = l.entries

-- the entry at a place of a loan, counted from 0
abbrev pub entry_at_place : Account → ℕ → Institution → Option Entry
entry_at_place loan place i = slice_get (entries_held (ledger_at loan i)) place

-- there is an entry, and it is reversed
abbrev pub is_reversed : Option Entry → Bool
is_reversed None = false
is_reversed (Some e) = e.reversed

-- the line asks this of the loan and is accepted, and its caller is this member of staff, whose role then allowed it
pub record IsAccepted (loan : Account) (asked : LoanRequest) (by : Caller) (l : Line) (i : Institution) : Type 0 where
  pub request : l.call.request ≡ Loan loan asked
  pub accepted : is_some (change_of_line l i) ≡ true
  pub caller : l.call.caller ≡ Some by
  pub staff : Staff
  pub staff_is : staff_at i by ≡ Some staff
  pub allowed : meets (loan_need asked) staff.role by.office ≡ true

-- an entry of this kind is asked for, by this member of staff, who may make one
pub record IsEntered (loan : Account) (kind : Kind) (by : Caller) (l : Line) (i : Institution) : Type 0 where
  pub asked : LoanRequest
  pub need : loan_need asked ≡ kind_need kind
  pub accepted : IsAccepted loan asked by l i

-- the entry at a place is taken back, by somebody who may
pub record IsTakenBack (loan : Account) (place : ℕ) (l : Line) (i : Institution) : Type 0 where
  pub by : Caller
  pub accepted : IsAccepted loan (Reverse (place + 1)) by l i
