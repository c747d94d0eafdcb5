-- What an entry or a reversal changed.
use Rattle.std.specs.Prelude.{◌≡◌, ◌≢◌, ℕ, ◌≤◌, ◌==◌, List, [], length, filter, All}
use Rattle.std.specs.List.{Contains}
use Rattle.std.specs.List.Sorted.{IsStrictlyIncreasing}
use Rattle.mf_alloc.specs.Sums.{Instalment}
use Rattle.mf_alloc.specs.Rows.{row_at}
use Rattle.mf_account.specs.declared.settled.SettledPart.{SettledPart}
use Rattle.mf_account.specs.Effect.{State}
use Rattle.mf_account.specs.Loan.{DisbursedLoan, state_of_loan, settled_of_loan}

-- instalments and entries, by their numbers
pub record ChangedNumbers : Type 0 where
  pub rows : List ℕ
  pub seqs : List ℕ

-- an account: its loan, its state and what its standing entries settled as they are kept, and what the last entry or
-- reversal changed
pub record KeptAccount : Type 0 where
  pub loan : DisbursedLoan
  pub state : State
  pub settled : List SettledPart
  pub change : ChangedNumbers

-- no row and no entry
abbrev pub no_change : ChangedNumbers
no_change = record { rows = []; seqs = [] }

-- the account of a loan: what replaying its standing entries over its fresh schedule gives, and nothing changed since
abbrev pub account_by_replay : DisbursedLoan → KeptAccount
account_by_replay loan = record {
  loan = loan;
  state = state_of_loan loan;
  settled = settled_of_loan loan;
  change = no_change;
}

-- what is kept of an account is what a replay gives
pub record IsReplayed (a : KeptAccount) : Type 0 where
  pub state : a.state ≡ state_of_loan a.loan
  pub settled : a.settled ≡ settled_of_loan a.loan

-- the parts of one entry
abbrev pub settled_in : ℕ → List SettledPart → List SettledPart
settled_in seq settled = filter (λ (s : SettledPart). s.seq == seq) settled

-- rows and parts as they are kept of a loan: those of a replay, the parts by entry in any order of the entries
pub record AreKeptOf (loan : DisbursedLoan) (rows : List Instalment) (parts : List SettledPart) : Type 0 where
  pub rows_are : rows ≡ (state_of_loan loan).rows
  pub parts_are : (seq : ℕ) → settled_in seq parts ≡ settled_in seq (settled_of_loan loan)

-- the numbers from 1 to n of which something holds, all of them and no other, ascending
pub record AreThose (n : ℕ) (P : ℕ → Type 0) (xs : List ℕ) : Type 0 where
  pub ascend : IsStrictlyIncreasing xs
  pub each : All (λ i. (1 ≤ i) × (i ≤ n) × P i) xs
  pub all : (i : ℕ) → 1 ≤ i → i ≤ n → P i → Contains xs i

-- the numbers of which something holds, all of them and no other, ascending
pub record AreAll (P : ℕ → Type 0) (xs : List ℕ) : Type 0 where
  pub ascend : IsStrictlyIncreasing xs
  pub each : All P xs
  pub all : (i : ℕ) → P i → Contains xs i

-- an instalment's row is another one
abbrev pub HasOtherRow : List Instalment → List Instalment → ℕ → Type 0
HasOtherRow before after i = row_at before i ≢ row_at after i

-- what an entry settled is something else
abbrev pub HasOtherParts : List SettledPart → List SettledPart → ℕ → Type 0
HasOtherParts before after seq = settled_in seq before ≢ settled_in seq after

-- exactly the instalments whose rows differ between two loans, and the entries whose settled parts do
pub record IsChange (before after : DisbursedLoan) (change : ChangedNumbers) : Type 0 where
  pub rows : AreThose after.periods (HasOtherRow (state_of_loan before).rows (state_of_loan after).rows) change.rows
  pub seqs : AreThose (length after.entries) (HasOtherParts (settled_of_loan before) (settled_of_loan after))
      change.seqs
