-- The sums over the loans of an office, and over those of all offices.
use Rattle.std.specs.Prelude.{◌≡◌, ℕ, ◌+◌, ◌<◌, List, [], ◌∷◌, sum, sum_by, slice_index}
use Rattle.std.specs.List.{flat_map}
use Rattle.mf_account.specs.declared.balances.Balances.{Balances}
use Rattle.mf_account.specs.Balance.{balances_of, sum_repaid}
use Rattle.mf_account.specs.Loan.{DisbursedLoan}
use Rattle.mf_model.specs.Accounts.{account_in, of_account}
use Rattle.mf_model.specs.Institution.{Institution, Catalogue, Ledger, Office}

-- of an office's loans those that were paid out
abbrev pub paid_out_in : Catalogue → Office → List DisbursedLoan
paid_out_in k office = flat_map (λ (l : Ledger). of_account [] (λ a. a ∷ []) (account_in k l)) office.rows.loans

-- all loans that were paid out, office by office
abbrev pub all_paid_out : Institution → List DisbursedLoan
all_paid_out i = flat_map (paid_out_in i.catalogue) i.offices

-- a sum over loans, of what is read off the sums of each
abbrev pub total : (Balances → ℕ) → List DisbursedLoan → ℕ
total read loans = sum_by (λ (loan : DisbursedLoan). read (balances_of loan)) loans

-- the same of one portion
abbrev pub total_at : (Balances → List ℕ) → ℕ → List DisbursedLoan → ℕ
total_at column portion loans = total (λ b. slice_index (column b) portion) loans

-- what these loans owed of a portion is paid, waived, written off or outstanding
abbrev pub IsSumSettled : List DisbursedLoan → ℕ → Type 0
IsSumSettled loans portion = total_at (λ b. b.owed) portion loans
    ≡ total_at (λ b. b.paid) portion loans + total_at (λ b. b.waived) portion loans
    + total_at (λ b. b.written_off) portion loans + total_at (λ b. b.outstanding) portion loans

-- every cent that was lent to these, owed or repaid by them is somewhere
pub record AreAccountedFor (loans : List DisbursedLoan) : Type 0 where
  pub lent : sum_by (λ (loan : DisbursedLoan). loan.principal) loans
      ≡ total_at (λ b. b.paid) 3 loans + total_at (λ b. b.written_off) 3 loans + total_at (λ b. b.outstanding) 3 loans
  pub owed : (portion : ℕ) → portion < 4 → IsSumSettled loans portion
  pub repaid : sum_by (λ (loan : DisbursedLoan). sum_repaid loan.entries) loans
      ≡ total (λ b. sum b.paid) loans + total (λ b. b.overpaid) loans + total (λ b. b.refunded) loans
