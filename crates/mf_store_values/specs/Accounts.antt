-- Rows of instalments and of shares of the accounts of loans, loan by loan over all offices.
use Rattle.std.specs.Prelude.{◌≡◌, ◌≢◌, ℕ, ◌+◌, ◌&&◌, ◌==◌, Bool, List, [], ◌∷◌, ◌++◌, map, take, drop}
use Rattle.std.specs.List.{AllByRecursion, prefix_len}
use Rattle.mf_alloc.specs.Sums.{Instalment}
use Rattle.mf_account.specs.declared.settled.SettledPart.{SettledPart}
use Rattle.mf_model.specs.Accounts.{account_in, of_account}
use Rattle.mf_model.specs.Institution.{Catalogue, Ledger, Office}
use Rattle.mf_store_schema.specs.declared.entries.EntryRow.{EntryRow}
use Rattle.mf_store_schema.specs.declared.instalments.InstalmentRow.{InstalmentRow}
use Rattle.mf_store_schema.specs.declared.loans.LoanRow.{LoanRow}
use Rattle.mf_store_schema.specs.declared.shares.ShareRow.{ShareRow}
use Rattle.mf_store_values.specs.Flat.{loan_in, entry_in, instalment_in, share_in, own_entries, instalments_kept}
use Rattle.mf_store_values.specs.Flat.{shares_kept}
use Rattle.mf_store_values.specs.Ledgers.{IsPlainLoan}

-- what is kept of a loan's account, where it has one
abbrev pub account_instalments : Catalogue → Ledger → List (ℕ × Instalment)
account_instalments k l = of_account [] instalments_kept (account_in k l)

-- the shares of a loan's account, each with its entry and place
abbrev pub account_shares : Catalogue → Ledger → List (ℕ × (ℕ × SettledPart))
account_shares k l = of_account [] shares_kept (account_in k l)

-- a loan of an office, under its number
pub record PlacedLoan : Type 0 where
  pub office : ℕ
  pub number : ℕ
  pub ledger : Ledger

-- an office's loans with their numbers, from one on
abbrev pub placed_loans : ℕ → ℕ → List Ledger → List PlacedLoan
placed_loans office n [] = []
placed_loans office n (l ∷ ls) = record { office = office; number = n; ledger = l } ∷ placed_loans office (n + 1) ls

-- the loans of all offices
abbrev pub all_placed : List Office → List PlacedLoan
all_placed [] = []
all_placed (f ∷ fs) = placed_loans f.number 1 f.rows.loans ++ all_placed fs

-- the rows of what these loans have
abbrev pub rows_of_placed : {A R : Type 0} → (ℕ → ℕ → A → R) → (Ledger → List A) → List PlacedLoan → List R
rows_of_placed make of [] = []
rows_of_placed make of (p ∷ ps) = map (make p.office p.number) (of p.ledger) ++ rows_of_placed make of ps

-- a placed loan's row
abbrev pub row_of_placed : PlacedLoan → LoanRow
row_of_placed p = loan_in p.office p.number p.ledger.loan

-- a row belongs to a loan of an office
abbrev pub is_of_loan : {R : Type 0} → (R → ℕ) → (R → ℕ) → ℕ → ℕ → R → Bool
is_of_loan office_of loan_of x n row = (office_of row == x) && (loan_of row == n)

-- the rows that stand first and pass, and the later ones
abbrev pub first_rows : {R : Type 0} → (R → Bool) → List R → List R
first_rows p rows = take (prefix_len p rows) rows

-- the rows behind the first ones that have something
abbrev pub later_rows : {R : Type 0} → (R → Bool) → List R → List R
later_rows p rows = drop (prefix_len p rows) rows

-- another loan
pub record IsOther (p q : PlacedLoan) : Type 0 where
  pub same_office : p.office ≡ q.office → p.number ≢ q.number

-- no loan comes twice
abbrev pub AreApartLoans : List PlacedLoan → Type 0
AreApartLoans [] = Unit {0}
AreApartLoans (p ∷ ps) = AllByRecursion (IsOther p) ps × AreApartLoans ps

-- a sound loan of an office with some clients, but for who entered its entries
pub record IsPlainPlaced (k : Catalogue) (p : PlacedLoan) : Type 0 where
  pub clients : List (List ℕ)
  pub plain : IsPlainLoan k clients p.ledger

-- loans whose rows these are
pub record AreLoansOf (k : Catalogue) (loans : List LoanRow) (entries : List EntryRow) (ps : List PlacedLoan) : Type
    0 where
  pub apart : AreApartLoans ps
  pub plain : AllByRecursion (IsPlainPlaced k) ps
  pub rows_are : map row_of_placed ps ≡ loans
  pub entries_are : rows_of_placed entry_in own_entries ps ≡ entries

-- the rows are those of their accounts
pub record AreAccounts (k : Catalogue) (ps : List PlacedLoan) (instalments : List InstalmentRow)
    (shares : List ShareRow) : Type 0 where
  pub instalments_are : rows_of_placed instalment_in (account_instalments k) ps ≡ instalments
  pub shares_are : rows_of_placed share_in (account_shares k) ps ≡ shares
