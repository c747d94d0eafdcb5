use Rattle.std.proofs.Common.{◌≡◌, List, drop}
use Rattle.mf_model.specs.Institution.{Catalogue}
use Rattle.mf_model.specs.Sound.{IsSoundCatalogue}
use Rattle.mf_store_values.specs.Accounts.{PlacedLoan, AreLoansOf, AreAccounts}
use Rattle.mf_store_values.specs.Flat.{charge_as, product_as, numbered_from}
use Rattle.mf_store_values.proofs.AccountRowLemmas.{IsLeft, Decides}
use Rattle.mf_store_values.proofs.account_rows.are_accounts.Given as goal

abbrev pub invariant-loop-row : goal.invariant-loop-row
invariant-loop-row l =
    (k : Catalogue) → IsSoundCatalogue k → numbered_from charge_as 1 k.charges ≡ l.charges → numbered_from product_as 1
    k.products ≡ l.products → (ps : List PlacedLoan) → AreLoansOf k l.loans l.entries ps
    → IsLeft k (Decides k (AreAccounts k ps l.instalments l.shares) l.instalments_left l.shares_left)
    (drop l.row-index l.loans) l.entries_left
