use Rattle.std.proofs.Common.{◌≡◌, List, drop}
use Rattle.mf_model.specs.Institution.{Catalogue}
use Rattle.mf_model.specs.Sound.{IsSoundCatalogue}
use Rattle.mf_store_values.specs.Accounts.{PlacedLoan, AreLoansOf}
use Rattle.mf_store_values.specs.Flat.{charge_as, product_as, numbered_from}
use Rattle.mf_store_values.proofs.AccountRowLemmas.{IsLeft, AreMade}
use Rattle.mf_store_values.proofs.account_rows.rows_of_accounts.Given as goal

abbrev pub invariant-loop-row : goal.invariant-loop-row
invariant-loop-row l =
    (k : Catalogue) → IsSoundCatalogue k → numbered_from charge_as 1 k.charges ≡ l.charges → numbered_from product_as 1
    k.products ≡ l.products → (ps : List PlacedLoan) → AreLoansOf k l.loans l.entries ps
    → IsLeft k (AreMade k ps l.instalments.items l.shares.items) (drop l.row-index l.loans) l.entries_left
