use Rattle.std.proofs.Common.{◌≡◌, ℕ, List, drop, map}
use Rattle.std.specs.List.{AllByRecursion}
use Rattle.mf_model.specs.Institution.{Catalogue, Ledger}
use Rattle.mf_model.specs.Sound.{IsSoundCatalogue}
use Rattle.mf_store_values.specs.Flat.{charge_as, product_as, loan_in, entry_in, own_entries, numbered_from}
use Rattle.mf_store_values.specs.Flat.{rows_of_loans}
use Rattle.mf_store_audit.specs.OfficeSums.{IsPlain}
use Rattle.mf_store_audit.specs.Sums.{sums_by_loan}
use Rattle.mf_store_audit.proofs.WalkLemmas.{IsLeft}
use Rattle.mf_store_audit.proofs.sums_by_office.sums_of_loans.Given as goal

abbrev pub invariant-loop-row : goal.invariant-loop-row
invariant-loop-row l =
    (k : Catalogue) → IsSoundCatalogue k → numbered_from charge_as 1 k.charges ≡ l.charges → numbered_from product_as 1
    k.products ≡ l.products → (office : ℕ) (ls : List Ledger) → AllByRecursion (IsPlain k) ls
    → numbered_from (loan_in office) 1 (map (λ (m : Ledger). m.loan) ls) ≡ l.loans → rows_of_loans entry_in own_entries
    office 1 ls ≡ l.entries
    → IsLeft k office (sums_by_loan k l.clients ls) (drop l.row-index l.loans) l.entries_left l.sums
