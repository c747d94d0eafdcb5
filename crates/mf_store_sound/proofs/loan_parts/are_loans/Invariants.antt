use Rattle.std.proofs.Common.{◌≡◌, ◌↔◌, ◌+◌, ℕ, List, length, drop}
use Rattle.mf_model.specs.Institution.{Catalogue}
use Rattle.mf_store_values.specs.Flat.{product_as, numbered_from}
use Rattle.mf_store_sound.specs.Sound.{AreLoanParts}
use Rattle.mf_store_sound.proofs.loan_parts.are_loans.Given as goal

abbrev pub invariant-loop-row : goal.invariant-loop-row
invariant-loop-row l =
    (l.number ≡ l.row-index + 1)
    × ((k : Catalogue) → k.day ≡ l.lender.today → numbered_from product_as 1 k.products ≡ l.lender.products.now
    → (names : List (List ℕ)) → length names ≡ l.lender.clients
    → AreLoanParts k names l.lender.office 1 l.loans l.entries ↔ AreLoanParts k names l.lender.office l.number
    (drop l.row-index l.loans) l.entries_left)
