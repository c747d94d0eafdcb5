-- The sums of an office's line stay low where its loans are within the bounds, so that no row of theirs is refused.
use Rattle.std.proofs.Common.{◌⊎◌, ◌<◌, ◌≤◌, ◌+◌, ◌^◌, ℕ, zero, suc, List, [], ◌∷◌}
use Rattle.std.proofs.Common.{◌++◌, take, length, refl, sym, ◌∙◌, subst, arith, length-append}
use Rattle.std.specs.List.{AllByRecursion}
use Rattle.std.proofs.lemmas.Bool.{eq-eqb, ne_eqb}
use Rattle.std.proofs.lemmas.List.{append_assoc}
use Rattle.std.proofs.lemmas.List.Sums.{sum_by-append}
use Rattle.sqlite.specs.Order.{Row}
use Rattle.mf_alloc.specs.Sums.{Instalment, open_at}
use Rattle.mf_account.specs.Balance.{open_in}
use Rattle.mf_arrears.specs.Line.{OfficeLine}
use Rattle.mf_arrears.specs.Folding.{LoanSoFar, Progress, step, IsLow, IsSoFar}
use Rattle.mf_arrears.proofs.SumLemmas.{count_over}
use Rattle.mf_store_values.specs.Arrears.{NumberedLoan, AreAbove, aged_rows}
use Rattle.mf_store_values.specs.Folding.{IsReadAs, principal_left_of, AreWithinSums, IsOver}
use Rattle.mf_store_values.proofs.FoldLemmas.{Item, run, start, own, placed, sums_in, next_loan, lower, placed_rows}
use Rattle.mf_store_values.proofs.FoldLemmas.{placed_whole, Tells, told, run_more}

-- a loan counts once at most
counts_once : (today : ℕ) (rows : List Instalment) → length (aged_rows today rows) ≤ 1
counts_once today rows = grind arith

-- the sums are low at each step
abbrev AreLow : ℕ → Progress → List Item → Type 0
AreLow today p [] = IsLow p
AreLow today p (x ∷ xs) = IsLow p × AreLow today (step today p (x.0, x.1.1)) xs

low_at : (today : ℕ) (p : Progress) (xs : List Item) (n : ℕ) → AreLow today p xs → IsLow (run today p (take n xs))
low_at today p [] zero low = low
low_at today p [] (suc n) low = low
low_at today p (x ∷ xs) zero low = low.0
low_at today p (x ∷ xs) (suc n) low = low_at today (step today p (x.0, x.1.1)) xs n low.1

-- some rows of a loan come to no more than all of them
some_rows : (rows more : List Instalment) → open_in 3 (rows ++ more) ≤ 10 ^ 12 → open_in 3 rows ≤ 10 ^ 12
some_rows rows more low = let both = sum_by-append (λ (r : Instalment). open_at r 3) rows more in omega
    (arith, both, low)

-- the rest of the loan that is read, and then loan by loan
low_loans : (today : ℕ) (p : Progress) (xs : List (ℕ × Instalment)) (ls : List NumberedLoan) → AreAbove p.loan ls
    → open_in 3 (p.rows ++ sums_in xs) ≤ 10 ^ 12 → length p.counted + 1 + length ls ≤ 1000000
    → AllByRecursion (λ loan. principal_left_of loan ≤ 10 ^ 12) ls → AreLow today p (own p.loan xs ++ placed ls)
low_loans today p [] [] up small few each = record { small = some_rows p.rows [] small; few = omega (arith, few) }
low_loans today p (x ∷ xs) ls up small few each = (
  record { small = some_rows p.rows (x.1 ∷ sums_in xs) small; few = omega (arith, few) },
  rw (eq-eqb p.loan p.loan refl) (low_loans today (record p { rows = p.rows ++ x.1 ∷ [] }) xs ls up
      (subst (λ (rows : List Instalment). open_in 3 rows ≤ 10 ^ 12) (sym (append_assoc p.rows (x.1 ∷ []) (sums_in xs)))
      small)
      few each),
)
low_loans today p [] ((n, []) ∷ ls) up small few each =
    low_loans today p [] ls (lower p.loan n ls up.0 up.1) small (omega (arith, few)) each.1
low_loans today p [] ((n, x ∷ xs) ∷ ls) up small few each = (
  record { small = some_rows p.rows [] small; few = omega (arith, few) },
  rw (ne_eqb n p.loan (λ same. omega (arith, up.0, same))) (low_loans today (next_loan today p n x.1) xs ls up.1 each.0
      (let both = length-append p.counted (aged_rows today p.rows) in
      let once = counts_once today p.rows in
      omega (arith, both, once, few)) each.1),
)

low_office : (today : ℕ) (ls : List NumberedLoan) → AreAbove 0 ls → AreWithinSums ls → AreLow today start (placed ls)
low_office today ls up within = let few = within.few in low_loans today start [] ls up (omega arith)
    (omega (arith, few)) within.small

-- nor the last one
pub over_at_end : (today : ℕ) (taken : List Row) (empty : OfficeLine) (read : LoanSoFar) (line : OfficeLine)
    → (10 ^ 12 < read.principal) ⊎ (10 ^ 10 ≤ line.loans) → Tells today taken empty read line → IsOver taken empty
over_at_end today taken empty read line great tells office loans rest up whole within are is_new =
    let at = told today office taken rest (placed loans) empty read line (placed_whole loans whole)
    (are ∙ sym (placed_rows office loans)) tells is_new in
    count_over office _ read line great at (low_at today start (placed loans) (length taken) (low_office today loans up
    within))

-- nor is a row of theirs when it is taken
pub over_at_row : (today : ℕ) (taken : List Row) (row : Row) (found : ℕ × Instalment) (empty : OfficeLine)
    (read : LoanSoFar)
    (line : OfficeLine) → IsReadAs row found
    → ((office : ℕ) (p : Progress) → IsSoFar office p read line → IsLow p → IsLow (step today p found) → ⊥)
    → Tells today taken empty read line → IsOver (taken ++ row ∷ []) empty
over_at_row today taken row found empty read line reads refused tells office loans rest up whole within are is_new =
    let joined = sym (append_assoc taken (row ∷ []) rest) ∙ are ∙ sym (placed_rows office loans) in
    let wholes = placed_whole loans whole in
    let low = low_office today loans up within in
    refused office _ (told today office taken (row ∷ rest) (placed loans) empty read line wholes joined tells is_new)
    (low_at today start (placed loans) (length taken) low)
    (subst IsLow (run_more today office taken rest row found (placed loans) wholes joined reads)
    (low_at today start (placed loans) (length taken + 1) low))
