-- The sums of an office's line stay low where its loans are within the bounds, so that no instalment is refused.
use Rattle.std.proofs.Common.{◌≡◌, ◌⊎◌, ◌<◌, ◌≤◌, ◌+◌, ◌^◌, ◌==◌, ℕ, Bool, true, false, cond, [], ◌∷◌, ◌++◌}
use Rattle.std.proofs.Common.{length, sym, ap, ◌∙◌, subst, arith, inl, inr}
use Rattle.std.proofs.lemmas.Bool.Decides.{nat_tests}
use Rattle.std.proofs.lemmas.List.Sums.{sum_by-append}
use Rattle.mf_alloc.specs.Sums.{Instalment, open_at}
use Rattle.mf_arrears.specs.Line.{OfficeLine}
use Rattle.mf_arrears.specs.Folding.{LoanSoFar, open_principal, aged_rows, Progress, step, IsLow, IsSoFar}

-- a loan within the bounds is not refused when it is counted
pub count_over : (office : ℕ) (p : Progress) (read : LoanSoFar) (line : OfficeLine) → (10 ^ 12 < read.principal)
    ⊎ (10 ^ 10 ≤ line.loans) → IsSoFar office p read line → IsLow p → ⊥
count_over office p read line great at low =
    let small = low.small in
    let few = low.few in
    let principal : read.principal ≡ open_principal p.rows = at.principal in
    let count : line.loans ≡ length p.counted = ap (λ (l : OfficeLine). l.loans) at.line_is in
    elim great [
      | inl large ↦ omega (arith, large, principal, small)
      | inr many ↦ omega (arith, many, count, few)
    ]

-- what is refused when it is added to what is read of a loan, or when that loan is counted before
pub row_over : (today : ℕ) (p : Progress) (principal : ℕ) (found : ℕ × Instalment) → (found.0 == p.loan) ≡ true
    → principal ≡ open_principal p.rows → 2 ^ 64 ≤ principal + open_at found.1 3 → IsLow (step today p found) → ⊥
row_over today p principal found same is great low =
    let small : open_principal (p.rows ++ found.1 ∷ []) ≤ 10 ^ 12 =
    (subst (λ (b : Bool). IsLow (cond b (record p { rows = p.rows ++ found.1 ∷ [] }) (record {
      counted = p.counted
          ++ aged_rows today p.rows;
      loan = found.0;
      rows = found.1 ∷ [];
    }))) same low).small in
    let sum = sum_by-append (λ (r : Instalment). open_at r 3) p.rows (found.1 ∷ []) in
    omega (arith, is, great, small, sum)

pub first_over : (today : ℕ) (p : Progress) (found : ℕ × Instalment) → (found.0 == p.loan) ≡ false
    → 2 ^ 64 ≤ open_at found.1 3 → IsLow (step today p found) → ⊥
first_over today p found other great low =
    let small : open_principal (found.1 ∷ []) ≤ 10 ^ 12 =
    (subst (λ (b : Bool). IsLow (cond b (record p { rows = p.rows ++ found.1 ∷ [] }) (record {
      counted = p.counted
          ++ aged_rows today p.rows;
      loan = found.0;
      rows = found.1 ∷ [];
    }))) other low).small in
    omega (arith, great, small)

-- the same at what is read of a loan and its office's line
pub same_over : (office today : ℕ) (p : Progress) (read : LoanSoFar) (line : OfficeLine) (loan : ℕ) (row : Instalment)
    → loan ≡ read.loan → 2 ^ 64 ≤ read.principal + open_at row 3 → IsSoFar office p read line
    → IsLow (step today p (loan, row)) → ⊥
same_over office today p read line loan row same great at low =
    let own_loan : loan ≡ p.loan = same ∙ at.loan in
    let yes : (loan == p.loan) ≡ true = grind (arith, nat_tests) in
    row_over today p read.principal (loan, row) yes at.principal great low

pub next_over : (office today : ℕ) (p : Progress) (read fresh : LoanSoFar) (line : OfficeLine) (loan : ℕ)
    (row : Instalment)
    → (loan ≡ read.loan → ⊥) → fresh.principal ≡ 0 → 2 ^ 64 ≤ fresh.principal + open_at row 3
    → IsSoFar office p read line
    → IsLow (step today p (loan, row)) → ⊥
next_over office today p read fresh line loan row apart none great at low =
    let other : loan ≡ p.loan → ⊥ = λ e. apart (e ∙ sym at.loan) in
    let no : (loan == p.loan) ≡ false = grind (arith, nat_tests) in
    first_over today p (loan, row) no (omega (arith, none, great)) low
