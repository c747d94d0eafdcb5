-- Equal parts differ by at most a cent, and only the last instalment that repays something isn't the fixed one.
use Rattle.std.proofs.Common.{◌≡◌, ◌≢◌, ℕ, ◌+◌, ◌-◌, ◌*◌, ◌/◌, ◌<◌, ◌≤◌, leb, min, inl, inr, refl, arith, ap, sym}
use Rattle.std.proofs.Common.{subst, ◌∙◌, map, sum, zero, suc}
use Rattle.std.proofs.Math.Nat.{div-mul-le_self, lt-div-mul-add}
use Rattle.std.proofs.lemmas.Bool.{cases_lt, cond-false, cond-true, le-leb, lt-leb}
use Rattle.std.proofs.lemmas.Nat.{le-div, div_below}
use Rattle.std.specs.List.{range_with_len}
use Rattle.mf_base.specs.Rounding.{half_even, split}
use Rattle.mf_catalog.specs.declared.terms.Terms.{Terms}
use Rattle.mf_catalog.specs.declared.terms.Method.{Method}
use Rattle.mf_catalog.specs.declared.terms.Method.TheVariants.{Flat, EqualPrincipal, Fixed}
use Rattle.mf_schedule.specs.Fixed.{balance_after, interest_on, next_balance}
use Rattle.mf_schedule.specs.Fresh.{IsLoanWithinLimits, instalment_of, scheduled_interest}
use Rattle.mf_schedule.specs.Plan.{balance_by, days_of, equal_principal, fixed_amount_of, fixed_balance}
use Rattle.mf_schedule.specs.Plan.{fixed_principal, flat_interest, interest_by, interest_of, period_interest}
use Rattle.mf_schedule.specs.Plan.{principal_by, principal_of}
use Rattle.mf_schedule.proofs.GraceLemmas.{after_grace-beyond, held_before}
use Rattle.mf_schedule.proofs.LoanLemmas.{fixed-interest-le, principal_of-step}
use Rattle.mf_guarantees.specs.Parts.{BearsItsOwnInterest, ComesAfter, DifferByACentAtMost, principal_and_interest}

-- ---- equal parts

one_more : (total k : ℕ) → 1 ≤ k → total * k ≡ total * (k - 1) + total
one_more total k first =
    let last : k ≡ k - 1 + 1 = omega (arith, first) in
    ap (λ x. total * x) last ∙ omega arith

-- a part is no less than the quotient
part_no_less : (total n k : ℕ) → 0 < n → 1 ≤ k → total / n ≤ split total n k
part_no_less total n k some first =
    let whole = one_more total k first in
    let apart : (total * (k - 1) / n + total / n) * n ≡ total * (k - 1) / n * n + total / n * n = omega arith in
    let step : total * (k - 1) / n + total / n ≤ total * k / n =
    le-div (total * (k - 1) / n + total / n) (total * k) n some
    (omega (arith, whole, apart, div-mul-le_self (total * (k - 1)) n, div-mul-le_self total n)) in
    omega (arith, step)

-- and is at most a cent more
part_no_more : (total n k : ℕ) → 0 < n → 1 ≤ k → split total n k ≤ total / n + 1
part_no_more total n k some first =
    let whole = one_more total k first in
    let apart : (total * (k - 1) / n + total / n + 2) * n ≡ total * (k - 1) / n * n + total / n * n + 2 * n =
    omega arith in
    let before : total * (k - 1) < total * (k - 1) / n * n + n = lt-div-mul-add some in
    let all : total < total / n * n + n = lt-div-mul-add some in
    let step : total * k / n < total * (k - 1) / n + total / n + 2 =
    div_below (total * k) n (total * (k - 1) / n + total / n + 2) some (omega (arith, whole, apart, before, all)) in
    omega (arith, step)

pub parts_near : (total n k l : ℕ) → 0 < n → 1 ≤ k → 1 ≤ l → DifferByACentAtMost (split total n k) (split total n l)
parts_near total n k l some first second = record {
  first = omega (arith, part_no_more total n k some first, part_no_less total n l some second);
  second = omega (arith, part_no_more total n l some second, part_no_less total n k some first);
}

equal_part_is : (terms : Terms) (principal n i : ℕ) → terms.principal_grace < i → equal_principal terms principal n i
    ≡ split principal (n - terms.principal_grace) (i - terms.principal_grace)
equal_part_is terms principal n i after =
    cond-false (leb i terms.principal_grace) 0 _ (lt-leb i terms.principal_grace after)

equal_near : (terms : Terms) (principal n i j : ℕ) → ComesAfter terms.principal_grace n i
    → ComesAfter terms.principal_grace n j
    → DifferByACentAtMost (equal_principal terms principal n i) (equal_principal terms principal n j)
equal_near terms principal n i j one other =
    rw (equal_part_is terms principal n i one.after, equal_part_is terms principal n j other.after)
    (parts_near principal (n - terms.principal_grace) (i - terms.principal_grace) (j - terms.principal_grace)
    (let among = one.among in let after = one.after in omega (arith, among, after))
    (let after = one.after in omega (arith, after)) (let after = other.after in omega (arith, after)))

pub principal_near : (method : Method) (terms : Terms) (principal n i j : ℕ) → method ≢ Fixed
    → ComesAfter terms.principal_grace n i → ComesAfter terms.principal_grace n j
    → DifferByACentAtMost (principal_by method terms principal n i) (principal_by method terms principal n j)
principal_near Flat terms principal n i j apart one other = equal_near terms principal n i j one other
principal_near EqualPrincipal terms principal n i j apart one other = equal_near terms principal n i j one other
principal_near Fixed terms principal n i j apart one other = absurd (apart refl)

-- ---- an instalment's own interest

held_nothing : (terms : Terms) (interest : ℕ → ℕ) (i : ℕ) → 1 ≤ i → BearsItsOwnInterest terms i
    → held_before terms.interest_grace interest i ≡ 0
held_nothing terms interest i first (inr later) =
    cond-false (leb i (terms.interest_grace + 1)) _ 0 (lt-leb i (terms.interest_grace + 1) later)
held_nothing terms interest i first (inl none) = elim (cases_lt 1 i) [
  | inl later ↦ cond-false (leb i (terms.interest_grace + 1)) _ 0
      (lt-leb i (terms.interest_grace + 1) (omega (arith, none, later)))
  | inr here ↦
      let place : i - 1 ≡ 0 = omega (arith, here) in
      cond-true (leb i (terms.interest_grace + 1)) _ 0 (le-leb i (terms.interest_grace + 1) (omega (arith, here)))
      ∙ ap (λ (x : ℕ). sum (map interest (range_with_len 1 x))) place
]

pub own_interest : (terms : Terms) (principal n i : ℕ) → 1 ≤ i → BearsItsOwnInterest terms i
    → scheduled_interest terms principal n i ≡ interest_of terms principal n i
own_interest terms principal n i first own =
    let beyond : terms.interest_grace < i =
    elim own [ inl none ↦ omega (arith, none, first) | inr later ↦ omega (arith, later) ] in
    let taken = after_grace-beyond terms.interest_grace (interest_of terms principal n) i first beyond in
    let nothing = held_nothing terms (interest_of terms principal n) i first own in
    omega (arith, taken, nothing)

-- the parts of a flat interest
pub flat_near : (terms : Terms) (principal n day i j : ℕ) → terms.method ≡ Flat → ComesAfter 0 n i → ComesAfter 0 n j
    → BearsItsOwnInterest terms i → BearsItsOwnInterest terms j
    → DifferByACentAtMost (instalment_of terms principal n day i).interest
    (instalment_of terms principal n day j).interest
flat_near terms principal n day i j flat one other own others =
    let some : 0 < n = let after = one.after in let among = one.among in omega (arith, after, among) in
    let near = parts_near (flat_interest terms principal n) n i j some one.after other.after in
    let here = flat_part terms principal n i flat one.after own in
    let there = flat_part terms principal n j flat other.after others in
    let low = near.first in
    let high = near.second in
    record { first = omega (arith, low, here, there); second = omega (arith, high, here, there) }
  where
    flat_part : (terms : Terms) (principal n i : ℕ) → terms.method ≡ Flat → 1 ≤ i → BearsItsOwnInterest terms i
        → scheduled_interest terms principal n i ≡ split (flat_interest terms principal n) n i
    flat_part terms principal n i flat first own =
        own_interest terms principal n i first own ∙ ap (λ (m : Method). interest_by m terms principal n i) flat

-- ---- the fixed instalment

nothing_borne : (rate days amount : ℕ) → next_balance rate days amount 0 ≡ 0
nothing_borne rate days amount =
    let product : 0 * rate * days ≡ 0 = omega arith in
    let interest : interest_on rate days 0 ≡ 0 = ap (λ x. half_even x 3600000) product in
    omega (arith, interest)

-- what is left of nothing is nothing
nothing_stays : (rate days amount principal turns more : ℕ) → balance_after rate days amount principal turns ≡ 0
    → balance_after rate days amount principal (turns + more) ≡ 0
nothing_stays rate days amount principal turns zero none =
    let same : turns + 0 ≡ turns = omega arith in
    ap (balance_after rate days amount principal) same ∙ none
nothing_stays rate days amount principal turns (suc more) none =
    let next : turns + suc more ≡ suc (turns + more) = omega arith in
    ap (balance_after rate days amount principal) next
    ∙ ap (next_balance rate days amount) (nothing_stays rate days amount principal turns more none)
    ∙ nothing_borne rate days amount

-- after the grace, what the fixed amount leaves over the interest, and not more than there is
fixed_principal_is : (terms : Terms) (principal n i : ℕ) → terms.principal_grace < i
    → fixed_principal terms principal n i
    ≡ min (fixed_amount_of terms principal n - period_interest terms (fixed_balance terms principal n i))
    (fixed_balance terms principal n i)
fixed_principal_is terms principal n i after =
    cond-false (leb i terms.principal_grace) 0 _ (lt-leb i terms.principal_grace after)

-- where a later instalment repays something, something was left before it
left_before : (terms : Terms) (principal n i j : ℕ) → terms.principal_grace < i → i < j
    → 0 < fixed_principal terms principal n j → 0 < fixed_balance terms principal n (i + 1)
left_before terms principal n i j after later some =
    elim (cases_lt 0 (fixed_balance terms principal n (i + 1))) [
      | inl left ↦ left
      | inr none ↦
          let amount = fixed_amount_of terms principal n in
          let place : i + 1 - 1 - terms.principal_grace + (j - 1 - i) ≡ j - 1 - terms.principal_grace =
          omega (arith, after, later) in
          let nothing : fixed_balance terms principal n j ≡ 0 =
          sym (ap (balance_after terms.rate (days_of terms) amount principal) place)
          ∙ nothing_stays terms.rate (days_of terms) amount principal (i + 1 - 1 - terms.principal_grace) (j - 1 - i)
          (omega (arith, none)) in
          let is = fixed_principal_is terms principal n j (omega (arith, after, later)) in
          absurd (omega (arith, is, nothing, some))
    ]

fixed_no_more : (terms : Terms) (principal n i : ℕ) → IsLoanWithinLimits terms principal n → terms.principal_grace < i
    → fixed_principal terms principal n i + period_interest terms (fixed_balance terms principal n i)
    ≤ fixed_amount_of terms principal n
fixed_no_more terms principal n i limits after =
    let is = fixed_principal_is terms principal n i after in
    let interest = fixed-interest-le terms principal n i limits in
    omega (arith, is, interest)

-- an instalment takes its principal off the balance
step_of_fixed : (terms : Terms) (principal n i : ℕ) → IsLoanWithinLimits terms principal n → terms.method ≡ Fixed
    → 1 ≤ i → i ≤ n → fixed_principal terms principal n i + fixed_balance terms principal n (i + 1)
    ≡ fixed_balance terms principal n i
step_of_fixed terms principal n i limits fixed first among =
    subst (λ (m : Method). principal_by m terms principal n i + balance_by m terms principal n (i + 1)
    ≡ balance_by m terms principal n i) fixed (principal_of-step terms principal n i limits first among)

fixed_before_last : (terms : Terms) (principal n i j : ℕ) → IsLoanWithinLimits terms principal n
    → terms.method ≡ Fixed → ComesAfter terms.principal_grace n i → i < j → 0 < fixed_principal terms principal n j
    → fixed_principal terms principal n i + period_interest terms (fixed_balance terms principal n i)
    ≡ fixed_amount_of terms principal n
fixed_before_last terms principal n i j limits fixed comes later some =
    let is = fixed_principal_is terms principal n i comes.after in
    let interest = fixed-interest-le terms principal n i limits in
    let left = left_before terms principal n i j comes.after later some in
    let after = comes.after in
    let among = comes.among in
    let step = step_of_fixed terms principal n i limits fixed (omega (arith, after)) among in
    omega (arith, is, interest, left, step)

-- an instalment by the method Fixed, in the words of the plan
in_plan : (terms : Terms) (principal n day i : ℕ) → terms.method ≡ Fixed → 1 ≤ i → BearsItsOwnInterest terms i
    → principal_and_interest terms principal n day i
    ≡ fixed_principal terms principal n i + period_interest terms (fixed_balance terms principal n i)
in_plan terms principal n day i fixed first own =
    let part : principal_of terms principal n i ≡ fixed_principal terms principal n i =
    ap (λ (m : Method). principal_by m terms principal n i) fixed in
    let borne : interest_of terms principal n i ≡ period_interest terms (fixed_balance terms principal n i) =
    ap (λ (m : Method). interest_by m terms principal n i) fixed in
    omega (arith, part, borne, own_interest terms principal n i first own)

pub at_most_fixed : (terms : Terms) (principal n day i : ℕ) → IsLoanWithinLimits terms principal n
    → terms.method ≡ Fixed → ComesAfter terms.principal_grace n i → BearsItsOwnInterest terms i
    → principal_and_interest terms principal n day i ≤ fixed_amount_of terms principal n
at_most_fixed terms principal n day i limits fixed comes own =
    let after = comes.after in
    let is = in_plan terms principal n day i fixed (omega (arith, after)) own in
    let most = fixed_no_more terms principal n i limits after in
    omega (arith, is, most)

pub fixed_but_last : (terms : Terms) (principal n day i j : ℕ) → IsLoanWithinLimits terms principal n
    → terms.method ≡ Fixed → ComesAfter terms.principal_grace n i → BearsItsOwnInterest terms i → i < j
    → 0 < (instalment_of terms principal n day j).principal
    → principal_and_interest terms principal n day i ≡ fixed_amount_of terms principal n
fixed_but_last terms principal n day i j limits fixed comes own later some =
    let after = comes.after in
    let is = in_plan terms principal n day i fixed (omega (arith, after)) own in
    let part : principal_of terms principal n j ≡ fixed_principal terms principal n j =
    ap (λ (m : Method). principal_by m terms principal n j) fixed in
    let all = fixed_before_last terms principal n i j limits fixed comes later (omega (arith, part, some)) in
    omega (arith, is, all)
