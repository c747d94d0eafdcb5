-- Grace of interest: what the instalments in grace hold back is what the next one takes, so the total stays.
use Rattle.std.proofs.Common.{◌≡◌, ℕ, zero, suc, ◌+◌, ◌-◌, ◌<◌, ◌≤◌, cond, eqb, leb, inl, inr, arith, map, sum, add-one}
use Rattle.std.proofs.Common.{ap, subst, sym}
use Rattle.std.proofs.lemmas.Bool.{cases_lt, cases_order, cond-true, cond-false, eq-eqb, le-leb, lt-leb, ne_eqb}
use Rattle.std.specs.List.{range_with_len}
use Rattle.mf_schedule.specs.Plan.{after_grace}
use Rattle.mf_schedule.proofs.PlanLemmas.{sum_more}

-- what is held back before instalment i
abbrev pub held_before : ℕ → (ℕ → ℕ) → ℕ → ℕ
held_before grace interest i = cond (leb i (grace + 1)) (sum (map interest (range_with_len 1 (i - 1)))) 0

-- with its own interest an instalment within the first after grace has the sum so far
held_sum : (interest : ℕ → ℕ) (i : ℕ) → 1 ≤ i → sum (map interest (range_with_len 1 (i - 1))) + interest i
    ≡ sum (map interest (range_with_len 1 i))
held_sum interest i one =
    let last : i - 1 + 1 ≡ i = omega arith in
    subst (λ (x : ℕ). sum (map interest (range_with_len 1 (i - 1))) + interest x
    ≡ sum (map interest (range_with_len 1 x))) last (sym (sum_more interest (i - 1)))

-- an instalment in grace takes nothing
pub after_grace-within : (grace : ℕ) (interest : ℕ → ℕ) (i : ℕ) → i ≤ grace → after_grace grace interest i ≡ 0
after_grace-within grace interest i within = cond-true (leb i grace) 0 (cond (eqb i (grace + 1))
    (sum (map interest (range_with_len 1 i))) (interest i)) (le-leb i grace within)

-- and adds its interest to what is held back
pub held_before-within : (grace : ℕ) (interest : ℕ → ℕ) (i : ℕ) → 1 ≤ i → i ≤ grace → held_before grace interest i
    + interest i ≡ held_before grace interest (i + 1)
held_before-within grace interest i one within =
    let here : held_before grace interest i ≡ sum (map interest (range_with_len 1 (i - 1))) =
    cond-true (leb i (grace + 1)) _ 0 (le-leb i (grace + 1) (omega arith)) in
    let next : held_before grace interest (i + 1) ≡ sum (map interest (range_with_len 1 (i + 1 - 1))) =
    cond-true (leb (i + 1) (grace + 1)) _ 0 (le-leb (i + 1) (grace + 1) (omega arith)) in
    let place : i + 1 - 1 ≡ i = omega arith in
    let same : sum (map interest (range_with_len 1 (i + 1 - 1))) ≡ sum (map interest (range_with_len 1 i)) =
    ap (λ x. sum (map interest (range_with_len 1 x))) place in
    omega (arith, here, next, same, held_sum interest i one)

-- the others take what is held back and their own
pub after_grace-beyond : (grace : ℕ) (interest : ℕ → ℕ) (i : ℕ) → 1 ≤ i → grace < i → held_before grace interest i
    + interest i ≡ after_grace grace interest i
after_grace-beyond grace interest i one beyond =
    let open_ : after_grace grace interest i ≡ cond (eqb i (grace + 1)) (sum (map interest (range_with_len 1 i)))
    (interest i) = cond-false (leb i grace) 0 _ (lt-leb i grace beyond) in
    elim (cases_order i (grace + 1)) [
      | inl first ↦
          let here : held_before grace interest i ≡ sum (map interest (range_with_len 1 (i - 1))) =
          cond-true (leb i (grace + 1)) _ 0 (le-leb i (grace + 1) (omega arith)) in
          let taken : cond (eqb i (grace + 1)) (sum (map interest (range_with_len 1 i))) (interest i) ≡ sum
          (map interest (range_with_len 1 i)) = cond-true (eqb i (grace + 1)) _ _ (eq-eqb i (grace + 1) first) in
          omega (arith, open_, here, taken, held_sum interest i one)
      | inr apart ↦
          let later : grace + 1 < i = elim apart [ inl under ↦ absurd (omega arith) | inr over ↦ omega arith ] in
          let here : held_before grace interest i ≡ 0 =
          cond-false (leb i (grace + 1)) _ 0 (lt-leb i (grace + 1) later) in
          let taken : cond (eqb i (grace + 1)) (sum (map interest (range_with_len 1 i))) (interest i) ≡ interest i =
          cond-false (eqb i (grace + 1)) _ _ (ne_eqb i (grace + 1) (λ e. omega arith)) in
          omega (arith, open_, here, taken)
    ]

-- and leave nothing held back
pub held_before-beyond : (grace : ℕ) (interest : ℕ → ℕ) (i : ℕ) → grace < i → held_before grace interest (i + 1) ≡ 0
held_before-beyond grace interest i beyond =
    cond-false (leb (i + 1) (grace + 1)) _ 0 (lt-leb (i + 1) (grace + 1) (omega arith))

-- what was taken and what is held back is the interest so far
taken_and_held : (grace : ℕ) (interest : ℕ → ℕ) (k : ℕ) → sum (map (after_grace grace interest) (range_with_len 1 k))
    + held_before grace interest (k + 1) ≡ sum (map interest (range_with_len 1 k))
taken_and_held grace interest zero =
    let none : held_before grace interest (0 + 1) ≡ 0 =
    cond-true (leb (0 + 1) (grace + 1)) 0 0 (le-leb (0 + 1) (grace + 1) (omega arith)) in
    omega (arith, none)
taken_and_held grace interest (suc k) =
    let so_far = taken_and_held grace interest k in
    subst (λ (x : ℕ). sum (map (after_grace grace interest) (range_with_len 1 x)) + held_before grace interest (x + 1)
    ≡ sum (map interest (range_with_len 1 x))) (add-one k)
    (elim (cases_lt grace (k + 1)) [
      | inl beyond ↦ omega (
        arith,
        so_far,
        sum_more (after_grace grace interest) k,
        sum_more interest k,
        after_grace-beyond grace interest (k + 1) (omega arith) beyond,
        held_before-beyond grace interest (k + 1)
            beyond,
      )
      | inr within ↦ omega (
        arith,
        so_far,
        sum_more (after_grace grace interest) k,
        sum_more interest k,
        after_grace-within grace interest (k + 1) within,
        held_before-within grace interest (k + 1)
            (omega arith) within,
      )
    ])

-- the grace does not change the total
pub after_grace-sum : (grace : ℕ) (interest : ℕ → ℕ) (n : ℕ) → grace < n
    → sum (map (after_grace grace interest) (range_with_len 1 n)) ≡ sum (map interest (range_with_len 1 n))
after_grace-sum grace interest n less =
    omega (arith, taken_and_held grace interest n, held_before-beyond grace interest n less)
