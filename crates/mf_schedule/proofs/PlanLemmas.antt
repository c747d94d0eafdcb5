-- What the parts of a plan leave: each instalment takes its principal off the balance, and the last leaves nothing.
use Rattle.std.proofs.Common.{◌≡◌, ℕ, zero, suc, ◌+◌, ◌-◌, ◌*◌, ◌/◌, ◌<◌, ◌≤◌, Bool, true, cond, leb, inl, inr, arith}
use Rattle.std.proofs.Common.{◌∙◌, map, sum, add-one, ap, subst, sym, eqb}
use Rattle.std.proofs.Math.Nat.{mul-le-mul_left, mul-div_cancel, div-mul-le_self}
use Rattle.std.proofs.lemmas.Bool.{cases_lt, eq-eqb, eqb-true, cond_both, leb-true, leb-false}
use Rattle.std.proofs.lemmas.Nat.{le-div}
use Rattle.std.proofs.lemmas.List.FromFn.{sum_by-map-range_with_len_more}
use Rattle.std.specs.List.{range_with_len}
use Rattle.mf_base.specs.Rounding.{split}
use Rattle.mf_schedule.specs.Fixed.{interest_on, balance_after, least, least_amount}
use Rattle.mf_schedule.proofs.FixedLemmas.{balance-stays, one_turn_pays}

-- one more term of a sum over the instalments
pub sum_more : (f : ℕ → ℕ) (k : ℕ) → sum (map f (range_with_len 1 (k + 1))) ≡ sum (map f (range_with_len 1 k))
    + f (k + 1)
sum_more f k = sum_by-map-range_with_len_more (λ (x : ℕ). x) f 1 k (k + 1) (omega arith)

-- an equal part, with the grace and the number of parts as plain numbers
abbrev pub equal_part : ℕ → ℕ → ℕ → ℕ → ℕ
equal_part total grace parts i = cond (leb i grace) 0 (split total parts (i - grace))

equal_part-more : (total grace parts k : ℕ) → 0 < parts → total * (k - grace) / parts + equal_part total grace parts
    (k + 1) ≡ total * (k + 1 - grace) / parts
equal_part-more total grace parts k some =
    cond_both (leb (k + 1) grace) 0 (split total parts (k + 1 - grace)) (λ x. total * (k - grace) / parts + x
    ≡ total * (k + 1 - grace) / parts)
    (λ under.
    let le : k + 1 ≤ grace = leb-true (k + 1) grace under in
    let same : k - grace ≡ k + 1 - grace = omega arith in
    rw same (omega arith))
    (λ over.
    let lt : grace < k + 1 = leb-false (k + 1) grace over in
    let before : k + 1 - grace - 1 ≡ k - grace = omega arith in
    let part : total * (k + 1 - grace - 1) / parts ≡ total * (k - grace) / parts = ap (λ x. total * x / parts) before in
    let grows : total * (k - grace) ≤ total * (k + 1 - grace) = mul-le-mul_left total (omega arith) in
    let step : total * (k - grace) / parts ≤ total * (k + 1 - grace) / parts = le-div (total * (k - grace) / parts)
    (total * (k + 1 - grace)) parts some (omega (arith, grows, div-mul-le_self (total * (k - grace)) parts)) in
    omega (arith, part, step))

-- the equal parts so far
pub equal_parts-sum : (total grace parts k : ℕ) → 0 < parts
    → sum (map (equal_part total grace parts) (range_with_len 1 k)) ≡ total * (k - grace) / parts
equal_parts-sum total grace parts zero some =
    let none : 0 - grace ≡ 0 = omega arith in
    let nothing : total * 0 ≡ 0 * parts = omega arith in
    rw none (sym (ap (λ x. x / parts) nothing ∙ mul-div_cancel 0 some))
equal_parts-sum total grace parts (suc k) some =
    let so_far = equal_parts-sum total grace parts k some in
    let more = equal_part-more total grace parts k some in
    subst (λ (x : ℕ). sum (map (equal_part total grace parts) (range_with_len 1 x)) ≡ total * (x - grace) / parts)
    (add-one k)
    (sum_more (equal_part total grace parts) k ∙ omega (arith, so_far, more))

-- no more than all parts
pub equal_parts-le : (total grace parts k : ℕ) → 0 < parts → k ≤ grace + parts
    → sum (map (equal_part total grace parts) (range_with_len 1 k)) ≤ total
equal_parts-le total grace parts k some within =
    let grows : total * (k - grace) ≤ total * parts = mul-le-mul_left total (omega arith) in
    let step : total * (k - grace) / parts ≤ total * parts / parts = le-div (total * (k - grace) / parts)
    (total * parts) parts some (omega (arith, grows, div-mul-le_self (total * (k - grace)) parts)) in
    omega (arith, equal_parts-sum total grace parts k some, step, mul-div_cancel total some)

-- all parts
pub equal_parts-whole : (total grace parts n : ℕ) → 0 < parts → grace + parts ≡ n
    → sum (map (equal_part total grace parts) (range_with_len 1 n)) ≡ total
equal_parts-whole total grace parts n some all =
    let same : n - grace ≡ parts = omega arith in
    equal_parts-sum total grace parts n some ∙ ap (λ x. total * x / parts) same ∙ mul-div_cancel total some

-- the least number passes where the bound does
pub least-passes : (passes : ℕ → Bool) (bound : ℕ) → passes bound ≡ true → passes (least passes bound) ≡ true
unfolding least
least-passes passes zero pass = pass
least-passes passes (suc bound) pass =
    cond_both (passes (least passes bound)) (least passes bound) (suc bound) (λ x. passes x ≡ true) (λ found. found)
    (λ _. pass)

-- the least amount leaves nothing
pub least_amount-enough : (rate days principal turns : ℕ) → 1 ≤ principal → 1 ≤ turns
    → balance_after rate days (least_amount rate days turns principal) principal turns ≡ 0
least_amount-enough rate days principal turns some one =
    eqb-true (balance_after rate days (least_amount rate days turns principal) principal turns) 0
    (least-passes (λ amount. eqb (balance_after rate days amount principal turns) 0)
    (principal + interest_on rate days principal)
    (eq-eqb _ 0 (one_turn_pays rate days principal turns some one)))

-- and so it is more than the interest of the principal
pub least_amount-above : (rate days principal turns : ℕ) → 1 ≤ principal → 1 ≤ turns → interest_on rate days principal
    < least_amount rate days turns principal
least_amount-above rate days principal turns some one =
    elim (cases_lt (interest_on rate days principal) (least_amount rate days turns principal)) [
      | inl above ↦ above
      | inr under ↦
          let stays = balance-stays rate days (least_amount rate days turns principal) principal turns under in
          absurd (omega (arith, least_amount-enough rate days principal turns some one, stays))
    ]
