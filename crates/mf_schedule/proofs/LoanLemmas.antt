-- What holds of every loan within the limits: the plan's steps, and how large its sums are.
use Rattle.std.proofs.Common.{◌≡◌, ℕ, zero, suc, ◌+◌, ◌-◌, ◌*◌, ◌/◌, ◌<◌, ◌≤◌, ◌^◌, leb, min, inl, inr, arith, refl}
use Rattle.std.proofs.Common.{◌∙◌, List, [], ◌∷◌, ◌++◌, map, sum, sum_by, add-one, ap, subst, sym}
use Rattle.std.proofs.Math.Nat.{mul-le-mul, mul-le-mul_left, mul-div_cancel, div-mul-le_self}
use Rattle.std.proofs.lemmas.Bool.{cases_lt, cond-true, cond-false, le-leb, lt-leb}
use Rattle.std.proofs.lemmas.Nat.{le-div}
use Rattle.std.specs.List.{range_with_len}
use Rattle.mf_base.specs.Rounding.{split}
use Rattle.mf_base.specs.declared.day.Freq.{Freq}
use Rattle.mf_base.specs.declared.day.Freq.TheVariants.{Weeks, Months}
use Rattle.mf_base.proofs.RoundingLemmas.{half_even-mono}
use Rattle.mf_catalog.specs.declared.terms.Terms.{Terms}
use Rattle.mf_catalog.specs.declared.terms.Method.{Method}
use Rattle.mf_catalog.specs.declared.terms.Method.TheVariants.{Flat, EqualPrincipal, Fixed}
use Rattle.mf_catalog.specs.Limits.{AreTermsWithinLimits, longest_step}
use Rattle.mf_schedule.specs.Fixed.{interest_on, next_balance, balance_after}
use Rattle.mf_schedule.specs.declared.instalment.FreshInstalment.{FreshInstalment}
use Rattle.mf_catalog.specs.Charge.{amount_of_any}
use Rattle.mf_schedule.specs.Fresh.{IsLoanWithinLimits, due_day_of, fresh_schedule, scheduled_interest, instalment_of}
use Rattle.mf_schedule.specs.Fresh.{total_interest, total_principal}
use Rattle.mf_schedule.specs.Plan.{days_by, days_of, period_interest, flat_interest, equal_principal, equal_balance}
use Rattle.mf_schedule.specs.Plan.{fixed_amount_of, fixed_balance, fixed_principal, principal_by, principal_of}
use Rattle.mf_schedule.specs.Plan.{balance_by, balance_of, interest_of}
use Rattle.std.proofs.lemmas.List.FromFn.{map-range_with_len_more, sum_by-map-range_with_len_more}
use Rattle.mf_schedule.proofs.FixedLemmas.{interest-mono, balance-falls}
use Rattle.mf_schedule.proofs.GraceLemmas.{after_grace-sum}
use Rattle.mf_schedule.proofs.PlanLemmas.{sum_more, equal_part, equal_parts-le, equal_parts-whole, least_amount-enough}
use Rattle.mf_schedule.proofs.PlanLemmas.{least_amount-above}

-- a period has at most 364 days
days_by-le : (freq : Freq) (every : ℕ) → every ≤ longest_step freq → days_by freq every ≤ 364
days_by-le Weeks every within = omega arith
days_by-le Months every within = omega arith

pub days_of-le : (terms : Terms) → AreTermsWithinLimits terms → days_of terms ≤ 364
days_of-le terms limits = days_by-le terms.freq terms.every limits.longest

-- the interest of a period on at most 10^12 cents
pub interest_on-le : (rate days balance : ℕ) → rate ≤ 100000 → days ≤ 364 → balance ≤ 10 ^ 12
    → interest_on rate days balance ≤ 2 * 10 ^ 13
interest_on-le rate days balance rates short small =
    let product : balance * rate * days ≤ 10 ^ 12 * 100000 * 364 = mul-le-mul (mul-le-mul small rates) short in
    omega (arith, half_even-mono (balance * rate * days) (10 ^ 12 * 100000 * 364) 3600000 (omega arith) product)

-- the flat interest of at most 360 periods
pub flat_interest-le : (terms : Terms) (principal n : ℕ) → IsLoanWithinLimits terms principal n
    → flat_interest terms principal n ≤ 4 * 10 ^ 15
flat_interest-le terms principal n limits =
    let product : principal * terms.rate * days_of terms * n ≤ 10 ^ 12 * 100000 * 364 * 360 =
    mul-le-mul (mul-le-mul (mul-le-mul limits.most_principal limits.terms_limits.rate)
    (days_of-le terms limits.terms_limits)) limits.most_periods in
    omega (
      arith,
      half_even-mono (principal * terms.rate * days_of terms * n) (10 ^ 12 * 100000 * 364 * 360) 3600000
          (omega arith) product,
    )

-- a part is not more than the whole
pub split-le : (total n i : ℕ) → 0 < n → i ≤ n → split total n i ≤ total
split-le total n i some within =
    let grows : total * i ≤ total * n = mul-le-mul_left total within in
    let step : total * i / n ≤ total * n / n =
    le-div (total * i / n) (total * n) n some (omega (arith, grows, div-mul-le_self (total * i) n)) in
    omega (arith, step, mul-div_cancel total some)

-- no balance is more than the principal
pub balance_by-le : (method : Method) (terms : Terms) (principal n i : ℕ) → IsLoanWithinLimits terms principal n
    → balance_by method terms principal n i ≤ principal
balance_by-le Flat terms principal n i limits = omega arith
balance_by-le EqualPrincipal terms principal n i limits = omega arith
balance_by-le Fixed terms principal n i limits =
    balance-falls terms.rate (days_of terms) (fixed_amount_of terms principal n) principal
    (i - 1 - terms.principal_grace)
    (least_amount-above terms.rate (days_of terms) principal (n - terms.principal_grace) limits.some_principal
    (omega arith))

pub balance_of-le : (terms : Terms) (principal n i : ℕ) → IsLoanWithinLimits terms principal n
    → balance_of terms principal n i ≤ principal
balance_of-le terms principal n i limits = balance_by-le terms.method terms principal n i limits

-- an equal part comes off the balance
equal-step : (terms : Terms) (principal n i : ℕ) → IsLoanWithinLimits terms principal n → 1 ≤ i → i ≤ n
    → equal_principal terms principal n i + equal_balance terms principal n (i + 1) ≡ equal_balance terms principal n i
equal-step terms principal n i limits first within =
    let g = terms.principal_grace in
    let part = equal_part principal g (n - g) in
    let place : i + 1 - 1 ≡ i - 1 + 1 = omega arith in
    let last : i - 1 + 1 ≡ i = omega arith in
    let now : sum (map part (range_with_len 1 (i + 1 - 1))) ≡ sum (map part (range_with_len 1 (i - 1 + 1))) =
    ap (λ x. sum (map part (range_with_len 1 x))) place in
    let this : part (i - 1 + 1) ≡ part i = ap part last in
    let most : sum (map part (range_with_len 1 (i - 1 + 1))) ≤ principal =
    equal_parts-le principal g (n - g) (i - 1 + 1) (omega arith) (omega arith) in
    omega (arith, now, this, most, sum_more part (i - 1))

-- no balance of the method Fixed bears more interest than its amount
pub fixed-interest-le : (terms : Terms) (principal n i : ℕ) → IsLoanWithinLimits terms principal n
    → period_interest terms (fixed_balance terms principal n i) ≤ fixed_amount_of terms principal n
fixed-interest-le terms principal n i limits =
    let above = least_amount-above terms.rate (days_of terms) principal (n - terms.principal_grace)
    limits.some_principal (omega arith) in
    let less : fixed_balance terms principal n i ≤ principal = balance_by-le Fixed terms principal n i limits in
    omega (arith, above, interest-mono terms.rate (days_of terms) (fixed_balance terms principal n i) principal less)

fixed-step : (terms : Terms) (principal n i : ℕ) → IsLoanWithinLimits terms principal n → 1 ≤ i → i ≤ n
    → fixed_principal terms principal n i + fixed_balance terms principal n (i + 1) ≡ fixed_balance terms principal n i
fixed-step terms principal n i limits first within =
    let amount = fixed_amount_of terms principal n in
    let after = balance_after terms.rate (days_of terms) amount principal in
    let g = terms.principal_grace in
    elim (cases_lt g i) [
      | inl beyond ↦
          let none : fixed_principal terms principal n i ≡ min (amount - period_interest terms (fixed_balance terms
          principal n i)) (fixed_balance terms principal n i) = cond-false (leb i g) 0 _ (lt-leb i g beyond) in
          let place : i + 1 - 1 - g ≡ suc (i - 1 - g) = omega arith in
          let next : fixed_balance terms principal n (i + 1) ≡ next_balance terms.rate (days_of terms) amount
          (fixed_balance terms principal n i) = ap after place in
          omega (arith, none, next, fixed-interest-le terms principal n i limits)
      | inr under ↦
          let none : fixed_principal terms principal n i ≡ 0 = cond-true (leb i g) 0 _ (le-leb i g under) in
          let place : i + 1 - 1 - g ≡ i - 1 - g = omega arith in
          let same : fixed_balance terms principal n (i + 1) ≡ fixed_balance terms principal n i = ap after place in
          omega (arith, none, same)
    ]

principal_by-step : (method : Method) (terms : Terms) (principal n i : ℕ) → IsLoanWithinLimits terms principal n → 1 ≤ i
    → i ≤ n → principal_by method terms principal n i + balance_by method terms principal n (i + 1)
    ≡ balance_by method terms principal n i
principal_by-step Flat terms principal n i limits first within = equal-step terms principal n i limits first within
principal_by-step EqualPrincipal terms principal n i limits first within =
    equal-step terms principal n i limits first within
principal_by-step Fixed terms principal n i limits first within = fixed-step terms principal n i limits first within

-- each instalment takes its principal off the balance
pub principal_of-step : (terms : Terms) (principal n i : ℕ) → IsLoanWithinLimits terms principal n → 1 ≤ i → i ≤ n
    → principal_of terms principal n i + balance_of terms principal n (i + 1) ≡ balance_of terms principal n i
principal_of-step terms principal n i limits first within =
    principal_by-step terms.method terms principal n i limits first within

-- before the first instalment the whole principal is outstanding
balance_by-first : (method : Method) (terms : Terms) (principal n : ℕ) → balance_by method terms principal n 1
    ≡ principal
balance_by-first Flat terms principal n = omega arith
balance_by-first EqualPrincipal terms principal n = omega arith
balance_by-first Fixed terms principal n =
    let place : 1 - 1 - terms.principal_grace ≡ 0 = omega arith in
    ap (balance_after terms.rate (days_of terms) (fixed_amount_of terms principal n) principal) place

pub balance_of-first : (terms : Terms) (principal n : ℕ) → balance_of terms principal n 1 ≡ principal
balance_of-first terms principal n = balance_by-first terms.method terms principal n

-- all equal parts leave nothing
equal-last : (terms : Terms) (principal n : ℕ) → IsLoanWithinLimits terms principal n
    → equal_balance terms principal n (n + 1) ≡ 0
equal-last terms principal n limits =
    let g = terms.principal_grace in
    let place : n + 1 - 1 ≡ n = omega arith in
    let whole = equal_parts-whole principal g (n - g) n (omega arith) (omega arith) in
    let all : sum (map (equal_part principal g (n - g)) (range_with_len 1 (n + 1 - 1)))
    ≡ sum (map (equal_part principal g (n - g)) (range_with_len 1 n)) =
    ap (λ x. sum (map (equal_part principal g (n - g)) (range_with_len 1 x))) place in
    omega (arith, whole, all)

-- the last instalment leaves nothing
balance_by-last : (method : Method) (terms : Terms) (principal n : ℕ) → IsLoanWithinLimits terms principal n
    → balance_by method terms principal n (n + 1) ≡ 0
balance_by-last Flat terms principal n limits = equal-last terms principal n limits
balance_by-last EqualPrincipal terms principal n limits = equal-last terms principal n limits
balance_by-last Fixed terms principal n limits =
    let place : n + 1 - 1 - terms.principal_grace ≡ n - terms.principal_grace = omega arith in
    ap (balance_after terms.rate (days_of terms) (fixed_amount_of terms principal n) principal) place
    ∙ least_amount-enough terms.rate (days_of terms) principal (n - terms.principal_grace) limits.some_principal
    (omega arith)

-- the parts so far and what is outstanding are the principal
parts_and_balance : (terms : Terms) (principal n k : ℕ) → IsLoanWithinLimits terms principal n → k ≤ n
    → sum (map (principal_of terms principal n) (range_with_len 1 k)) + balance_of terms principal n (k + 1) ≡ principal
parts_and_balance terms principal n zero limits within =
    let first = balance_of-first terms principal n in
    omega (arith, first)
parts_and_balance terms principal n (suc k) limits within =
    let so_far = parts_and_balance terms principal n k limits (omega arith) in
    subst (λ (x : ℕ). sum (map (principal_of terms principal n) (range_with_len 1 x)) + balance_of terms principal n
    (x + 1) ≡ principal) (add-one k)
    (omega (
      arith,
      so_far,
      sum_more (principal_of terms principal n) k,
      principal_of-step terms principal n (k + 1)
          limits (omega arith) (omega arith),
    ))

-- the parts add up to the principal
pub principal_of-sum : (terms : Terms) (principal n : ℕ) → IsLoanWithinLimits terms principal n
    → sum (map (principal_of terms principal n) (range_with_len 1 n)) ≡ principal
principal_of-sum terms principal n limits =
    let last : balance_of terms principal n (n + 1) ≡ 0 = balance_by-last terms.method terms principal n limits in
    omega (arith, last, parts_and_balance terms principal n n limits (omega arith))

-- a sum over mapped rows is a sum of what is read of each
pub sum_by-over : (f : ℕ → FreshInstalment) (g : FreshInstalment → ℕ) (k : ℕ) → sum_by g (map f (range_with_len 1 k))
    ≡ sum (map (λ i. g (f i)) (range_with_len 1 k))
sum_by-over f g zero = refl
sum_by-over f g (suc k) =
    subst (λ (x : ℕ). sum_by g (map f (range_with_len 1 x)) ≡ sum (map (λ i. g (f i)) (range_with_len 1 x))) (add-one k)
    (omega (
      arith,
      sum_by-over f g k,
      sum_by-map-range_with_len_more g f 1 k (k + 1) (omega arith),
      sum_more (λ i. g (f i)) k,
    ))

-- the rows' principal adds up to the principal
pub scheduled-principal-sum : (terms : Terms) (principal n day : ℕ) → IsLoanWithinLimits terms principal n
    → total_principal (fresh_schedule terms principal n day) ≡ principal
scheduled-principal-sum terms principal n day limits =
    sum_by-over (instalment_of terms principal n day) (λ row. row.principal) n ∙ principal_of-sum terms principal n
    limits

-- and their interest to that of the plan, whatever the grace of interest
pub scheduled-interest-sum : (terms : Terms) (principal n day : ℕ) → IsLoanWithinLimits terms principal n
    → total_interest (fresh_schedule terms principal n day) ≡ sum (map (interest_of terms principal n)
    (range_with_len 1 n))
scheduled-interest-sum terms principal n day limits =
    sum_by-over (instalment_of terms principal n day) (λ row. row.interest) n ∙ after_grace-sum terms.interest_grace
    (interest_of terms principal n) n limits.interest_grace

abbrev row_with : ℕ → ℕ → ℕ → ℕ → FreshInstalment
row_with due part interest fees = record { due = due; principal = part; interest = interest; fees = fees }

-- one more row of the schedule
pub fresh_rows-more : (terms : Terms) (principal n day i : ℕ) (before after : List FreshInstalment)
    (due part interest fees : ℕ) → 1 ≤ i → before ≡ map (instalment_of terms principal n day) (range_with_len 1 (i - 1))
    → after ≡ before ++ row_with due part interest fees ∷ [] → due ≡ due_day_of terms day i
    → part ≡ principal_of terms principal n i → interest ≡ scheduled_interest terms principal n i
    → fees ≡ amount_of_any terms.instalment part interest → after ≡ map (instalment_of terms principal n day)
    (range_with_len 1 (i + 1 - 1))
fresh_rows-more terms principal n day i before after due part interest fees first made pushed dues parts interests
    charges =
    let charged : fees ≡ amount_of_any terms.instalment (principal_of terms principal n i)
    (scheduled_interest terms principal n i) =
    charges ∙ ap (λ (x : ℕ). amount_of_any terms.instalment x interest) parts
    ∙ ap (λ (x : ℕ). amount_of_any terms.instalment (principal_of terms principal n i) x) interests in
    let row : row_with due part interest fees ≡ instalment_of terms principal n day i =
    ap (λ (x : ℕ). row_with x part interest fees) dues
    ∙ ap (λ (x : ℕ). row_with (due_day_of terms day i) x interest fees) parts
    ∙ ap (λ (x : ℕ). row_with (due_day_of terms day i) (principal_of terms principal n i) x fees) interests
    ∙ ap (λ (x : ℕ). row_with (due_day_of terms day i) (principal_of terms principal n i)
    (scheduled_interest terms principal n i) x) charged in
    let place : i - 1 + 1 ≡ i + 1 - 1 = omega arith in
    pushed
    ∙ ap (λ (xs : List FreshInstalment). xs ++ row_with due part interest fees ∷ []) made
    ∙ ap (λ (x : FreshInstalment). map (instalment_of terms principal n day) (range_with_len 1 (i - 1)) ++ x ∷ []) row
    ∙ sym (map-range_with_len_more (instalment_of terms principal n day) 1 (i - 1) i (omega arith))
    ∙ ap (λ (x : ℕ). map (instalment_of terms principal n day) (range_with_len 1 x)) place
