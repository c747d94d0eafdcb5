-- A higher daily rate and a larger balance bear more. The least rate that bears is not lowered by a smaller hand-over.
use Rattle.std.proofs.Common.{◌≡◌, ℕ, zero, suc, ◌+◌, ◌-◌, ◌*◌, ◌/◌, ◌%◌, ◌<◌, ◌≤◌, ◌^◌, Bool, true, false, ltb}
use Rattle.std.proofs.Common.{List, [], ◌∷◌, inl, inr, arith, refl, sym, ap, subst, ◌∙◌, add-one}
use Rattle.std.specs.Prelude.{nat_le, ◌&&◌, Option, Some, None, MatchOption, IfSome}
use Rattle.std.proofs.Math.Nat.{mul-le-mul_right, mul-le-mul_left}
use Rattle.std.proofs.lemmas.Bool.{cases_lt, cases_Bool, cond-true, cond-false, cond_both, le-leb, leb-true}
use Rattle.std.proofs.lemmas.List.Sums.{sum_by-cons}
use Rattle.mf_base.specs.Rounding.{half_even}
use Rattle.mf_base.proofs.RoundingLemmas.{half_even-mono}
use Rattle.mf_schedule.specs.Fixed.{least}
use Rattle.mf_schedule.specs.Fresh.{total_owed}
use Rattle.mf_schedule.specs.declared.instalment.FreshInstalment.{FreshInstalment}
use Rattle.mf_schedule.proofs.FixedLemmas.{least-is}
use Rattle.mf_lists.specs.Rate.{trillion, million, most_daily_rate, next_day, after_days, millionths_asked}
use Rattle.mf_lists.specs.Rate.{asked_by_all, bears}
use Rattle.mf_lists.specs.Rate.{is_borne, least_daily_rate, most_yearly_rate, yearly_from, yearly_rate}

-- rounding gives at most one more than the quotient
pub half_even-le : (a d : ℕ) → half_even a d ≤ a / d + 1
half_even-le a d = cond_both (ltb d (2 * (a % d) + a / d % 2)) 1 0 (λ x. a / d + x ≤ a / d + 1) (λ _. omega arith)
    (λ _. omega arith)

-- ---- interest

-- a day's interest on more is no less
pub next_day-mono : (less more b c : ℕ) → less ≤ more → b ≤ c → next_day less b ≤ next_day more c
next_day-mono less more b c le ge =
    let product : b * less ≤ c * more = omega (arith, mul-le-mul_right less ge, mul-le-mul_left c le) in
    omega (arith, ge, half_even-mono (b * less) (c * more) trillion (omega arith) product)

-- and so after any days
pub after_days-mono : (less more days b c : ℕ) → less ≤ more → b ≤ c → after_days less days b ≤ after_days more days c
unfolding after_days
after_days-mono less more zero b c le ge = ge
after_days-mono less more (suc days) b c le ge =
    next_day-mono less more (after_days less days b) (after_days more days c) le
    (after_days-mono less more days b c le ge)

-- interest takes nothing away
pub after_days-ge : (rate days b : ℕ) → b ≤ after_days rate days b
unfolding after_days
after_days-ge rate zero b = omega arith
after_days-ge rate (suc days) b = omega (arith, after_days-ge rate days b)

-- no day
pub after_days-none : (rate b : ℕ) → after_days rate 0 b ≡ b
unfolding after_days
after_days-none rate b = refl

-- a day more
pub after_days-more : (rate days b : ℕ) → after_days rate (days + 1) b ≡ next_day rate (after_days rate days b)
unfolding after_days
after_days-more rate days b = ap (λ (n : ℕ). after_days rate n b) (add-one days)

-- the first days of more
pub after_days-longer : (rate days more b : ℕ) → days ≤ more → after_days rate days b ≤ after_days rate more b
unfolding after_days
after_days-longer rate days zero b le = ap_le days (omega arith)
  where
    ap_le : (n : ℕ) → n ≡ 0 → after_days rate n b ≤ b
    ap_le n e = subst (λ (x : ℕ). after_days rate x b ≤ b) (sym e) (omega arith)
after_days-longer rate days (suc more) b le =
    elim (cases_lt more days) [
      | inl last ↦
          let same : days ≡ suc more = omega arith in
          subst (λ (x : ℕ). after_days rate x b ≤ after_days rate (suc more) b) (sym same) (omega arith)
      | inr before ↦ omega (arith, after_days-longer rate days more b before)
    ]

-- ---- what instalments ask

-- with an instalment before them
pub asked-cons : (row : FreshInstalment) (rows : List FreshInstalment)
    → asked_by_all (row ∷ rows) ≡ millionths_asked row + asked_by_all rows
asked-cons row rows = sum_by-cons millionths_asked row rows

-- each cent that they owe, in millionths
pub asked-owed : (rows : List FreshInstalment) → asked_by_all rows ≡ million * total_owed rows
asked-owed [] = refl
asked-owed (row ∷ rows) =
    omega (
      arith,
      asked-owed rows,
      asked-cons row rows,
      sum_by-cons (λ (r : FreshInstalment). r.principal + r.interest + r.fees) row rows,
    )

-- ---- what bears instalments

pub both : (a b : Bool) → a ≡ true → b ≡ true → a && b ≡ true
both true b p q = q
both false b p q = absurd (cc)

pub both-first : (a b : Bool) → a && b ≡ true → a ≡ true
both-first true b p = refl
both-first false b p = p

pub both-second : (a b : Bool) → a && b ≡ true → b ≡ true
both-second true b p = p
both-second false b p = absurd (cc)

-- none are borne by any balance
pub none-borne : (rate day b : ℕ) (rows : List FreshInstalment) → rows ≡ [] → bears rate day b rows ≡ true
unfolding bears
none-borne rate day b rows e = ap (bears rate day b) e

-- a balance that is as much as all that instalments ask bears them
pub enough-bears : (rate day b : ℕ) (rows : List FreshInstalment) → asked_by_all rows ≤ b
    → bears rate day b rows ≡ true
unfolding bears
enough-bears rate day b [] h = refl
enough-bears rate day b (row ∷ rows) h =
    let more = after_days-ge rate (row.due - day) b in
    let all = asked-cons row rows in
    both _ _ (le-leb (millionths_asked row) (after_days rate (row.due - day) b) (omega arith))
    (enough-bears rate row.due (after_days rate (row.due - day) b - millionths_asked row) rows (omega arith))

-- and so where it is as much on the first due day
pub enough-by_then : (rate day b : ℕ) (row : FreshInstalment) (rows : List FreshInstalment)
    → asked_by_all (row ∷ rows) ≤ after_days rate (row.due - day) b → bears rate day b (row ∷ rows) ≡ true
unfolding bears
enough-by_then rate day b row rows h =
    let all = asked-cons row rows in
    both _ _ (le-leb (millionths_asked row) (after_days rate (row.due - day) b) (omega arith))
    (enough-bears rate row.due (after_days rate (row.due - day) b - millionths_asked row) rows (omega arith))

-- an instalment that takes no more than is there leaves it to the others
pub bears-next : (rate day b : ℕ) (row : FreshInstalment) (rows : List FreshInstalment)
    → millionths_asked row ≤ after_days rate (row.due - day) b
    → bears rate day b (row ∷ rows) ≡ bears rate row.due (after_days rate (row.due - day) b - millionths_asked row) rows
unfolding bears
bears-next rate day b row rows h =
    ap (λ (x : Bool). x && bears rate row.due (after_days rate (row.due - day) b - millionths_asked row) rows)
    (le-leb (millionths_asked row) (after_days rate (row.due - day) b) h)

-- one that takes more isn't borne
pub bears-not : (rate day b : ℕ) (row : FreshInstalment) (rows : List FreshInstalment)
    → after_days rate (row.due - day) b < millionths_asked row → bears rate day b (row ∷ rows) ≡ false
unfolding bears
bears-not rate day b row rows h =
    elim (cases_Bool (nat_le (millionths_asked row) (after_days rate (row.due - day) b))) [
      | inl fits ↦ absurd (omega (arith, leb-true (millionths_asked row) (after_days rate (row.due - day) b) fits))
      | inr fails ↦
          ap (λ (x : Bool). x && bears rate row.due (after_days rate (row.due - day) b - millionths_asked row) rows)
          fails
    ]

-- a higher rate and a larger balance bear what lower ones bear
pub bears-mono : (less more day b c : ℕ) (rows : List FreshInstalment) → less ≤ more → b ≤ c
    → bears less day b rows ≡ true → bears more day c rows ≡ true
unfolding bears
bears-mono less more day b c [] le ge h = refl
bears-mono less more day b c (row ∷ rows) le ge h =
    let grown = after_days-mono less more (row.due - day) b c le ge in
    let fits = leb-true (millionths_asked row) (after_days less (row.due - day) b) (both-first _ _ h) in
    both _ _ (le-leb (millionths_asked row) (after_days more (row.due - day) c) (omega arith))
    (bears-mono less more row.due (after_days less (row.due - day) b - millionths_asked row)
    (after_days more (row.due - day) c - millionths_asked row) rows le (omega arith) (both-second _ _ h))

-- ---- the least rate

-- it is not above the bound
pub least-le : (passes : ℕ → Bool) (bound : ℕ) → least passes bound ≤ bound
unfolding least
least-le passes zero = omega arith
least-le passes (suc bound) =
    let before = least-le passes bound in
    cond_both (passes (least passes bound)) (least passes bound) (suc bound) (λ x. x ≤ suc bound) (λ _. omega arith)
    (λ _. omega arith)

-- it passes where any number up to the bound does
pub least-passes : (passes : ℕ → Bool) (bound k : ℕ) → k ≤ bound → passes k ≡ true
    → passes (least passes bound) ≡ true
unfolding least
least-passes passes zero k within pass =
    let none : k ≡ 0 = omega arith in subst (λ (x : ℕ). passes x ≡ true) none pass
least-passes passes (suc bound) k within pass =
    elim (cases_Bool (passes (least passes bound))) [
      | inl low ↦ ap passes (cond-true (passes (least passes bound)) (least passes bound) (suc bound) low) ∙ low
      | inr fails ↦ elim (cases_lt bound k) [
        | inl last ↦
            let same : k ≡ suc bound = omega arith in
            ap passes (cond-false (passes (least passes bound)) (least passes bound) (suc bound) fails ∙ sym same)
            ∙ pass
        | inr before ↦ absurd (let found = least-passes passes bound k before pass in cc)
      ]
    ]

-- no number below it passes
pub least-first : (passes : ℕ → Bool) (bound k : ℕ) → passes k ≡ true → least passes bound ≤ k
unfolding least
least-first passes zero k pass = omega arith
least-first passes (suc bound) k pass =
    elim (cases_Bool (passes (least passes bound))) [
      | inl low ↦
          let same = cond-true (passes (least passes bound)) (least passes bound) (suc bound) low in
          omega (arith, same, least-first passes bound k pass)
      | inr fails ↦ elim (cases_lt bound k) [
        | inl last ↦
            omega (arith, cond-false (passes (least passes bound)) (least passes bound) (suc bound) fails)
        | inr before ↦ absurd (let found = least-passes passes bound k before pass in cc)
      ]
    ]

-- where no lower rate bears them, a rate that does is the least daily rate
pub least_daily_rate-is : (handed day : ℕ) (rows : List FreshInstalment) (rate : ℕ) → rate ≤ most_daily_rate
    → is_borne handed day rows rate ≡ true → ((k : ℕ) → is_borne handed day rows k ≡ true → rate ≤ k)
    → rate ≡ least_daily_rate handed day rows
least_daily_rate-is handed day rows rate within borne first =
    sym (least-is (is_borne handed day rows) most_daily_rate rate within borne first)

-- a rate that bears is above one that doesn't
pub above-fails : (handed day : ℕ) (rows : List FreshInstalment) (rate : ℕ) → is_borne handed day rows rate ≡ false
    → (k : ℕ) → is_borne handed day rows k ≡ true → rate + 1 ≤ k
above-fails handed day rows rate fails k borne =
    elim (cases_lt rate k) [
      | inl more ↦ omega arith
      | inr less ↦
          let also = bears-mono k rate day (million * handed) (million * handed) rows less (omega arith) borne in
          absurd (cc)
    ]

-- ---- a year

-- at the greatest daily rate
most_after_a_year : after_days most_daily_rate 365 trillion ≡ 1377408291966226
unfolding after_days
most_after_a_year = refl

-- a year at a rate that is looked for leaves a whole and adds not more
pub year-le : (rate : ℕ) → rate ≤ most_daily_rate → after_days rate 365 trillion ≤ 1377408291966226
year-le rate le =
    omega (arith, most_after_a_year, after_days-mono rate most_daily_rate 365 trillion trillion le (omega arith))

-- so no rate that is told is above the greatest
pub yearly_from-le : (rate : ℕ) → rate ≤ most_daily_rate → yearly_from rate ≤ most_yearly_rate
yearly_from-le rate le =
    let most : half_even (1377408291966226 - trillion) (10 ^ 8) ≡ most_yearly_rate = refl in
    let year = year-le rate le in
    omega (
      arith,
      most,
      half_even-mono (after_days rate 365 trillion - trillion) (1377408291966226 - trillion) (10 ^ 8) (omega arith)
          (omega arith),
    )

-- ---- the laws

pub none-below : (handed day : ℕ) (rows : List FreshInstalment) (rate : ℕ) → is_borne handed day rows rate ≡ true
    → least_daily_rate handed day rows ≤ rate
none-below handed day rows rate borne = least-first (is_borne handed day rows) most_daily_rate rate borne

pub least-borne : (handed day : ℕ) (rows : List FreshInstalment) → is_borne handed day rows most_daily_rate ≡ true
    → is_borne handed day rows (least_daily_rate handed day rows) ≡ true
least-borne handed day rows borne =
    least-passes (is_borne handed day rows) most_daily_rate most_daily_rate (omega arith) borne

-- more that is handed over bears what less does
pub more-borne : (more less day : ℕ) (rows : List FreshInstalment) (rate : ℕ) → less ≤ more
    → is_borne less day rows rate ≡ true → is_borne more day rows rate ≡ true
more-borne more less day rows rate le borne =
    bears-mono rate rate day (million * less) (million * more) rows (omega arith) (omega arith) borne

-- a yearly rate, where the greatest daily rate bears the instalments, and where it doesn't
pub told : (handed day : ℕ) (rows : List FreshInstalment) → is_borne handed day rows most_daily_rate ≡ true
    → yearly_rate handed day rows ≡ Some (yearly_from (least_daily_rate handed day rows))
told handed day rows borne =
    cond-true (is_borne handed day rows most_daily_rate) (Some (yearly_from (least_daily_rate handed day rows))) None
    borne

pub not_told : (handed day : ℕ) (rows : List FreshInstalment) → is_borne handed day rows most_daily_rate ≡ false
    → yearly_rate handed day rows ≡ None
not_told handed day rows fails =
    cond-false (is_borne handed day rows most_daily_rate) (Some (yearly_from (least_daily_rate handed day rows))) None
    fails

-- a higher daily rate comes to no less in a year
pub yearly_from-mono : (low high : ℕ) → low ≤ high → yearly_from low ≤ yearly_from high
yearly_from-mono low high le =
    let year = after_days-mono low high 365 trillion trillion le (omega arith) in
    half_even-mono (after_days low 365 trillion - trillion) (after_days high 365 trillion - trillion) (10 ^ 8)
    (omega arith) (omega arith)

-- a rate that bears, of which the next lower doesn't, is the daily rate
pub worked : (handed day : ℕ) (rows : List FreshInstalment) (rate : ℕ) → rate + 1 ≤ most_daily_rate
    → is_borne handed day rows (rate + 1) ≡ true → is_borne handed day rows rate ≡ false
    → yearly_rate handed day rows ≡ Some (yearly_from (rate + 1))
worked handed day rows rate within borne fails =
    let most =
    bears-mono (rate + 1) most_daily_rate day (million * handed) (million * handed) rows within (omega arith) borne in
    told handed day rows most ∙ ap (λ (r : ℕ). Some (yearly_from r))
    (sym (least_daily_rate-is handed day rows (rate + 1) within borne (above-fails handed day rows rate fails)))

-- two yearly rates, of which the first is not the higher one
abbrev InOrder : Option ℕ → Option ℕ → Type 0
InOrder low high = MatchOption low (high ≡ None) (λ a. IfSome high (λ b. a ≤ b))

none-last : (low : Option ℕ) → InOrder low None
none-last None = refl
none-last (Some a) = tt

pub fee-mono : (more less day : ℕ) (rows : List FreshInstalment) → less ≤ more
    → InOrder (yearly_rate more day rows) (yearly_rate less day rows)
fee-mono more less day rows le =
    elim (cases_Bool (is_borne less day rows most_daily_rate)) [
      | inl borne ↦
          let also = more-borne more less day rows most_daily_rate le borne in
          let lower = none-below more day rows (least_daily_rate less day rows)
          (more-borne more less day rows (least_daily_rate less day rows) le (least-borne less day rows borne)) in
          subst (λ (o : Option ℕ). InOrder (yearly_rate more day rows) o) (sym (told less day rows borne))
          (subst (λ (o : Option ℕ). InOrder o (Some (yearly_from (least_daily_rate less day rows))))
          (sym (told more day rows also))
          (yearly_from-mono (least_daily_rate more day rows) (least_daily_rate less day rows) lower))
      | inr fails ↦
          subst (λ (o : Option ℕ). InOrder (yearly_rate more day rows) o) (sym (not_told less day rows fails))
          (none-last (yearly_rate more day rows))
    ]

-- nothing bears no interest
after_days-nothing : (rate days : ℕ) → after_days rate days 0 ≡ 0
unfolding after_days
after_days-nothing rate zero = refl
after_days-nothing rate (suc days) =
    let product : 0 * rate ≡ 0 = omega arith in
    ap (next_day rate) (after_days-nothing rate days) ∙ ap (λ (x : ℕ). 0 + half_even x trillion) product

-- and no instalment that asks something
nothing-bears : (rate day b : ℕ) (rows : List FreshInstalment) → b ≡ 0 → 1 ≤ asked_by_all rows
    → bears rate day b rows ≡ false
nothing-bears rate day b [] e some = absurd (omega arith)
nothing-bears rate day b (row ∷ rows) e some =
    let grown : after_days rate (row.due - day) b ≡ 0 =
    ap (after_days rate (row.due - day)) e ∙ after_days-nothing rate (row.due - day) in
    elim (cases_lt (after_days rate (row.due - day) b) (millionths_asked row)) [
      | inl more ↦ bears-not rate day b row rows more
      | inr fits ↦
          let all = asked-cons row rows in
          bears-next rate day b row rows fits
          ∙ nothing-bears rate row.due (after_days rate (row.due - day) b - millionths_asked row) rows (omega arith)
          (omega arith)
    ]

pub none_for_nothing : (day : ℕ) (rows : List FreshInstalment) → 1 ≤ total_owed rows → yearly_rate 0 day rows ≡ None
none_for_nothing day rows some =
    not_told 0 day rows
    (nothing-bears most_daily_rate day (million * 0) rows refl (omega (arith, asked-owed rows)))

-- no interest in a year
year_without : yearly_from 0 ≡ 0
unfolding after_days
year_without = refl

pub nothing_for_as_much : (handed day : ℕ) (rows : List FreshInstalment) → total_owed rows ≤ handed
    → yearly_rate handed day rows ≡ Some 0
nothing_for_as_much handed day rows le =
    let asked = asked-owed rows in
    let at_most = enough-bears most_daily_rate day (million * handed) rows (omega arith) in
    let at_none = enough-bears 0 day (million * handed) rows (omega arith) in
    let least_is : least_daily_rate handed day rows ≡ 0 = omega (arith, none-below handed day rows 0 at_none) in
    told handed day rows at_most ∙ ap (λ (r : ℕ). Some (yearly_from r)) least_is ∙ ap Some year_without
