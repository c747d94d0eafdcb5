-- Worked schedules, computed from the definitions. Days are given as dates of the calendar.
use Rattle.std.proofs.Common.{◌++◌, codes, ◌≡◌, ℕ, ◌*◌, ◌^◌, List, [], ◌∷◌, map, refl, sym, arith, Some, None}
use Rattle.std.specs.List.{range_with_len}
use Rattle.mf_base.specs.Calendar.{day_of, date_of}
use Rattle.mf_base.specs.DayText.{day_text}
use Rattle.std.specs.Fmt.{digits}
use Rattle.mf_base.specs.declared.day.Freq.{Freq}
use Rattle.mf_base.specs.declared.day.Freq.TheVariants.{Weeks, Months}
use Rattle.mf_catalog.specs.declared.charge.ChargeDef.{ChargeDef}
use Rattle.mf_catalog.specs.declared.charge.Calc.{Calc}
use Rattle.mf_catalog.specs.declared.charge.Calc.TheVariants.{OfAmount, OfBoth}
use Rattle.mf_catalog.specs.declared.charge.ChargeKind.{ChargeKind}
use Rattle.mf_catalog.specs.declared.charge.ChargeKind.TheVariants.{Disbursement}
use Rattle.mf_catalog.specs.declared.charge.ChargeKind.TheVariants.{Instalment}
use Rattle.mf_catalog.specs.declared.terms.Terms.{Terms}
use Rattle.mf_catalog.specs.declared.terms.Method.{Method}
use Rattle.mf_catalog.specs.declared.terms.Method.TheVariants.{Flat, EqualPrincipal, Fixed}
use Rattle.mf_catalog.specs.declared.terms.StrategyName.TheVariants.{MifosStandard}
use Rattle.mf_schedule.specs.declared.instalment.FreshInstalment.{FreshInstalment}
use Rattle.mf_schedule.specs.Fixed.{balance_after, least_amount}
use Rattle.mf_schedule.specs.Plan.{flat_interest, interest_of, principal_of}
use Rattle.mf_schedule.specs.Fresh.{due_day_of, fee_at_disbursement, fresh_schedule, total_interest}
use Rattle.mf_schedule.specs.ScheduleText.{schedule_text}
use Rattle.mf_schedule.proofs.FixedLemmas.{first-from_too_low, least_amount-is}

-- terms at 12 percent a year with no charge
abbrev plain_terms : Method → Freq → ℕ → ℕ → ℕ → Terms
plain_terms method freq every principal_grace interest_grace = record {
  method = method;
  rate = 1200;
  freq = freq;
  every = every;
  principal_grace = principal_grace;
  interest_grace = interest_grace;
  strategy = MifosStandard;
  disbursement = None;
  instalment = None;
  overdue = None;
}

abbrev monthly : Method → ℕ → ℕ → Terms
monthly method principal_grace interest_grace = plain_terms method Months 1 principal_grace interest_grace

abbrev charge_of : ChargeKind → Calc → ℕ → ChargeDef
charge_of kind calc value = record { number = 1; name = []; kind = kind; calc = calc; value = value }

abbrev principals : List FreshInstalment → List ℕ
principals rows = map (λ (r : FreshInstalment). r.principal) rows

abbrev interests : List FreshInstalment → List ℕ
interests rows = map (λ (r : FreshInstalment). r.interest) rows

abbrev all_fees : List FreshInstalment → List ℕ
all_fees rows = map (λ (r : FreshInstalment). r.fees) rows

abbrev date : ℕ → ℕ → ℕ → ℕ
date year month day = day_of (record { year = year; month = month; day = day })

-- 31 January 2024, the day of disbursement
january : date 2024 1 31 ≡ 8796
unfolding day_of
january = refl

january_back : date_of 8796 ≡ record { year = 2024; month = 1; day = 31 }
unfolding date_of
january_back = refl

-- flat, 120000 cents over 12 months: 10000 and 1200 each
flat_principals : principals (fresh_schedule (monthly Flat 0 0) 120000 12 8796) ≡ 10000 ∷ 10000 ∷ 10000 ∷ 10000 ∷ 10000
    ∷ 10000 ∷ 10000 ∷ 10000 ∷ 10000 ∷ 10000 ∷ 10000 ∷ 10000 ∷ []
flat_principals = refl

flat_interests : interests (fresh_schedule (monthly Flat 0 0) 120000 12 8796) ≡ 1200 ∷ 1200 ∷ 1200 ∷ 1200 ∷ 1200 ∷ 1200
    ∷ 1200 ∷ 1200 ∷ 1200 ∷ 1200 ∷ 1200 ∷ 1200 ∷ []
flat_interests = refl

flat_total : total_interest (fresh_schedule (monthly Flat 0 0) 120000 12 8796) ≡ 14400
flat_total = refl

-- 100000 cents over 3 months, equal principal
equal_principals : principals (fresh_schedule (monthly EqualPrincipal 0 0) 100000 3 8796) ≡ 33333 ∷ 33333 ∷ 33334 ∷ []
equal_principals = refl

equal_interests : interests (fresh_schedule (monthly EqualPrincipal 0 0) 100000 3 8796) ≡ 1000 ∷ 667 ∷ 333 ∷ []
equal_interests = refl

-- the same with one instalment in grace of interest
grace_principals : principals (fresh_schedule (monthly EqualPrincipal 0 1) 100000 3 8796) ≡ 33333 ∷ 33333 ∷ 33334 ∷ []
grace_principals = refl

grace_interests : interests (fresh_schedule (monthly EqualPrincipal 0 1) 100000 3 8796) ≡ 0 ∷ 1667 ∷ 333 ∷ []
grace_interests = refl

-- the same in fixed instalments of 34003; with 34002 one cent is left
one_left : balance_after 1200 30 34002 100000 3 ≡ 1
one_left = refl

fixed_is : least_amount 1200 30 3 100000 ≡ 34003
fixed_is = sym (least_amount-is 1200 30 100000 3 34003 (omega arith) refl
    (first-from_too_low 1200 30 100000 3 34002 34003 (omega arith) (λ e. omega (arith, e))))

fixed_principals : principals (fresh_schedule (monthly Fixed 0 0) 100000 3 8796) ≡ 33003 ∷ 33333 ∷ 33664 ∷ []
fixed_principals = rw fixed_is refl

fixed_interests : interests (fresh_schedule (monthly Fixed 0 0) 100000 3 8796) ≡ 1000 ∷ 670 ∷ 337 ∷ []
fixed_interests = rw fixed_is refl

-- with one instalment in grace of principal, of 50751; with 50750 two cents are left
two_left : balance_after 1200 30 50750 100000 2 ≡ 2
two_left = refl

graced_is : least_amount 1200 30 2 100000 ≡ 50751
graced_is = sym (least_amount-is 1200 30 100000 2 50751 (omega arith) refl
    (first-from_too_low 1200 30 100000 2 50750 50751 (omega arith) (λ e. omega (arith, e))))

graced_principals : principals (fresh_schedule (monthly Fixed 1 0) 100000 3 8796) ≡ 0 ∷ 49751 ∷ 50249 ∷ []
graced_principals = rw graced_is refl

graced_interests : interests (fresh_schedule (monthly Fixed 1 0) 100000 3 8796) ≡ 1000 ∷ 1000 ∷ 502 ∷ []
graced_interests = rw graced_is refl

-- due days go by the day of disbursement, so that March has its 31st
due_days : map (due_day_of (monthly Fixed 0 0) 8796) (range_with_len 1 3) ≡ date 2024 2 29 ∷ date 2024 3 31
    ∷ date 2024 4 30 ∷ []
unfolding day_of date_of
due_days = refl

-- every two weeks
fortnight_interests : interests (fresh_schedule (plain_terms EqualPrincipal Weeks 2 0 0) 100000 3 8796) ≡ 467 ∷ 311
    ∷ 156 ∷ []
fortnight_interests = refl

fortnight_days : map (due_day_of (plain_terms EqualPrincipal Weeks 2 0 0) 8796) (range_with_len 1 3) ≡ date 2024 2 14
    ∷ date 2024 2 28 ∷ date 2024 3 13 ∷ []
unfolding day_of
fortnight_days = refl

-- the least loan: one cent in three fixed instalments without interest
abbrev without_interest : Terms
without_interest = record (monthly Fixed 0 0) { rate = 0 }

one_cent_is : least_amount 0 30 3 1 ≡ 1
one_cent_is = sym (least_amount-is 0 30 1 3 1 (omega arith) refl
    (first-from_too_low 0 30 1 3 0 1 (omega arith) (λ e. omega (arith, e))))

one_cent_principals : principals (fresh_schedule without_interest 1 3 8796) ≡ 1 ∷ 0 ∷ 0 ∷ []
one_cent_principals = rw one_cent_is refl

-- the greatest: flat, 10^12 cents at 1000 percent, every 12 months
abbrev greatest : Terms
greatest = record (plain_terms Flat Months 12 0 0) { rate = 100000 }

greatest_interest : flat_interest greatest (10 ^ 12) 120 ≡ 12 * 10 ^ 14
greatest_interest = refl

greatest_interests : map (interest_of greatest (10 ^ 12) 120) (1 ∷ 2 ∷ 120 ∷ []) ≡ 10 ^ 13 ∷ 10 ^ 13 ∷ 10 ^ 13 ∷ []
greatest_interests = refl

greatest_principals : map (principal_of greatest (10 ^ 12) 120) (1 ∷ 2 ∷ 3 ∷ 120 ∷ []) ≡ 8333333333 ∷ 8333333333
    ∷ 8333333334 ∷ 8333333334 ∷ []
greatest_principals = refl

greatest_last : due_day_of greatest 8796 120 ≡ date 2144 1 31
unfolding day_of date_of
greatest_last = refl

-- and with three times as many instalments
longest_interest : flat_interest greatest (10 ^ 12) 360 ≡ 36 * 10 ^ 14
longest_interest = refl

longest_interests : map (interest_of greatest (10 ^ 12) 360) (1 ∷ 2 ∷ 360 ∷ []) ≡ 10 ^ 13 ∷ 10 ^ 13 ∷ 10 ^ 13 ∷ []
longest_interests = refl

longest_principals : map (principal_of greatest (10 ^ 12) 360) (1 ∷ 2 ∷ 360 ∷ []) ≡ 2777777777 ∷ 2777777778 ∷ 2777777778
    ∷ []
longest_principals = refl

longest_last : due_day_of greatest 8796 360 ≡ date 2384 1 31
unfolding day_of date_of
longest_last = refl

-- one percent of principal and interest with each instalment
fees : all_fees (fresh_schedule (record (monthly EqualPrincipal 0 0)
    { instalment = Some (charge_of Instalment OfBoth 100) }) 100000 3 8796) ≡ 343 ∷ 340 ∷ 337 ∷ []
fees = refl

-- one and a half percent at disbursement, of the amount and of both
abbrev charged : Calc → Terms
charged calc = record (monthly EqualPrincipal 0 0) { disbursement = Some (charge_of Disbursement calc 150) }

fee_on_amount : fee_at_disbursement (charged OfAmount) 100000 (fresh_schedule (charged OfAmount) 100000 3 8796) ≡ 1500
fee_on_amount = refl

fee_on_both : fee_at_disbursement (charged OfBoth) 100000 (fresh_schedule (charged OfBoth) 100000 3 8796) ≡ 1530
fee_on_both = refl

-- the printed schedule of the loan by equal principal
printed : schedule_text (fresh_schedule (monthly EqualPrincipal 0 0) 100000 3 8796) ≡
    codes "  1 2024-02-29            333.33             10.00            343.33" ++ 10 ∷ []
    ++ codes "  2 2024-03-31            333.33              6.67            340.00" ++ 10 ∷ []
    ++ codes "  3 2024-04-30            333.34              3.33            336.67" ++ 10 ∷ []
    ++ codes "sum                      1000.00             20.00           1020.00" ++ 10 ∷ []
unfolding day_of date_of day_text digits
printed = refl
