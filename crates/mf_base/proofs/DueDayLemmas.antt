-- Due days: more weeks or months after a day is a later day.
use Rattle.std.proofs.Common.{◌≡◌, ℕ, ◌+◌, ◌-◌, ◌*◌, ◌/◌, ◌%◌, ◌<◌, inl, inr, refl, arith, ap, ◌∙◌}
use Rattle.std.proofs.lemmas.Bool.{cases_lt}
use Rattle.mf_base.specs.declared.day.Freq.{Freq}
use Rattle.mf_base.specs.declared.day.Freq.TheVariants.{Weeks, Months}
use Rattle.mf_base.specs.Calendar.{CalendarDate, IsDate, month_length, date_of, day_of, months_on, day_after}
use Rattle.mf_base.proofs.CalendarLemmas.{month_length_bounds, day_of-lt, IsEarlier, IsDate-date_of, day_of-date_of}

pub IsDate-months_on : (date : CalendarDate) (count : ℕ) → IsDate date → IsDate (months_on date count)
IsDate-months_on date count is =
    let long = month_length_bounds (months_on date count).year (months_on date count).month in
    record {
      year = omega (arith, is.year);
      first_month = omega arith;
      last_month = omega arith;
      first_day = omega (arith, is.first_day, long);
      last_day = omega arith;
    }

earlier_month : (a b : CalendarDate) (m n : ℕ) → m < n → a.year ≡ m / 12 → a.month ≡ m % 12 + 1 → b.year ≡ n / 12
    → b.month ≡ n % 12 + 1 → IsEarlier a b
earlier_month a b m n lt year month later_year later_month =
    elim (cases_lt a.year b.year) [
      | inl before ↦ inl before
      | inr not ↦ inr (omega (arith, not), inl (omega (arith, not)))
    ]

pub months_on-lt : (date : CalendarDate) (fewer more : ℕ) → IsDate date → fewer < more → day_of (months_on date fewer)
    < day_of (months_on date more)
months_on-lt date fewer more is lt =
    day_of-lt _ _ (IsDate-months_on date fewer is) (IsDate-months_on date more is)
    (earlier_month _ _ (12 * date.year + (date.month - 1) + fewer) (12 * date.year + (date.month - 1) + more)
    (omega arith) refl refl refl refl)

pub day_after-lt : (day : ℕ) (freq : Freq) (fewer more : ℕ) → fewer < more → day_after day freq fewer
    < day_after day freq more
day_after-lt day Weeks fewer more lt = omega arith
day_after-lt day Months fewer more lt = months_on-lt (date_of day) fewer more (IsDate-date_of day) lt

months_on-none : (date : CalendarDate) → IsDate date → months_on date 0 ≡ date
months_on-none date is =
    let months : 12 * date.year + (date.month - 1) + 0 ≡ 12 * date.year + (date.month - 1) = omega arith in
    let year : (12 * date.year + (date.month - 1) + 0) / 12 ≡ date.year = omega (arith, is.last_month) in
    let month : (12 * date.year + (date.month - 1) + 0) % 12 + 1 ≡ date.month =
    omega (arith, is.first_month, is.last_month) in
    let length = (ap (λ y. month_length y (months_on date 0).month) year) ∙ ap (month_length date.year) month in
    let day : (months_on date 0).day ≡ date.day = omega (arith, length, is.last_day) in
    (λ i. record { year = year i; month = month i; day = day i })

pub day_after-none : (day : ℕ) (freq : Freq) → day_after day freq 0 ≡ day
day_after-none day Weeks = omega arith
day_after-none day Months = ap day_of (months_on-none (date_of day) (IsDate-date_of day)) ∙ day_of-date_of day
