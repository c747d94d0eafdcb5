-- The library's day count is the calendar's from the year 2000 on.
use Rattle.std.proofs.Common.{◌≡◌, ℕ, zero, suc, ◌+◌, ◌-◌, ◌<◌, ◌≤◌, ℤ, pos, negsuc, ◌+ℤ◌, ◌≤ℤ◌, unsigned_abs, to_z}
use Rattle.std.proofs.Common.{of_z, w16, refl, arith, ap, sym, ◌∙◌}
use Rattle.std.proofs.lemmas.Int.{by_lt_z}
use Rattle.jiff_core.specs.declared.civil.date.Date.{Date}
use Rattle.jiff_core.specs.Calendar.{day_count, days_of_months, days_in_month}
use Rattle.jiff_core.specs.Date.{epoch_day}
use Rattle.jiff_core.proofs.SignedLemmas.{signed_arith, unsigned_abs-parts, one_part, back_small}
use Rattle.jiff_core.proofs.MarchLemmas.{day_count-early}
use Rattle.jiff_core.proofs.CalendarLemmas.{day_count-next_year, day_count-day_of_year, day_count-lt_year}
use Rattle.jiff_core.proofs.CalendarLemmas.{days_of_months-zero, days_of_months_more, days_from_civil-day_count}
use Rattle.jiff_core.proofs.CalendarLemmas.{day_count-end}
use Rattle.jiff_core.proofs.DateLemmas.{civil}
use Rattle.mf_base.specs.Calendar.{CalendarDate, IsDate, day_of, date_of, years_before, months_before}
use Rattle.mf_base.specs.CivilDate.{date_from, IsSince2000}
use Rattle.mf_base.proofs.CalendarLemmas.{years_before_more, months_before_more, date_of-day_of}

first_of_2000 : day_count (pos 2000) 1 1 ≡ 4_382_910
first_of_2000 = day_count-early (pos 2000) 11999 1 1 refl (omega arith) (omega arith) (omega arith)

first_of_year : (count : ℕ) → day_count (pos (2000 + count)) 1 1 ≡ 4_382_910 + years_before (2000 + count)
first_of_year zero = first_of_2000
first_of_year (suc count) =
    let next : 2000 + suc count ≡ 2000 + count + 1 = omega arith in
    let low : 2000 ≤ 2000 + count = omega arith in
    rw next (omega (
      arith,
      day_count-next_year (pos (2000 + count)) (pos (2000 + count + 1))
          (omega (arith, signed_arith)) (omega (arith, signed_arith)),
      years_before_more (2000 + count) low,
      first_of_year count,
    ))

first_of_month : (year count : ℕ) → days_of_months (pos year) count ≡ months_before year (count + 1)
first_of_month year zero = days_of_months-zero (pos year)
first_of_month year (suc count) =
    let back : suc count - 1 ≡ count = omega arith in
    let next : suc count ≡ count + 1 = omega arith in
    days_of_months_more (pos year) (suc count) (omega arith)
    ∙ rw (back, next) (omega (arith, first_of_month year count, months_before_more year (count + 1) (omega arith)))

pub day_count-day_of : (date : CalendarDate) → 2000 ≤ date.year → 1 ≤ date.month → 1 ≤ date.day
    → day_count (pos date.year) date.month date.day ≡ 4_382_910 + day_of date
unfolding day_of
day_count-day_of date year month day =
    let same : 2000 + (date.year - 2000) ≡ date.year = omega arith in
    let before : date.month - 1 + 1 ≡ date.month = omega arith in
    let first = rw same at (first_of_year (date.year - 2000)) in
    let months = rw before at (first_of_month date.year (date.month - 1)) in
    omega (arith, day_count-day_of_year (pos date.year) date.month date.day day, first, months)

absolute : (z : ℤ) → pos 2000 ≤ℤ z → z ≡ pos (unsigned_abs z)
absolute (pos n) low = refl
absolute (negsuc n) low = absurd (omega (arith, signed_arith))

year_is : (date : Date) → IsSince2000 date → date.year ≡ pos (unsigned_abs date.year)
year_is date since = absolute date.year since

pub day_count-since : (date : Date) → IsSince2000 date → day_count date.year date.month date.day ≡ 4_382_910
    + day_of (date_from date)
day_count-since date since =
    ap (λ y. day_count y date.month date.day) (year_is date since)
    ∙ day_count-day_of (date_from date) (omega (arith, signed_arith)) date.month_in.0 date.day_in.0

-- a date of the library from 2000 on is one of the calendar
pub IsDate-since : (date : Date) → IsSince2000 date → IsDate (date_from date)
IsDate-since date since =
    let same = ap (λ y. days_in_month y date.month) (year_is date since) in
    record {
      year = omega (arith, signed_arith);
      first_month = date.month_in.0;
      last_month = date.month_in.1;
      first_day = date.day_in.0;
      last_day = omega (arith, same, date.day_in.1);
    }

-- its number
pub day_of-since : (date : Date) (days : ℕ) → IsSince2000 date → epoch_day date +ℤ pos 4_371_587 ≡ pos days
    → days ≡ day_of (date_from date) + 4_382_544
day_of-since date days since is =
    omega (arith, signed_arith, days_from_civil-day_count date.year date.month date.day, day_count-since date since)

-- a number from 2000 on is of a date from 2000 on
pub since-number : (date : Date) (days : ℕ) → epoch_day date +ℤ pos 4_371_587 ≡ pos days → 4_382_544 ≤ days
    → IsSince2000 date
since-number date days is late =
    by_lt_z date.year (pos 2000)
    (λ lt. absurd (omega (
      arith,
      signed_arith,
      days_from_civil-day_count date.year date.month date.day,
      day_count-lt_year date.year date.month date.day (pos 2000) 1 1 (civil date) (omega arith) lt,
      first_of_2000,
    )))
    (λ since. since)

pub date_of-since : (date : Date) (days : ℕ) → epoch_day date +ℤ pos 4_371_587 ≡ pos (days + 4_382_544)
    → IsSince2000 date × (date_from date ≡ date_of days)
date_of-since date days is =
    let since = since-number date (days + 4_382_544) is (omega arith) in
    let number : days ≡ day_of (date_from date) = omega (arith, day_of-since date (days + 4_382_544) since is) in
    (since, sym (ap date_of number ∙ date_of-day_of (date_from date) (IsDate-since date since)))

-- the days from 2000 to 9999
pub years_before-10000 : years_before 10_000 ≡ 2_921_940
years_before-10000 = omega (arith, first_of_year 8000, day_count-end)

pub year-below : (date : Date) → unsigned_abs date.year < 10_000
year-below date = omega (arith, signed_arith, unsigned_abs-parts date.year, date.year_in, one_part date.year)

-- the year as the code reads it
pub year-read : (date : Date) → to_z w16 (of_z w16 date.year) ≡ date.year
year-read date = back_small w16 date.year (omega (arith, year-below date))
