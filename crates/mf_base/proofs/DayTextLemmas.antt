-- The texts of days: no two dates have one text.
use Rattle.std.proofs.Common.{◌≡◌, ℕ, ◌+◌, ◌/◌, ◌%◌, ◌<◌, ◌≤◌, List, get_or, inl, inr, refl, arith, ap, sym, ◌∙◌}
use Rattle.std.proofs.lemmas.Bool.{cases_lt}
use Rattle.mf_base.specs.Calendar.{CalendarDate, IsDate, date_of, day_of, years_before}
use Rattle.mf_base.specs.DayText.{date_text, day_text, last_day, last_entered_day}
use Rattle.mf_base.proofs.CalendarLemmas.{month_length_bounds, date_of-day_of, day_of-date_of, IsDate-date_of}
use Rattle.mf_base.proofs.CalendarLemmas.{day_of-lt_year, years_before-le-day_of}
use Rattle.mf_base.proofs.CivilDateLemmas.{years_before-10000}

-- what date_text needs to tell two dates apart
pub record IsShort (date : CalendarDate) : Type 0 where
  pub year : date.year < 10_000
  pub month : date.month < 100
  pub day : date.day < 100

pub IsShort-date : (date : CalendarDate) → IsDate date → date.year < 10_000 → IsShort date
IsShort-date date is year = record {
  year = year;
  month = omega (arith, is.last_month);
  day = omega (arith, is.last_day, month_length_bounds date.year date.month);
}

same_two_digits : (a b : ℕ) → 48 + a / 10 ≡ 48 + b / 10 → 48 + a % 10 ≡ 48 + b % 10 → a ≡ b
same_two_digits a b tens ones = omega arith

same_year : (a b : ℕ) → a / 100 ≡ b / 100 → a % 100 ≡ b % 100 → a ≡ b
same_year a b hundreds rest = omega arith

pub date_text-injective : (a b : CalendarDate) → date_text a ≡ date_text b → a ≡ b
date_text-injective a b same =
    let at = λ (k : ℕ). ap (λ text. get_or text k 0) same in
    let year = same_year a.year b.year (same_two_digits _ _ (at 0) (at 1)) (same_two_digits _ _ (at 2) (at 3)) in
    let month = same_two_digits a.month b.month (at 5) (at 6) in
    let day = same_two_digits a.day b.day (at 8) (at 9) in
    (λ i. record { year = year i; month = month i; day = day i })

-- the years before a year are the days before it
years_before-2100 : years_before 2100 ≡ 36_525
years_before-2100 = refl

year_by_number : (date : CalendarDate) (year : ℕ) → IsDate date → 2000 ≤ year
    → (date.year < year → day_of date < years_before year) × (day_of date < years_before year → date.year < year)
year_by_number date year is low = (
  λ lt. day_of-lt_year date year is lt,
  λ lt. elim (cases_lt date.year year) [
    | inl under ↦ under
    | inr over ↦ absurd
        (omega (arith, lt, years_before-le-day_of date year low over))
  ],
)

-- the years of days by their numbers
pub last_entered_year : (date : CalendarDate) → IsDate date → (date.year < 2100 → day_of date ≤ last_entered_day)
    × (day_of date ≤ last_entered_day → date.year < 2100)
last_entered_year date is =
    let both = year_by_number date 2100 is (omega arith) in
    (λ lt. omega (arith, both.0 lt, years_before-2100), λ le. both.1 (omega (arith, le, years_before-2100)))

pub last_year : (date : CalendarDate) → IsDate date → (date.year < 10_000 → day_of date ≤ last_day)
    × (day_of date ≤ last_day → date.year < 10_000)
last_year date is =
    let both = year_by_number date 10_000 is (omega arith) in
    (λ lt. omega (arith, both.0 lt, years_before-10000), λ le. both.1 (omega (arith, le, years_before-10000)))

pub year-date_of : (day : ℕ) → day ≤ last_day → (date_of day).year < 10_000
year-date_of day le = (last_year (date_of day) (IsDate-date_of day)).1 (rw day_of-date_of le)

-- the text of a day, and the text of a date
pub day_text-is : (date : CalendarDate) → IsDate date → day_text (day_of date) ≡ date_text date
unfolding day_text
day_text-is date is = ap date_text (date_of-day_of date is)

pub date_text-day : (day : ℕ) → day_text day ≡ date_text (date_of day)
unfolding day_text
date_text-day day = refl

-- a date's text is the text of one number, that of the date
pub day_text-only : (date : CalendarDate) (day : ℕ) (text : List ℕ) → text ≡ date_text date → text ≡ day_text day
    → day_of date ≡ day
day_text-only date day text is same =
    ap day_of (date_text-injective date (date_of day) (sym is ∙ same ∙ date_text-day day)) ∙ day_of-date_of day

-- no two days have one text
pub day_text-injective : (a b : ℕ) → day_text a ≡ day_text b → a ≡ b
day_text-injective a b same = sym (day_of-date_of a) ∙ day_text-only (date_of a) b (day_text a) (date_text-day a) same

pub entered_year-date_of : (day : ℕ) → day ≤ last_entered_day → (date_of day).year < 2100
entered_year-date_of day le = (last_entered_year (date_of day) (IsDate-date_of day)).1 (rw day_of-date_of le)
