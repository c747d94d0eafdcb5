-- A text is the day of the date that its digits write.
use Rattle.std.proofs.Common.{◌≡◌, ℕ, ◌+◌, ◌/◌, ◌%◌, ◌<◌, ◌≤◌, true, List, ◌++◌, Option, Some, None, refl, sym, ap}
use Rattle.std.proofs.Common.{subst, ◌∙◌, arith}
use Rattle.std.specs.Prelude.{◌&&◌, cond, IfSome}
use Rattle.std.specs.Str.{bytes_eq}
use Rattle.std.specs.Str.Parse.{digits_value}
use Rattle.std.specs.Char.{digit_value}
use Rattle.std.specs.Int.{IsInRange}
use Rattle.std.proofs.lemmas.Bool.{and_parts, le-leb, leb-true}
use Rattle.std.proofs.lemmas.Slice.Eq.{bytes_eq-Decides}
use Rattle.std.proofs.lemmas.Str.{digit_value_digit}
use Rattle.mf_base.specs.Calendar.{CalendarDate, IsDate, date_of, day_of, month_length}
use Rattle.mf_base.specs.DayText.{date_text, day_text, last_entered_day, two_digits}
use Rattle.mf_base.proofs.CalendarLemmas.{month_length_bounds, day_of-date_of, IsDate-date_of}
use Rattle.mf_base.proofs.DayTextLemmas.{date_text-day, day_text-is, entered_year-date_of, last_entered_year}
use Rattle.mf_sheet_lines.specs.Fields.{date_in, is_entered, day_written}
use Rattle.mf_sheet_lines.proofs.Tests.{passed, nothing}

digit : (n : ℕ) → n < 10 → digit_value (48 + n) ≡ n
digit n small = let range : IsInRange 48 57 (48 + n) =
    (omega arith, omega arith) in omega (arith, digit_value_digit (48 + n) range)

two : (n : ℕ) → n < 100 → digits_value 10 (two_digits n) ≡ n
two n small = rw (digit (n / 10) (omega arith), digit (n % 10) (omega arith)) (omega arith)

four : (n : ℕ) → n < 10_000 → digits_value 10 (two_digits (n / 100) ++ two_digits (n % 100)) ≡ n
four n small =
    rw (
      digit (n / 100 / 10) (omega arith),
      digit (n / 100 % 10) (omega arith),
      digit (n % 100 / 10) (omega arith),
      digit (n % 100 % 10) (omega arith),
    ) (omega arith)

date_same : (a b : CalendarDate) → a.year ≡ b.year → a.month ≡ b.month → a.day ≡ b.day → a ≡ b
date_same a b year month day = (λ i. record { year = year i; month = month i; day = day i })

-- the digits of a date's text write it
date_in-text : (date : CalendarDate) → date.year < 10_000 → date.month < 100 → date.day < 100 → date_in (date_text date)
    ≡ date
date_in-text date year month day = date_same _ date (four date.year year) (two date.month month) (two date.day day)

entered : (date : CalendarDate) → IsDate date → date.year < 2100 → is_entered date ≡ true
entered date is year =
    rw (
      le-leb 2000 date.year is.year,
      le-leb date.year 2099 (omega arith),
      le-leb 1 date.month is.first_month,
      le-leb date.month 12 is.last_month,
      le-leb 1 date.day is.first_day,
      le-leb date.day (month_length date.year date.month) is.last_day,
    ) refl

is_entered_date : (date : CalendarDate) → is_entered date ≡ true → IsDate date × (date.year < 2100)
is_entered_date date is =
    let days = and_parts _ _ is in
    let first = and_parts _ _ days.0 in
    let months = and_parts _ _ first.0 in
    let least = and_parts _ _ months.0 in
    let years = and_parts _ _ least.0 in (
      record {
        year = leb-true _ _ years.0;
        first_month = leb-true _ _ least.1;
        last_month = leb-true _ _ months.1;
        first_day = leb-true _ _ first.1;
        last_day = leb-true _ _ days.1;
      },
      omega (arith, leb-true _ _ years.1),
    )

-- the text of a day is read as that day
is_read : (text : List ℕ) (day : ℕ) → day ≤ last_entered_day → text ≡ day_text day → day_written text ≡ Some day
unfolding day_written
is_read text day last is =
    let date = date_of day in
    let there = IsDate-date_of day in
    let year = entered_year-date_of day last in
    let written : text ≡ date_text date = is ∙ date_text-day day in
    let bounds = month_length_bounds date.year date.month in
    let same : date_in text ≡ date = ap date_in written ∙ date_in-text date (omega arith)
    (omega (arith, there.last_month)) (omega (arith, there.last_day, bounds)) in
    let equal : bytes_eq text (date_text date) ≡ true = (bytes_eq-Decides text (date_text date)).1 written in
    let family : CalendarDate → Type 0 = λ d. cond (is_entered d && bytes_eq text (date_text d)) (Some (day_of d)) None
    ≡ Some day in
    subst family (sym same) (rw (entered date there year, equal) (ap Some (day_of-date_of day)))

-- what is read is the day whose text it is
read_is : (text : List ℕ) (day : ℕ) → day_written text ≡ Some day → (day ≤ last_entered_day) × (text ≡ day_text day)
unfolding day_written
read_is text day is =
    let read = passed _ _ day is in
    let tests = and_parts _ _ read.0 in
    let there = is_entered_date (date_in text) tests.0 in
    let number : day_of (date_in text) ≡ day = cc in
    let written = (bytes_eq-Decides text (date_text (date_in text))).0 tests.1 in (
      omega (arith, number, (last_entered_year (date_in text) there.0).0 there.1),
      written ∙ sym (day_text-is (date_in text) there.0) ∙ ap day_text number,
    )

pub day_written_is : (text : List ℕ) (r : Option ℕ) → IfSome r (λ day. (day ≤ last_entered_day) × (text ≡ day_text day))
    → ((day : ℕ) → day ≤ last_entered_day → text ≡ day_text day → r ≡ Some day) → r ≡ day_written text
day_written_is text (Some day) some every = sym (is_read text day some.0 some.1)
day_written_is text None some every =
    sym (nothing _ (λ day is. let read = read_is text day is in let no = every day read.0 read.1 in cc))

-- so a day that is read may be entered
pub day_range : (text : List ℕ) → IfSome (day_written text) (λ day. day ≤ last_entered_day)
day_range text = step (day_written text) refl
  where
    step : (o : Option ℕ) → day_written text ≡ o → IfSome o (λ day. day ≤ last_entered_day)
    step None e = tt
    step (Some day) e = (read_is text day e).0
