-- The calendar. A day is the number of days from 1 January 2000, which is day 0.
use Rattle.std.specs.Prelude.{ℕ, zero, suc, ◌+◌, ◌-◌, ◌*◌, ◌/◌, ◌%◌, ◌≤◌, Bool, not, ◌&&◌, ◌||◌, ◌==◌, nat_lt, min}
use Rattle.std.specs.Prelude.{sum_by, if◌then◌else◌}
use Rattle.std.specs.List.{range_with_len}
use Rattle.mf_base.specs.declared.day.Freq.{Freq}
use Rattle.mf_base.specs.declared.day.Freq.TheVariants.{Weeks, Months}

-- a date of the calendar
pub record CalendarDate : Type 0 where
  pub year : ℕ
  pub month : ℕ
  pub day : ℕ

-- every fourth year, but of the centuries only every fourth
abbrev pub is_leap_year : ℕ → Bool
is_leap_year year = (year % 4 == 0) && (not (year % 100 == 0) || (year % 400 == 0))

-- the days of a year
abbrev pub year_length : ℕ → ℕ
year_length year = if is_leap_year year then 366 else 365

-- April, June, September and November have thirty days
abbrev pub month_length : ℕ → ℕ → ℕ
month_length year month =
    if month == 2 then (if is_leap_year year then 29 else 28)
    else (if (month == 4) || (month == 6) || (month == 9) || (month == 11) then 30 else 31)

-- the calendar has this date
pub record IsDate (date : CalendarDate) : Type 0 where
  pub year : 2000 ≤ date.year
  pub first_month : 1 ≤ date.month
  pub last_month : date.month ≤ 12
  pub first_day : 1 ≤ date.day
  pub last_day : date.day ≤ month_length date.year date.month

-- the days of the years before a year
abbrev pub years_before : ℕ → ℕ
years_before year = sum_by year_length (range_with_len 2000 (year - 2000))

-- the days of a year before a month
abbrev pub months_before : ℕ → ℕ → ℕ
months_before year month = sum_by (month_length year) (range_with_len 1 (month - 1))

-- the days of the years before, of the months before, and of the month before the date
unfoldable pub day_of : CalendarDate → ℕ
day_of date = years_before date.year + months_before date.year date.month + (date.day - 1)

-- the date after
abbrev pub next_date : CalendarDate → CalendarDate
next_date date =
    if nat_lt date.day (month_length date.year date.month) then record date { day = date.day + 1 }
    else (if nat_lt date.month 12 then record { year = date.year; month = date.month + 1; day = 1 }
    else record { year = date.year + 1; month = 1; day = 1 })

-- the date of a day
unfoldable pub date_of : ℕ → CalendarDate
date_of zero = record { year = 2000; month = 1; day = 1 }
date_of (suc day) = next_date (date_of day)

-- so many months on; a day that the month has not is its last
abbrev pub months_on : CalendarDate → ℕ → CalendarDate
months_on date count =
    let months = 12 * date.year + (date.month - 1) + count in
    let year = months / 12 in
    let month = months % 12 + 1 in
    record { year = year; month = month; day = min date.day (month_length year month) }

-- so many weeks after a day
abbrev pub weeks_after : ℕ → ℕ → ℕ
weeks_after day count = day + 7 * count

-- so many months after a day
abbrev pub months_after : ℕ → ℕ → ℕ
months_after day count = day_of (months_on (date_of day) count)

-- so many weeks or months after a day
abbrev pub day_after : ℕ → Freq → ℕ → ℕ
day_after day Weeks count = weeks_after day count
day_after day Months count = months_after day count
