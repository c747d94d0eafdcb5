-- The dates of the calendar's library, from -9999-01-01 to 9999-12-31.
use Rattle.std.specs.Prelude.{pos, ◌≤ℤ◌, unsigned_abs}
use Rattle.jiff_core.specs.declared.civil.date.Date.{Date}
use Rattle.mf_base.specs.Calendar.{CalendarDate}

-- the same date in our calendar, which begins with the year 2000
abbrev pub date_from : Date → CalendarDate
date_from date = record { year = unsigned_abs date.year; month = date.month; day = date.day }

-- the date lies in our calendar
abbrev pub IsSince2000 : Date → Type 0
IsSince2000 date = pos 2000 ≤ℤ date.year
