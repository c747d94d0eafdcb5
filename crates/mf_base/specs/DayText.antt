-- The texts of days.
use Rattle.std.specs.Prelude.{◌≡◌, ℕ, ◌+◌, ◌/◌, ◌%◌, ◌<◌, List, [], ◌∷◌, ◌++◌}
use Rattle.mf_base.specs.Calendar.{CalendarDate, date_of}

-- a number below 100 as two digits
abbrev pub two_digits : ℕ → List ℕ
two_digits number = (48 + number / 10) ∷ (48 + number % 10) ∷ []

-- YYYY-MM-DD
abbrev pub date_text : CalendarDate → List ℕ
date_text date =
    two_digits (date.year / 100) ++ (two_digits (date.year % 100)
    ++ 45 ∷ (two_digits date.month ++ 45 ∷ two_digits date.day))

-- the text of a day is that of its date
unfoldable pub day_text : ℕ → List ℕ
day_text day = date_text (date_of day)

-- 2099-12-31, the last day that may be entered
abbrev pub last_entered_day : ℕ
last_entered_day = 36_524

-- 9999-12-31, the last day that has a text
abbrev pub last_day : ℕ
last_day = 2_921_939

-- four digits, two and two, with dashes between them
abbrev pub HasParts : List ℕ → ℕ → ℕ → ℕ → Type 0
HasParts text year month day =
    (year < 10_000) × (month < 100) × (day < 100)
    × (text ≡ date_text (record { year = year; month = month; day = day }))
