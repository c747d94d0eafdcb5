-- What the fields of a sheet's line say.
use Rattle.std.specs.Prelude.{ℕ, ◌+◌, ◌-◌, ◌*◌, ◌==◌, ◌&&◌, ◌||◌, Bool, cond, List, [], ◌∷◌, length, nat_le, take, drop}
use Rattle.std.specs.Prelude.{Option, Some, None, option_and_then}
use Rattle.std.specs.Char.{is_ascii_digit}
use Rattle.std.specs.List.{prefix_len, suffix_len}
use Rattle.std.specs.Str.{bytes_eq}
use Rattle.std.specs.Str.Parse.{digits_value}
use Rattle.mf_account.specs.Receipts.{is_receipt}
use Rattle.mf_base.specs.Calendar.{CalendarDate, day_of, month_length}
use Rattle.mf_base.specs.DayText.{date_text}
use Rattle.mf_base.specs.Money.{money_limit}

-- a space or a tab
abbrev pub is_blank : ℕ → Bool
is_blank byte = (byte == 32) || (byte == 9)

-- a text without the spaces and tabs at its front
abbrev pub from_front : List ℕ → List ℕ
from_front text = drop (prefix_len is_blank text) text

-- a field without the spaces and tabs round it
abbrev pub without_blanks : List ℕ → List ℕ
without_blanks field = take (length (from_front field) - suffix_len is_blank (from_front field)) (from_front field)

-- the receipt that a text is
abbrev pub receipt_written : List ℕ → Option (List ℕ)
receipt_written text = cond (is_receipt text) (Some text) None

-- the date that the digits of YYYY-MM-DD write
abbrev pub date_in : List ℕ → CalendarDate
date_in text = record {
  year = digits_value 10 (take 4 text);
  month = digits_value 10 (take 2 (drop 5 text));
  day = digits_value 10 (take 2 (drop 8 text));
}

-- the calendar has this date, of one of the years 2000 to 2099
abbrev pub is_entered : CalendarDate → Bool
is_entered date =
    nat_le 2000 date.year && nat_le date.year 2099 && nat_le 1 date.month && nat_le date.month 12
    && nat_le 1 date.day && nat_le date.day (month_length date.year date.month)

-- the day from 2000-01-01 to 2099-12-31 of which this is the text
unfoldable pub day_written : List ℕ → Option ℕ
day_written text = cond (is_entered (date_in text) && bytes_eq text (date_text (date_in text)))
    (Some (day_of (date_in text))) None

-- the cents that stand after the units: nothing, a point and one digit, or a point and two
abbrev pub cents_after : List ℕ → Option ℕ
cents_after [] = Some 0
cents_after (point ∷ []) = None
cents_after (point ∷ tenths ∷ []) = cond ((point == 46) && is_ascii_digit tenths) (Some (10 * (tenths - 48))) None
cents_after (point ∷ tenths ∷ ones ∷ []) = cond ((point == 46) && is_ascii_digit tenths && is_ascii_digit ones)
    (Some (10 * (tenths - 48) + (ones - 48))) None
cents_after (point ∷ tenths ∷ ones ∷ more ∷ rest) = None

-- the amount, where it is at most what may be entered
abbrev pub up_to_limit : ℕ → Option ℕ
up_to_limit cents = cond (nat_le cents money_limit) (Some cents) None

-- the cents of a text that begins with so many digits
abbrev pub cents_by : ℕ → List ℕ → Option ℕ
cents_by count text = cond (nat_le 1 count && nat_le count 11)
    (option_and_then (λ cents. up_to_limit (100 * digits_value 10 (take count text) + cents))
    (cents_after (drop count text))) None

-- the cents that a money text stands for, up to 10^12
unfoldable pub cents_written : List ℕ → Option ℕ
cents_written text = cents_by (prefix_len is_ascii_digit text) text

-- an amount is at least 1 cent
abbrev pub at_least_one : ℕ → Option ℕ
at_least_one cents = cond (nat_le 1 cents) (Some cents) None

-- the amount that a text is
abbrev pub amount_written : List ℕ → Option ℕ
amount_written text = option_and_then at_least_one (cents_written text)
