-- How callers and accounts are written, and the number that a text writes.
use Rattle.std.specs.Prelude.{ℕ, ◌-◌, ◌&&◌, List, ◌++◌, length, replicate, Option, Some, None, decimal, codes}
use Rattle.std.specs.Prelude.{if◌then◌else◌}
use Rattle.std.specs.Str.{bytes_eq}
use Rattle.std.specs.Str.Parse.{digits_value}
use Rattle.mf_office.specs.Numbers.{is_number_up_to}

-- so many digits, the first ones zeros where need be
abbrev pub zero_padded : ℕ → ℕ → List ℕ
zero_padded width n = replicate (width - length (decimal n)) 48 ++ decimal n

-- the office's number, a slash and the staff member's number
abbrev pub caller_text : ℕ → ℕ → List ℕ
caller_text office staff = decimal office ++ (codes "/" ++ decimal staff)

-- the office's number in four digits, a dash and the account's number in six
abbrev pub account_text : ℕ → ℕ → List ℕ
account_text office number = zero_padded 4 office ++ (codes "-" ++ zero_padded 6 number)

-- the number from 1 to the limit of which this is the text
abbrev pub number_written : (ℕ → List ℕ) → ℕ → List ℕ → Option ℕ
number_written text_of limit text =
    let n = digits_value 10 text in if is_number_up_to limit n && bytes_eq text (text_of n) then Some n else None
