-- The number that some digits write.
use Rattle.std.specs.Prelude.{ℕ, ◌&&◌, cond, List, length, nat_le, Option, Some, None}
use Rattle.std.specs.Char.{is_ascii_digit}
use Rattle.std.specs.List.{list_all}
use Rattle.std.specs.Str.Parse.{digits_value}

-- the number that 1 to 9 decimal digits write, whether or not they begin with zeros
abbrev pub number_of_digits : List ℕ → Option ℕ
number_of_digits text = cond ((nat_le 1 (length text) && nat_le (length text) 9) && list_all is_ascii_digit text)
    (Some (digits_value 10 text)) None
