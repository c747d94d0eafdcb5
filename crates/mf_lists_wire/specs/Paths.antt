-- The parts of a path, which stand between slashes, and what they write.
use Rattle.std.specs.Prelude.{ℕ, ◌&&◌, Bool, codes, cond, not, List, is_none, length, nat_le, Option}
use Rattle.std.specs.Prelude.{Some, None, option_map, option_and_then}
use Rattle.std.specs.Char.{is_ascii_digit}
use Rattle.std.specs.List.{list_all}
use Rattle.std.specs.Str.{bytes_eq}
use Rattle.std.specs.Str.Parse.{digits_value}
use Rattle.mf_base.specs.Digits.{number_of_digits}
use Rattle.mf_base.specs.Texts.{parts_round}
use Rattle.mf_catalog.specs.Limits.{greatest_amount}
use Rattle.mf_wire_requests.specs.Bodies.{within}

-- a text that isn't empty
abbrev pub is_some_text : List ℕ → Bool
is_some_text text = nat_le 1 (length text)

-- the first part of a text, and what stands behind its slash, where the part isn't empty
abbrev pub first_part : List ℕ → Option (List ℕ × List ℕ)
first_part text = option_and_then (λ p. cond (is_some_text p.0) (Some p) None) (parts_round 47 text)

-- a text that is one part
abbrev pub last_part : List ℕ → Option (List ℕ)
last_part text = cond (is_some_text text && is_none (parts_round 47 text)) (Some text) None

-- the parts of a text that has two
abbrev pub two_parts : List ℕ → Option (List ℕ × List ℕ)
two_parts text = option_and_then (λ p. option_map (λ last. (p.0, last)) (last_part p.1)) (first_part text)

-- the first part of a text that has three, and the others
abbrev pub three_parts : List ℕ → Option (List ℕ × (List ℕ × List ℕ))
three_parts text = option_and_then (λ p. option_map (λ others. (p.0, others)) (two_parts p.1)) (first_part text)

-- the first two parts of a text that has four, and the others
abbrev pub four_parts : List ℕ → Option ((List ℕ × List ℕ) × (List ℕ × List ℕ))
four_parts text =
    option_and_then (λ p. option_map (λ others. ((p.0, others.0), others.1)) (three_parts p.1)) (first_part text)

-- the number that 1 to 9 digits write, where it lies from a least to a greatest
abbrev pub number_between : ℕ → ℕ → List ℕ → Option ℕ
number_between least greatest text = option_and_then (within least greatest) (number_of_digits text)

-- a text of 1 to 13 digits
abbrev pub is_long_number : List ℕ → Bool
is_long_number text = (is_some_text text && nat_le (length text) 13) && list_all is_ascii_digit text

-- the amount in whole cents that 1 to 13 digits write, where a loan may have it as its principal
abbrev pub principal_written : List ℕ → Option ℕ
principal_written text = cond (is_long_number text) (within 1 greatest_amount (digits_value 10 text)) None

-- what stands behind the word between the first two slashes of a path, where that is `lists` and nothing is before it
abbrev pub behind_word : List ℕ × List ℕ → Option (List ℕ)
behind_word p = option_and_then (λ q. cond (not (is_some_text p.0) && bytes_eq q.0 (codes "lists")) (Some q.1) None)
    (parts_round 47 p.1)

-- what stands behind `/lists/` at the beginning of a path
abbrev pub behind_lists : List ℕ → Option (List ℕ)
behind_lists path = option_and_then behind_word (parts_round 47 path)
