-- Values of JSON that several replies have.
use Rattle.std.specs.Prelude.{ℕ, ◌==◌, ◌&&◌, Bool, true, not, List, [], ◌∷◌, ◌++◌, nat_le, Option, Some, None}
use Rattle.serde_json.specs.Data.{Data, null, number, unsigned, string}
use Rattle.serde_json.specs.Written.{comma_if, compact_text}

-- a number without a sign
abbrev pub whole : ℕ → Data
whole n = number (unsigned n)

-- a number, or null where there is none
abbrev pub whole_or_null : Option ℕ → Data
whole_or_null None = null
whole_or_null (Some n) = whole n

-- a text, or null where there is none
abbrev pub text_or_null : Option (List ℕ) → Data
text_or_null None = null
text_or_null (Some text) = string text

-- the texts of values one after another, a comma before each but the first of a list
abbrev pub joined_values : Bool → List Data → List ℕ
joined_values later [] = []
joined_values later (d ∷ ds) = comma_if later ++ (compact_text d ++ joined_values true ds)

-- a byte that stands in a text of JSON as it is: no quote, no backslash, and no control character
abbrev pub is_plain_byte : ℕ → Bool
is_plain_byte b = (not (b == 34) && not (b == 92)) && nat_le 32 b
