-- Digits and their number.
use Rattle.std.proofs.Common.{◌≡◌, ℕ, ◌+◌, ◌-◌, ◌*◌, ◌<◌, ◌≤◌, List, [], ◌∷◌, take, length, get_or, true, refl, ap}
use Rattle.std.proofs.Common.{arith}
use Rattle.std.specs.Prelude.{◌&&◌}
use Rattle.std.specs.Char.{is_ascii_digit}
use Rattle.std.specs.List.{list_all}
use Rattle.std.specs.Str.{all_ascii_digits}
use Rattle.std.specs.Str.Parse.{digits_value}
use Rattle.std.specs.Int.{IsInRange}
use Rattle.std.proofs.lemmas.Int.Digits.{digits_value_more}
use Rattle.std.proofs.lemmas.Str.{digit_value_digit}
use Rattle.std.proofs.lemmas.Str.Parse.{IsNumeralModel, numerals_by_value, tells_all_ascii_digits, digit_at}
use Rattle.std.proofs.lemmas.Str.Parse.{digits_value_short, digits_value-take-le}

pub own : IsNumeralModel (λ ds. all_ascii_digits ds ≡ true) (digits_value 10)
own = numerals_by_value _ tells_all_ascii_digits

pub byte_of_digit : (ds : List ℕ) (i : ℕ) → all_ascii_digits ds ≡ true → i < length ds → IsInRange 48 57 (get_or ds i 0)
byte_of_digit ds i digits below = digit_at ds i (own.to ds digits) below

pub value-below : (ds : List ℕ) (i : ℕ) → all_ascii_digits ds ≡ true → length ds ≤ 11 → digits_value 10 (take i ds)
    < 100_000_000_000
value-below ds i digits short =
    omega (arith, digits_value-take-le 10 ds i (omega arith), digits_value_short own ds 11 digits short)

pub value-more : (ds : List ℕ) (i : ℕ) → all_ascii_digits ds ≡ true → i < length ds → digits_value 10 (take (i + 1) ds)
    ≡ 10 * digits_value 10 (take i ds) + (get_or ds i 0 - 48)
value-more ds i digits below =
    omega (arith, digits_value_more 10 ds i below, digit_value_digit (get_or ds i 0) (byte_of_digit ds i digits below))

pub digits_test : (ds : List ℕ) → list_all is_ascii_digit ds ≡ all_ascii_digits ds
digits_test [] = refl
digits_test (d ∷ ds) = ap (λ b. is_ascii_digit d && b) (digits_test ds)

-- nine digits at most write less than 10^9
pub value_of_nine : (ds : List ℕ) → all_ascii_digits ds ≡ true → length ds ≤ 9 → digits_value 10 ds < 1_000_000_000
value_of_nine ds digits short = digits_value_short own ds 9 digits short
