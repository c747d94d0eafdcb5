-- Numbers of up to thirteen digits.
use Rattle.std.proofs.Common.{◌≡◌, ℕ, ◌<◌, ◌≤◌, List, take, length, true, arith}
use Rattle.std.specs.Str.{all_ascii_digits}
use Rattle.std.specs.Str.Parse.{digits_value}
use Rattle.std.proofs.lemmas.Str.Parse.{digits_value_short, digits_value-take-le}
use Rattle.mf_base.proofs.DigitsLemmas.{own}

pub value-below : (ds : List ℕ) (i : ℕ) → all_ascii_digits ds ≡ true → length ds ≤ 13
    → digits_value 10 (take i ds) < 10_000_000_000_000
value-below ds i digits short =
    omega (arith, digits_value-take-le 10 ds i (omega arith), digits_value_short own ds 13 digits short)
