-- Money texts: units of the currency, and cents after a point.
use Rattle.std.specs.Prelude.{◌≡◌, ℕ, ◌+◌, ◌*◌, ◌/◌, ◌%◌, ◌<◌, ◌≤◌, ◌⊎◌, List, [], ◌∷◌, ◌++◌, length, IsTrue}
use Rattle.std.specs.Fmt.{decimal}
use Rattle.std.specs.Str.{all_ascii_digits}
use Rattle.std.specs.Str.Parse.{digits_value}
use Rattle.mf_base.specs.DayText.{two_digits}

-- the greatest amount that is read, in cents
abbrev pub money_limit : ℕ
money_limit = 1_000_000_000_000

-- one to eleven digits, and the number that they are
pub record IsUnits (text : List ℕ) (units : ℕ) : Type 0 where
  pub digits : IsTrue (all_ascii_digits text)
  pub some : 1 ≤ length text
  pub at_most : length text ≤ 11
  pub value : units ≡ digits_value 10 text

-- what may stand after the units, and its cents: nothing, a point and one digit, or a point and two
abbrev pub IsFraction : List ℕ → ℕ → Type 0
IsFraction text cents =
    ((text ≡ []) × (cents ≡ 0))
    ⊎ (((tenths : ℕ) × (tenths < 10) × (text ≡ 46 ∷ (48 + tenths) ∷ []) × (cents ≡ 10 * tenths))
    ⊎ ((cents < 100) × (text ≡ 46 ∷ two_digits cents)))

-- the text stands for so many cents
pub record IsMoneyText (text : List ℕ) (cents : ℕ) : Type 0 where
  pub front : List ℕ
  pub back : List ℕ
  pub units : ℕ
  pub rest : ℕ
  pub parts : text ≡ front ++ back
  pub front_is : IsUnits front units
  pub back_is : IsFraction back rest
  pub value : cents ≡ 100 * units + rest
  pub limit : cents ≤ money_limit

-- units without needless zeros, a point, and two digits
abbrev pub money_text : ℕ → List ℕ
money_text cents = decimal (cents / 100) ++ 46 ∷ two_digits (cents % 100)
