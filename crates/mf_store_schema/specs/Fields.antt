-- What the columns of a row hold where a record can be made of them.
use Rattle.std.specs.Prelude.{◌≡◌, ◌⊎◌, ◌<◌, ◌+◌, ◌^◌, ℕ, ℤ, pos, List, [], ◌∷◌, length, IsUtf8}
use Rattle.sqlite.specs.declared.types.Value.{Value}
use Rattle.sqlite.specs.declared.types.Value.TheVariants.{Null, Int, Text as Words, Blob}
use Rattle.sqlite.specs.Order.{Row, column}
use Rattle.mf_store_sql.specs.Columns.{Field, Named, Number, Amount, Text, Bytes, MaybeNumber, MaybeText}

-- a number of 32 bits, without a sign
abbrev pub IsNumber : Value → Type 0
IsNumber v = (n : ℕ) × (v ≡ Int (pos n)) × (n < 2 ^ 32)

-- a number of 64 bits, with a sign
abbrev pub IsAmount : Value → Type 0
IsAmount v = (n : ℤ) × (v ≡ Int n)

-- a text in UTF-8
abbrev pub IsText : Value → Type 0
IsText v = (t : List ℕ) × (v ≡ Words t) × IsUtf8 t

-- a field of the kind can hold the value
abbrev pub CanHold : Field → Value → Type 0
CanHold Number v = IsNumber v
CanHold Amount v = IsAmount v
CanHold Text v = IsText v
CanHold Bytes v = (b : List ℕ) × (v ≡ Blob b)
CanHold MaybeNumber v = (v ≡ Null) ⊎ IsNumber v
CanHold MaybeText v = (v ≡ Null) ⊎ IsText v

-- fields of these columns can hold the row's values, from this one on
abbrev pub CanHoldFrom : ℕ → List Named → Row → Type 0
CanHoldFrom at [] row = Unit {0}
CanHoldFrom at (c ∷ cs) row = CanHold c.field (column row at) × CanHoldFrom (at + 1) cs row

-- the row has a value for each of these columns, whose field can hold it, and no more
pub record HasFields (columns : List Named) (row : Row) : Type 0 where
  pub width : length row ≡ length columns
  pub values : CanHoldFrom 0 columns row
