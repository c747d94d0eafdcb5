-- Rows of a table: the order of their keys, and which of them a query looks for.
use Rattle.std.specs.Prelude.{◌≡◌, ℕ, ℤ, zero, suc, pos, Bool, true, List, [], ◌∷◌, Option}
use Rattle.std.specs.declared.cmp.Ordering.{Ordering}
use Rattle.std.specs.declared.cmp.Ordering.TheVariants.{Equal}
use Rattle.std.specs.Ordering.{ordering_then, is_eq}
use Rattle.sqlite.specs.declared.types.Value.{Value}
use Rattle.sqlite.specs.declared.types.Value.TheVariants.{Int, Text as Words, Blob}
use Rattle.sqlite.specs.Order.{Row, column, value_cmp}
use Rattle.mf_store_sql.specs.Columns.{Field, Number, Amount, Text, Bytes, MaybeNumber, MaybeText, Named}
use Rattle.mf_store_sql.specs.Columns.{is_always}

-- two rows by so many columns, from this one on
abbrev pub columns_cmp : ℕ → ℕ → Row → Row → Ordering
columns_cmp at zero a b = Equal
columns_cmp at (suc n) a b = ordering_then (value_cmp (column a at) (column b at)) (columns_cmp (suc at) n a b)

-- two rows by their first columns
abbrev pub first_cmp : ℕ → Row → Row → Ordering
first_cmp n a b = columns_cmp 0 n a b

-- the first columns of a row, so many, have these values
abbrev pub begins : ℕ → Row → Row → Bool
begins n values row = is_eq (first_cmp n values row)

-- a value that a field can keep, but for its size
abbrev pub IsKeepable : Field → Value → Type 0
IsKeepable Number v = (n : ℕ) × (v ≡ Int (pos n))
IsKeepable Amount v = (n : ℤ) × (v ≡ Int n)
IsKeepable Text v = (t : List ℕ) × (v ≡ Words t)
IsKeepable Bytes v = (b : List ℕ) × (v ≡ Blob b)
IsKeepable MaybeNumber v = (n : Option ℕ) × (v ≡ Rattle.mf_store_sql.specs.Values.or_null n)
IsKeepable MaybeText v = (t : Option (List ℕ)) × (v ≡ Rattle.mf_store_sql.specs.Values.or_text t)

-- column by column, and as many
abbrev pub AreKeepable : List Named → Row → Type 0
AreKeepable [] [] = Unit {0}
AreKeepable [] (v ∷ vs) = ⊥
AreKeepable (c ∷ cs) [] = ⊥
AreKeepable (c ∷ cs) (v ∷ vs) = IsKeepable c.field v × AreKeepable cs vs

-- a value of a field that is always there
abbrev pub IsPlainValue : Value → Type 0
IsPlainValue v = (f : Field) × (is_always f ≡ true) × IsKeepable f v

-- so many columns have such values, from this one on
abbrev pub ArePlain : ℕ → ℕ → Row → Type 0
ArePlain at zero row = Unit {0}
ArePlain at (suc n) row = IsPlainValue (column row at) × ArePlain (suc at) n row
