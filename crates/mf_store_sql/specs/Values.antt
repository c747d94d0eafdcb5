-- The values that tables keep of numbers and texts that may be absent.
use Rattle.std.specs.Prelude.{ℕ, pos, List, Option, Some, None}
use Rattle.sqlite.specs.declared.types.Value.{Value}
use Rattle.sqlite.specs.declared.types.Value.TheVariants.{Null, Int, Text}

-- a number, or NULL
abbrev pub or_null : Option ℕ → Value
or_null None = Null
or_null (Some n) = Int (pos n)

-- a text, or NULL
abbrev pub or_text : Option (List ℕ) → Value
or_text None = Null
or_text (Some t) = Text t
