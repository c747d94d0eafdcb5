-- A text in quotes, so that it is told from the words around it.
use Rattle.std.specs.Prelude.{ℕ, false, List, ◌++◌, codes, Option, Some, None}
use Rattle.std.specs.Fmt.{debug_str, digits}
use Rattle.std.specs.List.{flat_map}
use Rattle.std.specs.Prelude.{◌/◌, ◌%◌}

-- a byte in two digits to the base 16
abbrev pub two_hex : ℕ → List ℕ
two_hex b = digits 16 false (b / 16) ++ digits 16 false (b % 16)

-- bytes as SQL writes them
abbrev pub as_bytes : List ℕ → List ℕ
as_bytes text = codes "x'" ++ (flat_map two_hex text ++ codes "'")

-- an ASCII text in quotes as Rust writes it, and any other by its bytes
abbrev pub quoted_or : List ℕ → Option (List ℕ) → List ℕ
quoted_or text (Some words) = words
quoted_or text None = as_bytes text

-- a text in quotes, or by its bytes
unfoldable pub quoted : List ℕ → List ℕ
quoted text = quoted_or text (debug_str text)
