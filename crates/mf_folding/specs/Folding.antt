-- Names without their case and accents.
use Rattle.std.specs.Prelude.{ℕ, ◌==◌, Bool, List, chars, filter}
use Rattle.caseless.specs.Caseless.{canonical_key}
use Rattle.ucd_normal.specs.CanonicalCombiningClass.{canonical_combining_class}

-- a character that doesn't combine with the one before it
abbrev pub is_no_accent : ℕ → Bool
is_no_accent c = canonical_combining_class c == 0

-- the characters that don't
abbrev pub without_accents : List ℕ → List ℕ
without_accents cs = filter is_no_accent cs

-- The characters of a text, decomposed, without case, decomposed again, without accents. So what differs in case, in
-- accents or in how these are spelled is one.
abbrev pub folded : List ℕ → List ℕ
folded text = without_accents (canonical_key (chars text))
