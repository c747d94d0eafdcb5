-- What may be told of a request.
use Rattle.std.specs.Prelude.{ℕ, ◌==◌, Bool, ◌&&◌, ◌||◌, List, length, nat_le}
use Rattle.std.specs.Char.{is_ascii_graphic}
use Rattle.std.specs.List.{list_all}

-- the longest text that is told, in bytes
abbrev pub longest_told : ℕ
longest_told = 100

-- a byte that may be told: a space, or another character of ASCII that is printed
abbrev pub is_printed : ℕ → Bool
is_printed b = b == 32 || is_ascii_graphic b

-- the text may be told: it is no longer, and each of its bytes is printed
abbrev pub may_be_told : List ℕ → Bool
may_be_told text = nat_le (length text) longest_told && list_all is_printed text
