-- A text cut at a separator, and a word at the right of columns.
use Rattle.std.specs.Prelude.{ℕ, ◌+◌, ◌-◌, ◌==◌, List, ◌++◌, length, replicate, take, drop, Option, option_map}
use Rattle.std.specs.List.{position}

-- what stands before and after the first of a separator, where there is one
abbrev pub parts_round : ℕ → List ℕ → Option (List ℕ × List ℕ)
parts_round separator text = option_map (λ at. (take at text, drop (at + 1) text)) (position (λ b. b == separator) text)

-- a word at the right of so many columns: spaces stand before it
abbrev pub right : ℕ → List ℕ → List ℕ
right columns word = replicate (columns - length word) 32 ++ word
