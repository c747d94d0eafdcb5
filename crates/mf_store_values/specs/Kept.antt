-- What entries settle, in the order of the entries' numbers.
use Rattle.std.specs.Prelude.{ℕ, ◌+◌, ◌==◌, cond, List, [], ◌∷◌}
use Rattle.mf_account.specs.declared.settled.SettledPart.{SettledPart}

-- the place of a part within its entry, after a part with this entry's number and place
abbrev pub next_place : ℕ → ℕ → SettledPart → ℕ
next_place seq place part = cond (part.seq == seq) (place + 1) 1

-- parts by entry, each with its entry's number and its place within the entry
abbrev pub placed_from : ℕ → ℕ → List SettledPart → List (ℕ × (ℕ × SettledPart))
placed_from seq place [] = []
placed_from seq place (part ∷ parts) =
    (part.seq, (next_place seq place part, part)) ∷ placed_from part.seq (next_place seq place part) parts

-- the part that its row tells: with the number of its entry and its place within the entry
abbrev pub part_told : ℕ × (ℕ × SettledPart) → SettledPart
part_told placed = record {
  seq = placed.0;
  place = placed.1.0;
  cell = placed.1.1.cell;
  how = placed.1.1.how;
  amount = placed.1.1.amount;
}
