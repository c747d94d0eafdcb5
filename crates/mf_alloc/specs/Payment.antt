-- Payment by lengths on a line. What is outstanding in each cell is laid end to end, in the order of places.
use Rattle.std.specs.Prelude.{ℕ, ◌-◌, ◌*◌, min, nat_lt, Bool, List, length, map, filter, sum, sum_by}
use Rattle.std.specs.List.{range_with_len}
use Rattle.mf_alloc.specs.declared.row.Cell.{Cell}
use Rattle.mf_alloc.specs.Sums.{Instalment}
use Rattle.mf_alloc.specs.declared.row.Share.{Share}
use Rattle.mf_alloc.specs.Rows.{outstanding}

-- where the stretch of place k begins
abbrev pub start : (ℕ → Cell) → List Instalment → ℕ → ℕ
start order rows k = sum (map (λ j. outstanding rows (order j)) (range_with_len 0 k))

-- what the cell at place k gets of an amount
abbrev pub share_at : (ℕ → Cell) → List Instalment → ℕ → ℕ → Share
share_at order rows amount k = record {
  cell = order k;
  amount = min (outstanding rows (order k)) (amount - start order rows k);
}

-- a share is of more than nothing
abbrev pub is_some_share : Share → Bool
is_some_share share = nat_lt 0 share.amount

-- the shares of the first k places, zero ones left out
abbrev pub shares_below : (ℕ → Cell) → List Instalment → ℕ → ℕ → List Share
shares_below order rows amount k =
    filter is_some_share (map (share_at order rows amount) (range_with_len 0 k))

-- the shares of all cells, and what is left past the line's end
abbrev pub shares_of : (ℕ → Cell) → List Instalment → ℕ → List Share
shares_of order rows amount = shares_below order rows amount (4 * length rows)

-- what of an amount is left past all cells
abbrev pub rest_of : (ℕ → Cell) → List Instalment → ℕ → ℕ
rest_of order rows amount = amount - start order rows (4 * length rows)

-- the sum of shares
abbrev pub amount_of_shares : List Share → ℕ
amount_of_shares shares = sum_by (λ (share : Share). share.amount) shares
