-- The writes that bring a loan's stored instalments and shares to what its account says.
use Rattle.std.specs.Prelude.{ℕ, List, ◌∷◌, ◌++◌, map, flat_map}
use Rattle.mf_alloc.specs.Rows.{row_at}
use Rattle.mf_alloc.specs.Sums.{Instalment}
use Rattle.mf_account.specs.declared.settled.SettledPart.{SettledPart}
use Rattle.mf_account.specs.Change.{KeptAccount, settled_in}
use Rattle.mf_store_schema.specs.declared.writes.StoreWrite.{StoreWrite}
use Rattle.mf_store_schema.specs.declared.writes.StoreWrite.TheVariants.{PutInstalment, PutShare, RemoveShares}
use Rattle.mf_store_values.specs.Flat.{instalment_in, share_in, placed_parts}

-- the rows of all these instalments are put
abbrev pub schedule_put : ℕ → ℕ → List (ℕ × Instalment) → List StoreWrite
schedule_put office loan numbered = map (λ item. PutInstalment (instalment_in office loan item)) numbered

-- the rows of the instalments with these numbers are put
abbrev pub instalments_put : ℕ → ℕ → List Instalment → List ℕ → List StoreWrite
instalments_put office loan rows numbers =
    map (λ n. PutInstalment (instalment_in office loan (n, row_at rows n))) numbers

-- the rows of what an entry settles are removed, and put
abbrev pub shares_replaced : ℕ → ℕ → List SettledPart → ℕ → List StoreWrite
shares_replaced office loan settled seq =
    RemoveShares (record { office = office; loan = loan; seq = seq })
    ∷ map (λ placed. PutShare (share_in office loan placed)) (placed_parts seq (settled_in seq settled))

-- the same of each entry with one of these numbers
abbrev pub shares_put : ℕ → ℕ → List SettledPart → List ℕ → List StoreWrite
shares_put office loan settled seqs = flat_map (shares_replaced office loan settled) seqs

-- what a change names is written: the instalments whose rows differ, and the entries that settle otherwise
abbrev pub change_writes : ℕ → ℕ → KeptAccount → List StoreWrite
change_writes office loan a = instalments_put office loan a.state.rows a.change.rows ++ shares_put office loan a.settled
    a.change.seqs
