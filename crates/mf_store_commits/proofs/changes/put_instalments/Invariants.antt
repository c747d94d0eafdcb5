use Rattle.std.proofs.Common.{◌≡◌, ℕ, ◌++◌, map, take}
use Rattle.mf_alloc.specs.Rows.{row_at}
use Rattle.mf_store_schema.specs.declared.writes.StoreWrite.TheVariants.{PutInstalment}
use Rattle.mf_store_values.specs.Flat.{instalment_in}
use Rattle.mf_store_commits.proofs.changes.put_instalments.Given as goal

abbrev pub invariant-loop-number : goal.invariant-loop-number
invariant-loop-number l = l.writes.items ≡ l.initial.writes.items
    ++ map (λ (n : ℕ). PutInstalment (instalment_in l.office l.loan (n, row_at l.rows n)))
    (take l.number-index l.numbers)
