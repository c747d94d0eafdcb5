use Rattle.std.proofs.Common.{◌≡◌, ◌+◌, ◌++◌, map, drop}
use Rattle.mf_store_values.specs.Flat.{instalment_in, numbered_from}
use Rattle.mf_store_values.proofs.instalment_rows.add_instalments.Given as goal

abbrev pub invariant-loop-row : goal.invariant-loop-row
invariant-loop-row l =
    l.initial.made.items ++ map (instalment_in l.office l.loan) (numbered_from (λ n row. (n, row)) 1 l.rows)
    ≡ l.made.items ++ map (instalment_in l.office l.loan) (numbered_from (λ n row. (n, row)) (l.number + 1)
    (drop l.row-index l.rows))
