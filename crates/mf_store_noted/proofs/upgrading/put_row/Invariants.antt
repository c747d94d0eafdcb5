use Rattle.std.proofs.Common.{take}
use Rattle.std.specs.List.{AllByRecursion}
use Rattle.mf_store_noted.specs.Fitting.{FitsValue}
use Rattle.mf_store_noted.specs.Upgrading.{TakesIn, row_text}
use Rattle.mf_store_noted.proofs.upgrading.put_row.Given as goal

abbrev pub invariant-loop-column : goal.invariant-loop-column
invariant-loop-column l = TakesIn l.fn.hasher l.hasher (row_text (take l.column l.row))
    × AllByRecursion FitsValue (take l.column l.row)
