use Rattle.std.proofs.Common.{◌++◌, take, length, flat_map}
use Rattle.std.specs.List.{AllByRecursion}
use Rattle.mf_journal.specs.Chain.{number_text}
use Rattle.sqlite.specs.Order.{Row}
use Rattle.mf_store_noted.specs.Fitting.{FitsValue}
use Rattle.mf_store_noted.specs.Upgrading.{TakesIn, row_text}
use Rattle.mf_store_noted.proofs.upgrading.put_rows.Given as goal

abbrev pub invariant-loop-row : goal.invariant-loop-row
invariant-loop-row l = TakesIn l.fn.hasher l.hasher
    (number_text (length l.rows) ++ flat_map row_text (take l.row-index l.rows))
    × AllByRecursion (λ (row : Row). AllByRecursion FitsValue row) (take l.row-index l.rows)
