use Rattle.std.proofs.Common.{false}
use Rattle.std.specs.Fn.{FnReturnsAt}
use Rattle.mf_store_audit.proofs.PlaceLemmas.{SaidTo}
use Rattle.mf_store_audit.proofs.rows.find_row.Given as goal

abbrev pub invariant-loop-row : goal.invariant-loop-row
invariant-loop-row g l = SaidTo (λ row. FnReturnsAt g.F.Fn l.passes row false) l.rows l.row-index
