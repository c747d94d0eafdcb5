use Rattle.mf_alloc.proofs.PaidLemmas.{paid-by_cells}
use Rattle.mf_alloc.proofs.laws.payments_go_by_cells.Goals as goal

pub returns : goal.returns
returns c = paid-by_cells
