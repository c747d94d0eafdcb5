use Rattle.mf_account.proofs.ClearingLemmas.{writes-off_by_cells, waives-one_cell}
use Rattle.mf_account.proofs.laws.clearing_goes_by_cells.Goals as goal

pub returns-clause-write_off : goal.returns-clause-write_off
returns-clause-write_off c = writes-off_by_cells

pub returns-clause-waiver : goal.returns-clause-waiver
returns-clause-waiver c = waives-one_cell
