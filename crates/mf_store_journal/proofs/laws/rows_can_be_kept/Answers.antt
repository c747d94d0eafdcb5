use Rattle.mf_store_journal.proofs.RowsLemmas.{numbers_rise, all_fit}
use Rattle.mf_store_journal.proofs.laws.rows_can_be_kept.Goals as goal

pub returns-clause-rise : goal.returns-clause-rise
returns-clause-rise c = numbers_rise

pub returns-clause-fit : goal.returns-clause-fit
returns-clause-fit c = all_fit
