use Rattle.mf_ledger.proofs.RunBooks.{longer, each_from}
use Rattle.mf_ledger.proofs.laws.closed_days_never_move.Goals as goal

pub returns-clause-kept : goal.returns-clause-kept
returns-clause-kept c = λ i lines more n. longer lines more n i

pub returns-clause-dated : goal.returns-clause-dated
returns-clause-dated c = λ i lines n tree. each_from lines n i tree
