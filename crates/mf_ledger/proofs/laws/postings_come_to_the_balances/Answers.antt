use Rattle.std.proofs.Common.{refl}
use Rattle.mf_ledger.proofs.RunBooks.{run_moves}
use Rattle.mf_ledger.proofs.laws.postings_come_to_the_balances.Goals as goal

pub returns-clause-since : goal.returns-clause-since
returns-clause-since c = λ i lines n title meant sound in_range. run_moves title meant lines n i sound in_range

pub returns-clause-founding : goal.returns-clause-founding
returns-clause-founding c = λ day title meant. refl
