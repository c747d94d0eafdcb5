use Rattle.mf_ledger.proofs.RunBooks.{all_in_all}
use Rattle.mf_ledger.proofs.laws.all_accounts_come_to_nothing.Goals as goal

pub returns : goal.returns
returns c = λ i meant sound. all_in_all meant i sound
