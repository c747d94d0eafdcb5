use Rattle.mf_ledger.proofs.RunBooks.{day_end}
use Rattle.mf_ledger.proofs.laws.postings_up_to_a_day_come_to_its_balances.Goals as goal

pub returns : goal.returns
returns c = λ i lines n day title meant sound in_range. day_end title meant day lines n i sound in_range
