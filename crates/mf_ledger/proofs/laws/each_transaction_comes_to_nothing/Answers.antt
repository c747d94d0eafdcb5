use Rattle.mf_ledger.proofs.RunBooks.{each_nothing}
use Rattle.mf_ledger.proofs.laws.each_transaction_comes_to_nothing.Goals as goal

pub returns : goal.returns
returns c = λ i lines n sound in_range. each_nothing lines n i sound in_range
