use Rattle.mf_ledger.proofs.RowLemmas.{one-row}
use Rattle.mf_ledger.proofs.laws.one_row_one_posting.Goals as goal

pub returns : goal.returns
returns c = λ names o q p r is also low high same. one-row names o q p r is also low high same
