use Rattle.mf_ledger.proofs.RunBooks.{spans_meet}
use Rattle.mf_ledger.proofs.laws.spans_that_meet_come_to_the_whole.Goals as goal

pub returns : goal.returns
returns c = λ ts first middle last title meant low high. spans_meet title meant first middle last ts low high
