use Rattle.mf_journal.proofs.ChainLemmas.{one_chain}
use Rattle.mf_journal.proofs.laws.one_chain_one_journal.Goals as goal

pub returns : goal.returns
returns c = one_chain
