use Rattle.mf_journal.proofs.ChainLemmas.{one_founding}
use Rattle.mf_journal.proofs.laws.one_founding.Goals as goal

pub returns : goal.returns
returns c = one_founding
