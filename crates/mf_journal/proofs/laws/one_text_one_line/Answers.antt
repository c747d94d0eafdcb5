use Rattle.mf_journal.proofs.ChainLemmas.{one_text}
use Rattle.mf_journal.proofs.laws.one_text_one_line.Goals as goal

pub returns : goal.returns
returns c = one_text
