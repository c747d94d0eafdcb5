use Rattle.mf_ledger_play.proofs.RunLemmas.{last_told}
use Rattle.mf_ledger_play.proofs.laws.run_told_is_the_play.Goals as goal

pub returns : goal.returns
returns c i j lines plays = last_told i j lines plays
