use Rattle.mf_guarantees.proofs.OnePenaltyLemmas.{founded_alone, run_alone}
use Rattle.mf_guarantees.proofs.laws.no_instalment_bears_two_penalties.Goals as goal

pub returns-clause-founded : goal.returns-clause-founded
returns-clause-founded c = founded_alone

pub returns-clause-kept : goal.returns-clause-kept
returns-clause-kept c = λ i lines t alone. run_alone lines i t alone
