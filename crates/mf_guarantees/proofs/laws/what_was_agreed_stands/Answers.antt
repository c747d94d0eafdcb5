use Rattle.mf_guarantees.proofs.AgreedLemmas.{agreed_stands, agreed_kept}
use Rattle.mf_guarantees.proofs.laws.what_was_agreed_stands.Goals as goal

pub returns-clause-schedule : goal.returns-clause-schedule
returns-clause-schedule c = agreed_stands

pub returns-clause-kept : goal.returns-clause-kept
returns-clause-kept c = agreed_kept
