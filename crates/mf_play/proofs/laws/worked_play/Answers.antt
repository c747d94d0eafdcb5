use Rattle.mf_play.proofs.WorkedLemmas.{plays, stops}
use Rattle.mf_play.proofs.laws.worked_play.Goals as goal

pub returns-clause-plays : goal.returns-clause-plays
returns-clause-plays c = plays

pub returns-clause-stops : goal.returns-clause-stops
returns-clause-stops c = stops
