use Rattle.mf_portions_play.proofs.EndsLemmas.{plays_before, stops_at}
use Rattle.mf_portions_play.proofs.laws.what_plays_before_a_day_is_part_of_the_play.Goals as goal

pub returns-clause-plays : goal.returns-clause-plays
returns-clause-plays c until lines i j p = plays_before until lines i j p

pub returns-clause-stops : goal.returns-clause-stops
returns-clause-stops c until lines i place why s = stops_at until lines i place why s
