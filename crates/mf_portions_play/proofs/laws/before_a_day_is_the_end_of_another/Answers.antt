use Rattle.mf_portions_play.proofs.EndsLemmas.{end_of_day_before}
use Rattle.mf_portions_play.proofs.laws.before_a_day_is_the_end_of_another.Goals as goal

pub returns : goal.returns
returns c day lines i = end_of_day_before day lines i
