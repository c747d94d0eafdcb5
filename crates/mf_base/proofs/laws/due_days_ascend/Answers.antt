use Rattle.mf_base.proofs.DueDayLemmas.{day_after-none, day_after-lt}
use Rattle.mf_base.proofs.laws.due_days_ascend.Goals as goal

pub returns-clause-none : goal.returns-clause-none
returns-clause-none c = day_after-none

pub returns-clause-more : goal.returns-clause-more
returns-clause-more c = day_after-lt
