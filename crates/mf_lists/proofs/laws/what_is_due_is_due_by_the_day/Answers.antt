use Rattle.mf_lists.proofs.ListLemmas.{due-by_day}
use Rattle.mf_lists.proofs.laws.what_is_due_is_due_by_the_day.Goals as goal

pub returns : goal.returns
returns c = due-by_day
