use Rattle.mf_lists_runs.proofs.Views.{told_view}
use Rattle.mf_lists_runs.proofs.laws.what_is_told_is_read_off_the_view.Goals as goal

pub returns : goal.returns
returns c = told_view
