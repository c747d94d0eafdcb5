use Rattle.mf_account.proofs.WithinLemmas.{changes-within}
use Rattle.mf_account.proofs.laws.changes_stay_within_bounds.Goals as goal

pub returns : goal.returns
returns c = changes-within
