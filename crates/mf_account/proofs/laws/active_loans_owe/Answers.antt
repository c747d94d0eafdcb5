use Rattle.mf_account.proofs.ActiveLemmas.{active-where_open}
use Rattle.mf_account.proofs.laws.active_loans_owe.Goals as goal

pub returns : goal.returns
returns c = active-where_open
