use Rattle.mf_account.proofs.OpenLemmas.{open-holds_nothing}
use Rattle.mf_account.proofs.laws.open_loans_hold_no_money.Goals as goal

pub returns : goal.returns
returns c = open-holds_nothing
