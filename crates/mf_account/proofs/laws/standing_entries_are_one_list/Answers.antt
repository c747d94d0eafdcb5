use Rattle.mf_account.proofs.StandingIsOne.{standing-is-one}
use Rattle.mf_account.proofs.laws.standing_entries_are_one_list.Goals as goal

pub returns : goal.returns
returns c = standing-is-one
