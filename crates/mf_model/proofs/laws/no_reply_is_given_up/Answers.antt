use Rattle.mf_model.proofs.Refusals.{no_reply_is_given_up}
use Rattle.mf_model.proofs.laws.no_reply_is_given_up.Goals as goal

pub returns : goal.returns
returns c = no_reply_is_given_up
