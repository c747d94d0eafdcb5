use Rattle.mf_wire.proofs.HeadRefused.{head_refused}
use Rattle.mf_wire.proofs.laws.head_is_refused.Goals as goal

pub returns : goal.returns
returns c = head_refused
