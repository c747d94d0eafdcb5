use Rattle.mf_wire_messages.proofs.MessageLemmas.{one_message}
use Rattle.mf_wire_messages.proofs.laws.one_message.Goals as goal

pub returns : goal.returns
returns c = one_message
