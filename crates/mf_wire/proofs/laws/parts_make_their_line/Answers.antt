use Rattle.mf_wire.proofs.Sendable.{parts_sent}
use Rattle.mf_wire.proofs.laws.parts_make_their_line.Goals as goal

pub returns : goal.returns
returns c = parts_sent
