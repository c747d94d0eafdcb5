use Rattle.mf_play.proofs.Received.{parts_received, message_received, line_received, lines_received}
use Rattle.mf_play.proofs.laws.texts_are_as_received.Goals as goal

pub returns-clause-parts : goal.returns-clause-parts
returns-clause-parts c = parts_received

pub returns-clause-messages : goal.returns-clause-messages
returns-clause-messages c = message_received

pub returns-clause-lines : goal.returns-clause-lines
returns-clause-lines c = line_received

pub returns-clause-runs : goal.returns-clause-runs
returns-clause-runs c = lines_received
