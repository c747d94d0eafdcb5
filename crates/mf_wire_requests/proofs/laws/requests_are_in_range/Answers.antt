use Rattle.mf_wire_requests.proofs.InRange.{request_in_range, parts_in_range, maybe_in_range}
use Rattle.mf_wire_requests.proofs.InRange.{line_in_range}
use Rattle.mf_wire_requests.proofs.laws.requests_are_in_range.Goals as goal

pub returns-clause-requests : goal.returns-clause-requests
returns-clause-requests c = request_in_range

pub returns-clause-parts : goal.returns-clause-parts
returns-clause-parts c = parts_in_range

pub returns-clause-messages : goal.returns-clause-messages
returns-clause-messages c = λ caller parts. maybe_in_range parts

pub returns-clause-lines : goal.returns-clause-lines
returns-clause-lines c = line_in_range
