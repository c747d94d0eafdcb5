use Rattle.mf_wire_messages.specs.Responses.{status_line}
use Rattle.mf_wire_messages.proofs.responses.gather_status_line.Goals as goal

pub returns-clause-ok : goal.returns-clause-ok
unfolding status_line
returns-clause-ok g c = rw (
  c.as_bytes.ensures.value,
  c.format.ensures.text,
  c.as_bytes-2.ensures.value,
  c.phrase.ensures,
) at c.gather_four.ensures.ok

pub returns-clause-err : goal.returns-clause-err
unfolding status_line
returns-clause-err g c = rw (
  c.as_bytes.ensures.value,
  c.format.ensures.text,
  c.as_bytes-2.ensures.value,
  c.phrase.ensures,
) at c.gather_four.ensures.err
