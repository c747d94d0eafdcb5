use Rattle.mf_wire_messages.specs.Responses.{fields_and_body}
use Rattle.mf_wire_messages.proofs.responses.gather_fields_and_body.Goals as goal

pub returns-clause-ok : goal.returns-clause-ok
unfolding fields_and_body
returns-clause-ok g c =
    rw (c.as_bytes.ensures.value, c.format.ensures.text, c.body_sent.ensures) at c.gather_four.ensures.ok

pub returns-clause-err : goal.returns-clause-err
unfolding fields_and_body
returns-clause-err g c =
    rw (c.as_bytes.ensures.value, c.format.ensures.text, c.body_sent.ensures) at c.gather_four.ensures.err
