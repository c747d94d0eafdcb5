use Rattle.std.proofs.Common.{◌∙◌, take, refl, inl}
use Rattle.mf_wire_messages.proofs.MessageLemmas.{nonempty_front, together, written}
use Rattle.mf_wire_messages.proofs.reading.read_message.Goals as goal

pub returns-in-Refused-clause-ok : goal.returns-in-Refused-clause-ok
returns-in-Refused-clause-ok g c = let t =
    rw c.in-Refused.is at c.in-Ok-read_head.ensures.ok in (t.0, t.1, inl (nonempty_front _ _ t.2, t.3, refl))

pub returns-in-Ok-read_request-clause-ok : goal.returns-in-Ok-read_request-clause-ok
returns-in-Ok-read_request-clause-ok g c =
    let t = rw c.in-Complete.is at c.in-Ok-read_head.ensures.ok in
    together _ _ _ (take c.in-Complete.size c.read_head.new.room) c.in-Ok-read_request.arrival t.1
    (rw (
      c.truncate.ensures.items,
      written c.in-Ok.head.len c.read_head.new.room c.in-Ok.head.items
          (c.read_head.auto.room ∙ c.as_mut_slice.ensures.len),
    ) at c.in-Ok-read_request.ensures.ok)
