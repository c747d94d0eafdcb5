use Rattle.std.proofs.Common.{length, drop}
use Rattle.mf_wire_messages.proofs.BodyLemmas.{rest_told}
use Rattle.mf_wire_messages.proofs.bodies.read_rest.Goals as goal

pub returns-clause-ok : goal.returns-clause-ok
returns-clause-ok g c =
    rest_told _ _ c.in-Ok.n c.args.begun.now c.copy_from_slice.new.self (drop (length c.args.begun.now) c.args.body.now)
    c.fill.new.room c.copy_from_slice.ensures.after c.fill.auto.room c.in-Ok.ensures.within c.in-Ok.ensures.read
    c.in-Ok.ensures.end
