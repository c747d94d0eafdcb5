use Rattle.mf_wire.proofs.Responses.{answered_request, answered_without_room}
use Rattle.mf_wire.proofs.serving.answer_arrival.Goals as goal

pub returns-in-Received-clause-answered : goal.returns-in-Received-clause-answered
returns-in-Received-clause-answered g c = λ bytes t.
    answered_request _ c.args.desk.now.told bytes c.in-Received.message _ _ _ _ c.answer_message.ensures.to_head
    c.answer_message.ensures.calls (rw c.in-Received.is at t)

pub returns-in-NoRoom-clause-answered : goal.returns-in-NoRoom-clause-answered
returns-in-NoRoom-clause-answered g c = λ bytes t.
    answered_without_room _ c.args.desk.now.told bytes c.in-NoRoom.to_head c.args.store.now
    (g.met.S.InstitutionStore.more c.args.store.now)
    (rw c.in-NoRoom.is at t)
