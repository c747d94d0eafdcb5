use Rattle.std.specs.Prelude.{is_some}
use Rattle.mf_lists_runs.specs.Choice.{choice_if}
use Rattle.mf_lists_runs.proofs.Responses.{answered_request, answered_malformed, answered_without_room}
use Rattle.mf_lists_runs.proofs.serving.answer_arrival.Goals as goal

pub returns-in-Received-clause-answered : goal.returns-in-Received-clause-answered
returns-in-Received-clause-answered g c = λ bytes t.
    answered_request _ (choice_if g.L.Lists.folded (is_some c.args.desk.now.lists)) c.args.desk.now.desk.told bytes
    c.in-Received.message _ _ _ _ c.answer_listed_message.ensures.to_head c.answer_listed_message.ensures.calls
    (rw c.in-Received.is at t)

pub returns-in-Malformed-clause-answered : goal.returns-in-Malformed-clause-answered
returns-in-Malformed-clause-answered g c = λ bytes t.
    answered_malformed _ (choice_if g.L.Lists.folded (is_some c.args.desk.now.lists)) c.args.desk.now.desk.told bytes
    c.in-Malformed.to_head c.args.store.now (rw c.in-Malformed.is at t)

pub returns-in-NoRoom-clause-answered : goal.returns-in-NoRoom-clause-answered
returns-in-NoRoom-clause-answered g c = λ bytes t.
    answered_without_room _ (choice_if g.L.Lists.folded (is_some c.args.desk.now.lists)) c.args.desk.now.desk.told bytes
    c.in-NoRoom.to_head c.args.store.now (g.met.S.InstitutionStore.more c.args.store.now) (rw c.in-NoRoom.is at t)
