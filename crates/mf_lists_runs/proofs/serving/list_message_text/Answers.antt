use Rattle.std.specs.Prelude.{◌≡◌}
use Rattle.mf_lists_runs.specs.Choice.{told_response}
use Rattle.mf_wire.specs.Serving.{text_response}
use Rattle.mf_wire_requests.specs.RequestLine.{parts_now}
use Rattle.mf_wire_requests.specs.Requests.{call_of_parts}
use Rattle.mf_lists_runs.proofs.Calling.{list_answered}
use Rattle.mf_lists_runs.proofs.serving.list_message_text.Goals as goal

pub returns-clause-calls : goal.returns-clause-calls
returns-clause-calls g c = λ to_head asked sent.
    list_answered g.S.InstitutionStore g.L.Lists.folded
    (λ t. text_response to_head c.text_of_list.result ≡ told_response to_head t)
    (call_of_parts (parts_now c.args.parts.now)) c.args.caller c.args.store.now c.answer_list-told.new.store
    c.answer_list-told.result asked sent c.answer_list-told.ensures.told (c.text_of_list.ensures.text to_head) (λ t. t)

pub returns-clause-refusal : goal.returns-clause-refusal
returns-clause-refusal g c = c.text_of_list.ensures.refusal c.answer_list-told.ensures.refusal
