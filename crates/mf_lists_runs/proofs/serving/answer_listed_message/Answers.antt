use Rattle.std.proofs.Common.{◌≡◌, true, false, Some, sym, subst, rules}
use Rattle.std.specs.Prelude.{is_some}
use Rattle.mf_model.specs.Calls.{Call}
use Rattle.mf_office.specs.Texts.{caller_of}
use Rattle.mf_wire.specs.Serving.{call_of_message, message_parts, text_response}
use Rattle.mf_wire.proofs.Calling.{message_call}
use Rattle.mf_wire_requests.specs.RequestLine.{parts_now}
use Rattle.mf_wire_requests.specs.Requests.{call_of_parts}
use Rattle.mf_lists_runs.specs.Choice.{asks_list, choice_if, told_response}
use Rattle.mf_lists_runs.specs.Runs.{CallsWith}
use Rattle.mf_lists_runs.proofs.Calling.{asks_unless, plain_calls}
use Rattle.mf_lists_runs.proofs.serving.answer_listed_message.Goals as goal

pub returns-in-Some-clause-calls : goal.returns-in-Some-clause-calls
returns-in-Some-clause-calls g c =
    let told = c.args.desk.now.desk.told in
    let m = c.args.message.now in
    let p = parts_now c.in-Some.parts in
    let there : is_some c.args.desk.now.lists ≡ true = search rules in
    let parts : message_parts told m ≡ Some p = search rules in
    let asked : asks_list (call_of_parts p) ≡ true = search rules in
    let sent : caller_of p.caller ≡ Some c.in-Some.caller = search rules in
    subst (λ b. CallsWith g.S.InstitutionStore (choice_if g.L.Lists.folded b)
    (λ t. text_response c.is_head.result c.list_message_text.result ≡ told_response c.is_head.result t)
    (call_of_message told (Some m)) c.args.store.now c.list_message_text.new.store) (sym there)
    (subst (λ (call : Call). CallsWith g.S.InstitutionStore (Some g.L.Lists.folded)
    (λ t. text_response c.is_head.result c.list_message_text.result ≡ told_response c.is_head.result t) call
    c.args.store.now c.list_message_text.new.store) (sym (message_call told m p parts))
    (c.list_message_text.ensures.calls c.is_head.result asked sent))

pub returns-in-None-clause-calls : goal.returns-in-None-clause-calls
returns-in-None-clause-calls g c =
    let told = c.args.desk.now.desk.told in
    let call = call_of_message told (Some c.args.message.now) in
    let nobody : is_some c.args.desk.now.lists ≡ true → asks_list call ≡ false = search rules in
    plain_calls g.S.InstitutionStore (choice_if g.L.Lists.folded (is_some c.args.desk.now.lists))
    (λ t. text_response c.answer_message.result.to_head c.answer_message.result.text
    ≡ told_response c.answer_message.result.to_head t) call _ _
    (asks_unless g.L.Lists.folded (is_some c.args.desk.now.lists) call nobody) c.answer_message.ensures.calls
