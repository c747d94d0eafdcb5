use Rattle.std.proofs.Common.{◌≡◌, true, rules}
use Rattle.mf_wire_requests.specs.RequestLine.{parts_now, is_token}
use Rattle.mf_wire_requests.specs.Requests.{call_of_parts}
use Rattle.mf_wire.proofs.Calling.{sent_parts, told_as, refused_at_once}
use Rattle.mf_wire.proofs.answering.answer_parts.Goals as goal

pub returns-clause-told : goal.returns-clause-told
returns-clause-told g c =
    let p = parts_now c.args.parts in
    let t : is_token p.method ≡ true = search rules in
    told_as _ _ _ _ _ _ _ (sent_parts p c.in-Some.caller c.in_ok-request.request c.in-Some.ensures.value t
    c.in_ok-request.ensures.ok) c.answer.ensures.told

pub returns-in_err-request-clause-changes : goal.returns-in_err-request-clause-changes
returns-in_err-request-clause-changes g c =
    refused_at_once g.S.InstitutionStore (call_of_parts (parts_now c.args.parts)) c.args.store.now
    c.from_residual.result g.met.S.InstitutionStore.more c.from_residual.ensures.0
