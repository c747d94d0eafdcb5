use Rattle.std.proofs.Common.{Some, None, Err, cond, ap, sym, ◌∙◌}
use Rattle.mf_base.specs.declared.fault.Fault.TheVariants.{F2, F3}
use Rattle.mf_model.specs.Calls.{nothing_received}
use Rattle.mf_model.specs.Desk.{outcome}
use Rattle.mf_model.specs.Store.{role_of}
use Rattle.mf_desk.specs.Answers.{request_outcome}
use Rattle.mf_model.specs.Unseen.{call_from}
use Rattle.mf_desk.proofs.Decisions.{none_there, then_decides, then_refuses, sent_unknown, sent_known}
use Rattle.mf_desk.proofs.answering.decide.Goals as goal

pub returns-in_default-2-clause-decides : goal.returns-in_default-2-clause-decides
returns-in_default-2-clause-decides g c =
    let s = g.S.InstitutionStore in
    then_refuses s (role_of c.args.caller.now)
    (outcome (call_from c.args.caller.now c.args.request nothing_received)) c.args.store.now
    c.caller.new.self None F2
    (rw (none_there c.in_ok-role.field-0 c.in_default-2.not-Some) at c.in_ok-role.ensures)
    (λ i e. sent_unknown c.args.caller.now c.args.request i c.in_default.not-Unreadable e)

pub returns-then-not-may_send-clause-decides : goal.returns-then-not-may_send-clause-decides
returns-then-not-may_send-clause-decides g c =
    let s = g.S.InstitutionStore in
    then_refuses s (role_of c.args.caller.now)
    (outcome (call_from c.args.caller.now c.args.request nothing_received)) c.args.store.now
    c.caller.new.self (Some c.in-Some.role) F3
    (rw c.in-Some.is at c.in_ok-role.ensures)
    (λ i e. sent_known c.args.caller.now c.args.request c.in-Some.role i c.in_default.not-Unreadable e
    ∙ ap (λ b. cond b (request_outcome c.args.caller.now c.args.request i) (Err F3)) (sym c.may_send.ensures
    ∙ c.if-not-may_send.true))

pub returns-clause-decides : goal.returns-clause-decides
returns-clause-decides g c =
    let s = g.S.InstitutionStore in
    then_decides s (role_of c.args.caller.now) (outcome (call_from c.args.caller.now c.args.request nothing_received))
    (request_outcome c.args.caller.now c.args.request) c.args.store.now c.caller.new.self c.act.new.store
    (Some c.in-Some.role) c.act.result
    (rw c.in-Some.is at c.in_ok-role.ensures)
    (λ i e. sent_known c.args.caller.now c.args.request c.in-Some.role i c.in_default.not-Unreadable e
    ∙ ap (λ b. cond b (request_outcome c.args.caller.now c.args.request i) (Err F3)) (sym c.may_send.ensures
    ∙ c.if-not-may_send.false))
    c.act.ensures.decides
