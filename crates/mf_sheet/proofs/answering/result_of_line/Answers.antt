use Rattle.std.proofs.Common.{◌≡◌, Some, Err, refl, ap, ◌∙◌, subst, rules}
use Rattle.mf_base.specs.declared.fault.Fault.TheVariants.{F20}
use Rattle.mf_model.specs.Calls.{Received}
use Rattle.mf_model.specs.declared.request.Request.{Request}
use Rattle.mf_sheet.specs.Lines.{received_of_line, result_of_success, call_of_line, result_of, outcome_of}
use Rattle.mf_desk.specs.Runs.{Calls}
use Rattle.mf_desk.proofs.Calling.{told_of_answer, told_given_up}
use Rattle.mf_sheet.proofs.answering.result_of_line.Goals as goal

pub returns-in_default : goal.returns-in_default
returns-in_default g c =
    told_given_up g.S.InstitutionStore (λ r. outcome_of (Err F20) ≡ result_of r)
    (call_of_line c.args.told.now c.args.caller c.args.line.now) c.args.store.now
    (g.met.S.InstitutionStore.more c.args.store.now) refl

pub returns : goal.returns
returns g c =
    subst (λ (q : Request). Calls g.S.InstitutionStore (λ r. outcome_of c.answer.result ≡ result_of r)
    (record { caller = Some c.args.caller; request = q; received = received_of_line c.args.told.now c.args.line.now })
    c.args.store.now c.answer.new.store)
    c.in-Ok.ensures.value
    (subst (λ (x : Received). Calls g.S.InstitutionStore (λ r. outcome_of c.answer.result ≡ result_of r)
    (record { caller = Some c.args.caller; request = c.in-Ok.request; received = x })
    c.args.store.now c.answer.new.store)
    c.text_of.ensures
    (told_of_answer _ _ (λ r. outcome_of c.answer.result ≡ result_of r) _ _ _ c.answer.result
    (λ t r e h. let w : t ≡ result_of_success h.0.now = search rules in ap outcome_of e ∙ w ∙ ap result_of_success h.2)
    (λ f e. ap outcome_of e)
    (λ r f h. let w : f ≡ F20 = search rules in w)
    c.answer.ensures.told c.answer.ensures.changes))
