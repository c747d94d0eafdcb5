use Rattle.std.proofs.Common.{◌≡◌, Ok, Err, refl, sym, ap, ◌∙◌, subst, rules}
use Rattle.std.specs.Prelude.{string_bytes}
use Rattle.mf_base.specs.declared.fault.Fault.TheVariants.{F20}
use Rattle.mf_wire_replies.specs.Shown.{reply_status, reply_body, IsReplyText}
use Rattle.mf_wire.proofs.Calling.{told_of_answer}
use Rattle.mf_wire.proofs.answering.answer_text_parts.Goals as goal

pub returns-clause-calls : goal.returns-clause-calls
returns-clause-calls g c =
    told_of_answer _ _ (λ r. IsReplyText c.answer_parts.result r) _ _ _ c.answer_parts.result
    (λ t r e h.
    let w : (t.0 ≡ reply_status h.0.now) × (string_bytes t.1 ≡ reply_body h.0.now) = search rules in
    subst (λ x. IsReplyText x (Ok r)) (sym e) (w.0 ∙ ap reply_status h.2, w.1 ∙ ap reply_body h.2))
    (λ f e. subst (λ x. IsReplyText x (Err f)) (sym e) refl)
    (λ r f h. let w : f ≡ F20 = search rules in w)
    c.answer_parts.ensures.told c.answer_parts.ensures.changes
