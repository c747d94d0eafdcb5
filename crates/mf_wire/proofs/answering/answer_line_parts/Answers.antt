use Rattle.std.proofs.Common.{◌≡◌, ap, ◌∙◌, rules}
use Rattle.std.specs.Prelude.{string_bytes}
use Rattle.mf_base.specs.declared.fault.Fault.TheVariants.{F20}
use Rattle.mf_wire_lines.specs.Replies.{reply_line_of, reply_line}
use Rattle.mf_wire_replies.specs.Shown.{reply_status, reply_body, shown_line}
use Rattle.mf_wire.proofs.Calling.{told_of_answer}
use Rattle.mf_wire.proofs.answering.answer_line_parts.Goals as goal

pub returns-clause-calls : goal.returns-clause-calls
returns-clause-calls g c =
    told_of_answer _ _ (λ r. reply_line_of c.answer_parts.result ≡ shown_line r) _ _ _ c.answer_parts.result
    (λ t r e h. let w : string_bytes t ≡ reply_line (reply_status h.0.now) (reply_body h.0.now) = search rules in
    ap reply_line_of e ∙ w ∙ ap (λ x. reply_line (reply_status x) (reply_body x)) h.2)
    (λ f e. ap reply_line_of e)
    (λ r f h. let w : f ≡ F20 = search rules in w)
    c.answer_parts.ensures.told c.answer_parts.ensures.changes
