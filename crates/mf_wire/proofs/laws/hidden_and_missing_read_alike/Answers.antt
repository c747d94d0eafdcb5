use Rattle.std.proofs.Common.{sym, ap, ◌∙◌}
use Rattle.mf_model.specs.Calls.{Call}
use Rattle.mf_model.specs.Desk.{reply}
use Rattle.mf_wire_replies.specs.Shown.{shown_line}
use Rattle.mf_wire.specs.Serving.{shown_response}
use Rattle.mf_wire.proofs.laws.hidden_and_missing_read_alike.Goals as goal

pub returns-clause-lines : goal.returns-clause-lines
returns-clause-lines c = λ asked a b caller r s i told line other u v e f.
    ap (λ (call : Call). shown_line (reply call i)) e
    ∙ ap shown_line (c.hidden_is_missing.ensures.same asked a b caller r s i u v)
    ∙ sym (ap (λ (call : Call). shown_line (reply call i)) f)

pub returns-clause-messages : goal.returns-clause-messages
returns-clause-messages c = λ asked a b caller r s i told message other to_head u v e f.
    ap (λ (call : Call). shown_response to_head (reply call i)) e
    ∙ ap (shown_response to_head) (c.hidden_is_missing.ensures.same asked a b caller r s i u v)
    ∙ sym (ap (λ (call : Call). shown_response to_head (reply call i)) f)
