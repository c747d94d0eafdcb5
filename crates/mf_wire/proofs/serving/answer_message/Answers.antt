use Rattle.std.proofs.Common.{◌≡◌}
use Rattle.mf_wire_replies.specs.Shown.{IsReplyText}
use Rattle.mf_wire.specs.Serving.{shown_response, text_response}
use Rattle.mf_wire.proofs.Alone.{text_is_shown}
use Rattle.mf_wire.proofs.Calling.{calls_weaker}
use Rattle.mf_wire.proofs.serving.answer_message.Goals as goal

pub returns-clause-calls : goal.returns-clause-calls
returns-clause-calls g c =
    calls_weaker g.S.InstitutionStore (IsReplyText c.answer_message_text.result)
    (λ r. text_response c.is_head.result c.answer_message_text.result ≡ shown_response c.is_head.result r) _ _ _
    (λ r. text_is_shown c.is_head.result c.answer_message_text.result r) c.answer_message_text.ensures.calls
