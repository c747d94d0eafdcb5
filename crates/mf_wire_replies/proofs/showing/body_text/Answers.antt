use Rattle.std.proofs.Common.{ap, subst, ◌∙◌}
use Rattle.serde_json.specs.Written.{has_float}
use Rattle.mf_wire_replies.specs.Shown.{IsBodyOf}
use Rattle.mf_wire_replies.proofs.Whole.{whole_reply}
use Rattle.mf_wire_replies.proofs.showing.body_text.Goals as goal

pub text_of-requires : goal.text_of-requires
text_of-requires c = ap has_float (subst (λ b. IsBodyOf c.args.reply.now b) c.in-Value.is c.in_ok-body.ensures.ok)
    ∙ whole_reply c.args.reply.now
