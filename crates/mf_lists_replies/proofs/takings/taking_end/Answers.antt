use Rattle.std.proofs.Common.{◌∙◌}
use Rattle.serde_json.proofs.OnLiterals.{serde_json_on_literals}
use Rattle.mf_lists_replies.proofs.Pieces.{taking_end_by}
use Rattle.mf_lists_replies.proofs.takings.taking_end.Goals as goal

pub returns-clause-ok : goal.returns-clause-ok
unfolding serde_json_on_literals
returns-clause-ok c =
    c.in_ok-end.ensures.ok ∙ (λ i. taking_end_by (c.in_ok-paid_in.ensures i) (c.in_ok-paid_out.ensures i)
    (c.in_ok-staff.ensures.ok i))
