use Rattle.std.proofs.Common.{◌++◌, string_bytes, ◌∙◌}
use Rattle.serde_json.proofs.OnLiterals.{serde_json_on_literals}
use Rattle.mf_lists_replies.proofs.Pieces.{change_by}
use Rattle.mf_lists_replies.proofs.changes.ChangeLineListLine.put.Goals as goal

pub returns-clause-ok : goal.returns-clause-ok
unfolding serde_json_on_literals
returns-clause-ok c =
    c.in_ok-write.ensures.bytes ∙ (λ i. string_bytes c.args.text.now ++ change_by (c.in_ok-body.ensures.ok i)
    (c.in_ok-day.ensures.ok i) (c.in_ok-loan.ensures.ok i) (c.in_ok-method.ensures.ok i) (c.in_ok-end.ensures.ok i))
