use Rattle.std.proofs.Common.{◌++◌, string_bytes, ◌∙◌}
use Rattle.serde_json.proofs.OnLiterals.{serde_json_on_literals}
use Rattle.mf_lists_replies.proofs.Pieces.{taking_by}
use Rattle.mf_lists_replies.proofs.takings.TakingListLine.put.Goals as goal

pub returns-clause-ok : goal.returns-clause-ok
unfolding serde_json_on_literals
returns-clause-ok c =
    c.in_ok-write.ensures.bytes ∙ (λ i. string_bytes c.args.text.now ++ taking_by (c.in_ok-in_reversed.ensures i)
    (c.in_ok-out_reversed.ensures i) (c.in_ok-end.ensures.ok i))
