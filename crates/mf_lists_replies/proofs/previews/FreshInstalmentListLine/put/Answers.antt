use Rattle.std.proofs.Common.{◌++◌, string_bytes, ◌∙◌}
use Rattle.std.specs.Prelude.{decimal}
use Rattle.serde_json.proofs.OnLiterals.{serde_json_on_literals}
use Rattle.mf_lists_replies.proofs.Pieces.{instalment_by}
use Rattle.mf_lists_replies.proofs.previews.FreshInstalmentListLine.put.Goals as goal

pub returns-clause-ok : goal.returns-clause-ok
unfolding serde_json_on_literals
returns-clause-ok c =
    let row = c.args.self.now in
    c.in_ok-write.ensures.bytes ∙ (λ i. string_bytes c.args.text.now ++ instalment_by (c.in_ok-due.ensures.ok i)
    (decimal row.fees) (decimal row.interest) (decimal row.principal))
