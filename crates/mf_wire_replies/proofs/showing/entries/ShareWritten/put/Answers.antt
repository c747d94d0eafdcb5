use Rattle.std.proofs.Common.{◌++◌, string_bytes, ◌∙◌}
use Rattle.std.specs.Prelude.{decimal}
use Rattle.serde_json.proofs.OnLiterals.{serde_json_on_literals}
use Rattle.mf_wire_replies.proofs.Pieces.{share_by}
use Rattle.mf_wire_replies.proofs.showing.entries.ShareWritten.put.Goals as goal

pub returns-clause-ok : goal.returns-clause-ok
unfolding serde_json_on_literals
returns-clause-ok c =
    let share = c.args.self.now in
    c.in_ok-write.ensures.bytes
    ∙ (λ i. string_bytes c.args.text.now ++ share_by (decimal share.amount) (decimal share.cell.instalment)
    (c.quoted_portion-portion.ensures i))
