use Rattle.std.proofs.Common.{◌∙◌}
use Rattle.std.proofs.lemmas.Result.{IfOk-weaker}
use Rattle.std.specs.Prelude.{decimal}
use Rattle.serde_json.proofs.OnLiterals.{serde_json_on_literals}
use Rattle.mf_lists_replies.proofs.Pieces.{counted_by}
use Rattle.mf_lists_replies.proofs.takings.counted_text.Goals as goal

pub returns : goal.returns
unfolding serde_json_on_literals
returns c =
    IfOk-weaker c.text_in.result _ _
    (λ s h. h ∙ (λ i. counted_by (decimal c.args.counted.count) (decimal c.args.counted.sum))) c.text_in.ensures.ok
