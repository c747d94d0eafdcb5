use Rattle.std.proofs.Common.{◌≡◌, ap, string_bytes, ◌∙◌}
use Rattle.std.proofs.lemmas.Result.{IfOk-weaker}
use Rattle.std.specs.Prelude.{decimal}
use Rattle.json.specs.Print.{quoted}
use Rattle.serde_json.proofs.OnLiterals.{serde_json_on_literals}
use Rattle.mf_lists_replies.proofs.Pieces.{stage_end_by}
use Rattle.mf_lists_replies.proofs.stages.stage_end.Goals as goal

pub returns : goal.returns
unfolding serde_json_on_literals
returns c =
    let line = c.args.line.now in
    let name : string_bytes c.in_ok-name.name ≡ quoted line.name = c.in_ok-name.ensures ∙ ap quoted c.as_str.ensures in
    IfOk-weaker c.text_in.result _ _
    (λ s h. h ∙ (λ i. stage_end_by (name i) (decimal line.principal) (decimal line.product))) c.text_in.ensures.ok
