use Rattle.std.proofs.Common.{◌∙◌, slice_index}
use Rattle.std.proofs.lemmas.Result.{IfOk-weaker}
use Rattle.std.specs.Prelude.{decimal}
use Rattle.serde_json.proofs.OnLiterals.{serde_json_on_literals}
use Rattle.mf_wire_replies.proofs.Pieces.{instalment_rest_by}
use Rattle.mf_wire_replies.proofs.showing.account.instalment_rest.Goals as goal

pub returns : goal.returns
unfolding serde_json_on_literals
returns c =
    let line = c.args.line.now in
    IfOk-weaker c.text_in.result _ _
    (λ s h. h ∙ (λ i. instalment_rest_by (decimal line.outstanding)
    (decimal (slice_index line.owed (c.index.ensures.value i)))
    (decimal (slice_index line.owed (c.index-2.ensures.value i)))))
    c.text_in.ensures.ok
