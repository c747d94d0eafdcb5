use Rattle.std.proofs.Common.{◌∙◌, slice_index}
use Rattle.std.proofs.lemmas.Result.{IfOk-weaker}
use Rattle.std.specs.Prelude.{decimal}
use Rattle.serde_json.proofs.OnLiterals.{serde_json_on_literals}
use Rattle.mf_wire_replies.proofs.Pieces.{sums_by}
use Rattle.mf_wire_replies.proofs.showing.loans.sums_text.Goals as goal

pub returns : goal.returns
unfolding serde_json_on_literals
returns c =
    let sums = c.args.sums.now in
    IfOk-weaker c.text_in.result _ _
    (λ s h. h ∙ (λ i. sums_by (decimal (slice_index sums (c.index.ensures.value i)))
    (decimal (slice_index sums (c.index-2.ensures.value i)))
    (decimal (slice_index sums (c.index-3.ensures.value i)))
    (decimal (slice_index sums (c.index-4.ensures.value i)))))
    c.text_in.ensures.ok
