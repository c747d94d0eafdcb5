use Rattle.std.proofs.Common.{◌∙◌}
use Rattle.std.proofs.lemmas.Result.{IfOk-weaker}
use Rattle.std.specs.Prelude.{decimal}
use Rattle.serde_json.proofs.OnLiterals.{serde_json_on_literals}
use Rattle.mf_wire_replies.proofs.Pieces.{end_of}
use Rattle.mf_wire_replies.proofs.showing.loans.loan_end.Goals as goal

pub returns : goal.returns
unfolding serde_json_on_literals
returns c =
    let loan = c.args.loan.now in
    IfOk-weaker c.text_in.result _ _ (λ s h. h ∙ (λ i. end_of (decimal loan.product) (decimal loan.balances.refunded)
    (decimal loan.status) (c.in_ok-waived.ensures i) (c.in_ok-written_off.ensures i))) c.text_in.ensures.ok
