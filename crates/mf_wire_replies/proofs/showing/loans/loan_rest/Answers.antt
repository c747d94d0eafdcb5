use Rattle.std.proofs.Common.{◌∙◌}
use Rattle.std.proofs.lemmas.Result.{IfOk-weaker}
use Rattle.std.specs.Prelude.{decimal}
use Rattle.serde_json.proofs.OnLiterals.{serde_json_on_literals}
use Rattle.mf_wire_replies.proofs.Pieces.{rest_of}
use Rattle.mf_wire_replies.proofs.showing.loans.loan_rest.Goals as goal

pub returns : goal.returns
unfolding serde_json_on_literals
returns c =
    let loan = c.args.loan.now in
    IfOk-weaker c.text_in.result _ _ (λ s h. h ∙ (λ i. rest_of (c.in_ok-outstanding.ensures i)
    (decimal loan.balances.overpaid) (c.in_ok-paid.ensures i) (decimal loan.periods) (decimal loan.principal)
    (c.in_ok-end.ensures i))) c.text_in.ensures.ok
