use Rattle.std.proofs.Common.{◌∙◌}
use Rattle.std.specs.Prelude.{decimal}
use Rattle.serde_json.proofs.OnLiterals.{serde_json_on_literals}
use Rattle.mf_wire_replies.proofs.Pieces.{body_of}
use Rattle.mf_wire_replies.proofs.showing.loans.loan_body.Goals as goal

pub returns-clause-ok : goal.returns-clause-ok
unfolding serde_json_on_literals
returns-clause-ok c q a e f =
    c.in_ok-body.ensures.ok ∙ (λ i. body_of (e i) (c.in_ok-day.ensures.ok i)
    (decimal c.args.loan.now.balances.disbursement_fee) (f i) (c.in_ok-rest.ensures i))
