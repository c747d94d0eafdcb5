use Rattle.std.proofs.Common.{◌∙◌}
use Rattle.std.proofs.lemmas.Result.{IfOk-weaker}
use Rattle.std.specs.Prelude.{decimal}
use Rattle.serde_json.proofs.OnLiterals.{serde_json_on_literals}
use Rattle.mf_lists_replies.proofs.Pieces.{client_loan_end_by}
use Rattle.mf_lists_replies.proofs.clients.client_loan_end.Goals as goal

pub returns : goal.returns
unfolding serde_json_on_literals
returns c =
    let line = c.args.line.now in
    IfOk-weaker c.text_in.result _ _ (λ s h. h ∙ (λ i. client_loan_end_by (decimal line.overdue)
    (decimal line.principal) (decimal line.product) (decimal line.status))) c.text_in.ensures.ok
