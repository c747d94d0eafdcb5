use Rattle.std.proofs.Common.{◌++◌, string_bytes, ◌∙◌}
use Rattle.std.specs.Prelude.{decimal}
use Rattle.serde_json.proofs.OnLiterals.{serde_json_on_literals}
use Rattle.mf_lists_replies.proofs.Pieces.{client_loan_by}
use Rattle.mf_lists_replies.proofs.clients.ClientLoanListLine.put.Goals as goal

pub returns-clause-ok : goal.returns-clause-ok
unfolding serde_json_on_literals
returns-clause-ok c =
    let line = c.args.self.now in
    c.in_ok-write.ensures.bytes ∙ (λ i. string_bytes c.args.text.now ++ client_loan_by
    (c.in_ok-approved.ensures.ok i) (c.in_ok-disbursed.ensures.ok i) (decimal line.left) (c.in_ok-loan.ensures.ok i)
    (c.in_ok-end.ensures i))
