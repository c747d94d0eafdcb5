use Rattle.std.proofs.Common.{◌≡◌, ◌++◌, ap, string_bytes, ◌∙◌}
use Rattle.std.specs.Prelude.{decimal}
use Rattle.json.specs.Print.{quoted}
use Rattle.serde_json.proofs.OnLiterals.{serde_json_on_literals}
use Rattle.mf_office.specs.Written.{account_text}
use Rattle.mf_wire_replies.proofs.Pieces.{loan_line_by}
use Rattle.mf_wire_replies.proofs.showing.loans.LoanLineWritten.put.Goals as goal

pub returns-clause-ok : goal.returns-clause-ok
unfolding serde_json_on_literals
returns-clause-ok c =
    let line = c.args.self.now in
    let loan : string_bytes c.in_ok-loan.loan ≡ quoted (account_text line.loan.office line.loan.number) =
    c.in_ok-loan.ensures ∙ ap quoted (c.as_str.ensures.value ∙ c.in_ok-text.ensures.text) in
    c.in_ok-write.ensures.bytes ∙ (λ i. string_bytes c.args.text.now ++ loan_line_by (loan i) (decimal line.status))
