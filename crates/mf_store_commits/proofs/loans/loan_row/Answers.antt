use Rattle.std.proofs.Common.{rules}
use Rattle.std.proofs.lemmas.Int.{to_z-of_z}
use mir.Syntax.{w64}
use mir.Val.{SFits}
use Rattle.mf_store_commits.proofs.loans.loan_row.Goals as goal

pub returns-clause-row : goal.returns-clause-row
returns-clause-row c =
    let fits : SFits w64 c.in_ok-principal.principal = search rules in
    let cents = to_z-of_z w64 c.in_ok-principal.principal fits in
    cc (cents, c.in_ok-principal.ensures.amount, c.in_ok-approved.ensures.text, c.in_ok-disbursed.ensures.text)
