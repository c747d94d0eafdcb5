use Rattle.std.proofs.Common.{◌∙◌}
use Rattle.mf_store_values.specs.Flat.{loan_in}
use Rattle.mf_store_values.proofs.loans.loan_in_row.Goals as goal

pub returns-clause-loan : goal.returns-clause-loan
returns-clause-loan c office number l are =
    let found = c.in_ok-found.ensures.row (loan_in office number l) are in
    let o = c.in_ok-office.ensures.number ∙ (λ t. (found t).office) in
    let n = c.in_ok-number.ensures.number ∙ (λ t. (found t).number) in
    (λ t. record { office = o t; number = n t }, c.in_ok-loan.ensures.loan office number l found)
