use Rattle.std.proofs.Common.{◌≡◌, ◌∙◌, arith, rules}
use Rattle.std.proofs.lemmas.Bool.Decides.{nat_tests}
use Rattle.std.proofs.lemmas.Int.{to_z-of_z}
use mir.Syntax.{w64}
use mir.Val.{SFits}
use Rattle.mf_store_sound.proofs.LoanLemmas.{loan_row_is}
use Rattle.mf_store_sound.proofs.loans.is_row_of_loan.Goals as goal
use Rattle.mf_store_sound.proofs.loans.is_row_of_loan.Goals.{then-row-office, else-row-office}

pub returns-then-row-number : goal.returns-then-row-number
returns-then-row-number c =
    let row = c.args.row.now in
    let a = c.in-Some in
    let fits : SFits w64 c.args.row.now.principal = search rules in
    let same : (c.args.row.now.office ≡ c.args.office) × (c.args.row.now.number ≡ c.args.number) =
    elim c.if-row-office.branch [
      | then-row-office w ↦ grind (arith, nat_tests)
      | else-row-office w ↦ grind (
        arith,
        nat_tests,
      )
    ] in
    loan_row_is c.args.today c.args.office c.args.number a.field-0 row c.is_stage.result same.0 same.1 (a.ensures.some
    ∙ to_z-of_z w64 row.principal fits) c.is_stage.ensures
