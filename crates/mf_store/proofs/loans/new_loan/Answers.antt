use Rattle.std.proofs.Common.{refl, ap, ◌∙◌}
use Rattle.mf_store_values.specs.Flat.{loan_in}
use Rattle.mf_store_commits.proofs.LoanLemmas.{loan_becomes, loan_suits}
use Rattle.mf_store.proofs.loans.new_loan.Goals as goal

pub returns-clause-carries : goal.returns-clause-carries
returns-clause-carries c i sound admitted here next none =
    let office = c.args.office in
    let loan = c.args.loan in
    let row_is = c.in_ok-row.ensures.row ∙ ap (λ n. loan_in office n loan) next in
    record {
      becomes = loan_becomes office loan i c.in_ok-row.row sound admitted.sound here none row_is;
      spares = (refl, tt);
      suits = loan_suits office loan i sound c.in_ok-row.row row_is;
    }
