use Rattle.std.proofs.Common.{◌≡◌, None, Some, sym, ap, ◌∙◌, rules}
use Rattle.mf_model.specs.Institution.{item_numbered}
use Rattle.mf_model.specs.Store.{rows_at}
use Rattle.mf_store_values.specs.Flat.{loan_in, loans_of, loan_row_at}
use Rattle.mf_store.proofs.CatalogueLemmas.{known, unknown}
use Rattle.mf_store_commits.proofs.LoanLemmas.{numbered_loan}
use Rattle.mf_store.proofs.store.Store.loan.Goals as goal

pub returns-in_default-clause-value : goal.returns-in_default-clause-value
returns-in_default-clause-value g c clean i s =
    let office = c.args.loan.office in
    let number = c.args.loan.number in
    let none : c.in_ok-row.field-0 ≡ None = search rules in
    unknown (loan_in office number) c.in_ok-row.field-0 (item_numbered (loans_of (rows_at office i)) number) none
    (c.in_ok-row.ensures.value clean i s ∙ (λ t. loan_row_at (c.get.ensures.value t) (c.get-2.ensures.value t) i))
    ∙ numbered_loan (rows_at office i).loans number

pub returns-clause-value : goal.returns-clause-value
returns-clause-value g c clean i s =
    let office = c.args.loan.office in
    let number = c.args.loan.number in
    let k = known (loan_in office number) c.in_ok-row.field-0 c.in-Some.row (item_numbered (loans_of (rows_at office i))
    number) c.in-Some.is (c.in_ok-row.ensures.value clean i s
    ∙ (λ t. loan_row_at (c.get.ensures.value t) (c.get-2.ensures.value t) i)) in
    ap Some (c.in_ok-found.ensures.loan office number k.0 k.2) ∙ sym k.1 ∙ numbered_loan (rows_at office i).loans number
