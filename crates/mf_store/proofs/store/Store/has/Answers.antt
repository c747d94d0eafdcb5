use Rattle.std.proofs.Common.{◌≤◌, ◌↔◌, IsTrue, IfOk, ℕ, subst}
use Rattle.std.proofs.lemmas.List.{length-map}
use Rattle.mf_model.specs.Institution.{Ledger}
use Rattle.mf_model.specs.Store.{rows_at}
use Rattle.mf_store_values.specs.Flat.{staff_in, client_in, charge_as, product_as, loan_in, loans_of}
use Rattle.mf_store.proofs.LookLemmas.{told_by}
use Rattle.mf_store.proofs.store.Store.has.Goals as goal

pub returns-in-Staff-clause-value : goal.returns-in-Staff-clause-value
returns-in-Staff-clause-value g c clean i s = rw c.in-Staff.is (told_by (staff_in c.in-Staff.office c.args.number)
    (rows_at c.in-Staff.office i).staff c.args.number c.has_row.result (c.has_row.ensures.value clean i s))

pub returns-in-Clients-clause-value : goal.returns-in-Clients-clause-value
returns-in-Clients-clause-value g c clean i s = rw c.in-Clients.is (told_by (client_in c.in-Clients.office
    c.args.number) (rows_at c.in-Clients.office i).clients c.args.number c.has_row-in-Clients.result
    (c.has_row-in-Clients.ensures.value clean i s))

pub returns-in-Loans-clause-value : goal.returns-in-Loans-clause-value
returns-in-Loans-clause-value g c clean i s =
    let rows = rows_at c.in-Loans.office i in
    rw c.in-Loans.is (subst (λ (most : ℕ). IfOk c.has_row-in-Loans.result (λ there. IsTrue there
    ↔ ((1 ≤ c.args.number) × (c.args.number ≤ most)))) (length-map rows.loans (λ (l : Ledger). l.loan)) (told_by
    (loan_in c.in-Loans.office c.args.number) (loans_of rows) c.args.number c.has_row-in-Loans.result
    (c.has_row-in-Loans.ensures.value clean i s)))

pub returns-in-Charges-clause-value : goal.returns-in-Charges-clause-value
returns-in-Charges-clause-value g c clean i s = rw c.in-Charges.is (told_by (charge_as c.args.number)
    i.catalogue.charges c.args.number c.has_row-in-Charges.result (c.has_row-in-Charges.ensures.value clean i s))

pub returns-in-Products-clause-value : goal.returns-in-Products-clause-value
returns-in-Products-clause-value g c clean i s = rw c.in-Products.is (told_by (product_as c.args.number)
    i.catalogue.products c.args.number c.has_row-in-Products.result (c.has_row-in-Products.ensures.value clean i s))
