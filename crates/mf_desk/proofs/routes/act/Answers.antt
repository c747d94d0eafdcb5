use Rattle.std.proofs.Common.{◌≡◌, Ok}
use Rattle.mf_model.specs.declared.request.Request.TheVariants as request
use Rattle.mf_desk.specs.Answers.{sight, request_outcome, loan_outcome}
use Rattle.mf_desk.proofs.Decisions.{learns, learned_decides}
use Rattle.mf_desk.proofs.LoanLemmas.{loan_seen}
use Rattle.mf_desk.proofs.routes.act.Goals as goal

pub returns-in_ok-check_sight-in-Loan-clause-decides : goal.returns-in_ok-check_sight-in-Loan-clause-decides
returns-in_ok-check_sight-in-Loan-clause-decides g c =
    let s = g.S.InstitutionStore in
    let loan = c.in-Loan.loan in
    let asked = c.in-Loan.asked in
    rw c.in-Loan.is (learned_decides s (λ i. sight c.args.caller.office loan.office i ≡ Ok tt)
    (request_outcome c.args.caller (request.Loan loan asked)) (loan_outcome loan asked c.args.caller)
    c.args.store.now c.check_sight.new.store c.on_loan.new.store c.on_loan.result
    (learns s (sight c.args.caller.office loan.office) c.args.store.now c.check_sight.new.store tt
    c.in_ok-check_sight-in-Loan.ensures.asks)
    (loan_seen c.args.caller loan asked) c.on_loan.ensures.decides)
