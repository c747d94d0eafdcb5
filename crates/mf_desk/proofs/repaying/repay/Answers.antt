use Rattle.std.proofs.Common.{◌≡◌, Option, Ok, Some, None, ap, ◌∙◌}
use Rattle.mf_model.specs.Accounts.{account_in}
use Rattle.mf_model.specs.declared.loan.ReceiptUse.{ReceiptUse}
use Rattle.mf_model.specs.declared.request.LoanRequest.TheVariants.{Repay}
use Rattle.mf_model.specs.Loans.{repayment, none_first, enter}
use Rattle.mf_desk.specs.Answers.{use_named, loan_outcome, in_ledger}
use Rattle.mf_desk.proofs.Decisions.{learns, learned_decides}
use Rattle.mf_desk.proofs.LoanLemmas.{when_used, repay_is}
use Rattle.mf_desk.proofs.repaying.repay.Goals as goal

pub returns-in-Some-clause-decides : goal.returns-in-Some-clause-decides
returns-in-Some-clause-decides g c =
    let s = g.S.InstitutionStore in
    let loan = c.args.loan in
    let asked = c.args.asked in
    let found = c.in_ok-used.used in
    learned_decides s (λ i. use_named loan.office asked.receipt i ≡ Ok found)
    (loan_outcome loan (Repay asked) c.args.caller)
    (in_ledger loan (λ k l. when_used loan.number asked (Some c.in-Some.used)
    (enter none_first (λ today. repayment asked c.args.caller) k (account_in k l))))
    c.args.store.now c.find_use.new.store c.repeat.new.store c.repeat.result
    (learns s (use_named loan.office asked.receipt) c.args.store.now c.find_use.new.store found
    c.in_ok-used.ensures.asks)
    (λ i h. repay_is c.args.caller loan asked (Some c.in-Some.used) i (h ∙ ap (λ (r : Option ReceiptUse). Ok r)
    c.in-Some.is)) c.repeat.ensures.decides

pub returns-in-None-clause-decides : goal.returns-in-None-clause-decides
returns-in-None-clause-decides g c =
    let s = g.S.InstitutionStore in
    let loan = c.args.loan in
    let asked = c.args.asked in
    let found = c.in_ok-used.used in
    learned_decides s (λ i. use_named loan.office asked.receipt i ≡ Ok found)
    (loan_outcome loan (Repay asked) c.args.caller)
    (in_ledger loan (λ k l. enter none_first (λ today. repayment asked c.args.caller) k (account_in k l)))
    c.args.store.now c.find_use.new.store c.enter.new.store c.enter.result
    (learns s (use_named loan.office asked.receipt) c.args.store.now c.find_use.new.store found
    c.in_ok-used.ensures.asks)
    (λ i h. repay_is c.args.caller loan asked None i (h ∙ ap (λ (r : Option ReceiptUse). Ok r) c.in-None.is))
    c.enter.ensures.decides
