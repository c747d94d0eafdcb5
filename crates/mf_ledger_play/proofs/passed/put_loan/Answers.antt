use Rattle.std.proofs.Common.{ap, ◌∙◌, ◌++◌}
use Rattle.mf_ledger_play.specs.Told.{form_booked}
use Rattle.mf_ledger_play.specs.declared.held.HeldLoan.{HeldLoan}
use Rattle.mf_ledger_play.proofs.PassedLemmas.{loan_written, occasion}
use Rattle.mf_ledger_play.proofs.passed.put_loan.Goals as goal

pub returns-clause-text : goal.returns-clause-text
returns-clause-text c k x yesterday is =
    let account = ap (λ (h : HeldLoan). h.account) is in
    let passing = c.args.passing.now in
    let asked = c.args.asked.now in
    let text = c.args.text.now.items in
    loan_written asked passing.number passing.before passing.day k x c.args.held.now c.of-first.result
    c.of-then.result text c.put_postings.new.text.items yesterday is (c.of-first.ensures k x.1 account)
    (c.of-then.ensures k x.1 account) (c.in_ok-put_postings.ensures.text ∙ ap (λ postings. text
    ++ form_booked asked.form asked.names (occasion passing.number passing.day c.args.held.now) postings)
    c.adjusting_postings-added.ensures)
