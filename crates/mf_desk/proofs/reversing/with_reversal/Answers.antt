use Rattle.std.proofs.Common.{◌≡◌, Err, rules}
use Rattle.mf_account.specs.Refusals.{reversal_refused}
use Rattle.mf_desk.proofs.LoanLemmas.{taken, refused}
use Rattle.mf_desk.proofs.reversing.with_reversal.Goals as goal

pub returns-in_err-reverse-clause-refused : goal.returns-in_err-reverse-clause-refused
returns-in_err-reverse-clause-refused c =
    let e : c.from_residual.result ≡ Err c.in_err-reverse.field-0.0 = search rules in
    rw e (refused c.in_err-reverse.field-0.0 (reversal_refused c.args.account.loan.entries c.args.seq)
    c.in_err-reverse.ensures.refused c.in_err-reverse.ensures.accepted)

pub returns-clause-accepted : goal.returns-clause-accepted
returns-clause-accepted c = taken c.in_ok-reverse.field-0 (reversal_refused c.args.account.loan.entries c.args.seq)
    c.in_ok-reverse.ensures.refused
