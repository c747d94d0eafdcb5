use Rattle.std.proofs.Common.{◌≡◌, Err, rules}
use Rattle.mf_account.specs.Refusals.{refusal_of}
use Rattle.mf_desk.proofs.LoanLemmas.{taken, refused}
use Rattle.mf_desk.proofs.entering.with_entry.Goals as goal

pub returns-in_err-enter-clause-refused : goal.returns-in_err-enter-clause-refused
returns-in_err-enter-clause-refused c = λ replayed.
    let e : c.from_residual.result ≡ Err c.in_err-enter.field-0.0 = search rules in
    rw e (refused c.in_err-enter.field-0.0 (refusal_of c.args.account.loan c.args.entry c.args.today)
    (c.in_err-enter.ensures.refused replayed) (c.in_err-enter.ensures.accepted replayed))

pub returns-clause-accepted : goal.returns-clause-accepted
returns-clause-accepted c replayed = taken c.in_ok-enter.field-0 (refusal_of c.args.account.loan c.args.entry
    c.args.today) (c.in_ok-enter.ensures.refused replayed)
