use Rattle.std.proofs.Common.{sym, ◌∙◌}
use Rattle.mf_ledger_play.proofs.LoanLemmas.{state_some}
use Rattle.mf_ledger_play.proofs.loans.state_of.Goals as goal

pub returns-in-Some : goal.returns-in-Some
returns-in-Some c loan i sound is =
    state_some c.args.day loan i c.in-Some.loan c.in-Some.account c.of.result c.of-in-Some.result sound
    (sym c.in-Some.is ∙ is) c.of.ensures c.of-in-Some.ensures
