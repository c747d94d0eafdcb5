use Rattle.mf_ledger_play.proofs.PassedLemmas.{LoansWritten}
use Rattle.mf_ledger_play.proofs.passed.put_loans.Given as goal

abbrev pub invariant-loop-place : goal.invariant-loop-place
invariant-loop-place l =
    LoansWritten l.asked l.passing.number l.passing.before l.passing.day l.held l.place l.initial.text.items
    l.text.items
