use Rattle.mf_ledger_play.proofs.PassedLemmas.{DaysWritten}
use Rattle.mf_ledger_play.proofs.passed.put_days.Given as goal

abbrev pub invariant-loop-passed : goal.invariant-loop-passed
invariant-loop-passed l =
    DaysWritten l.asked l.fn.number l.fn.since l.held l.passed l.fn.text.items l.text.items
