use Rattle.std.proofs.Common.{◌*◌}
use Rattle.std.proofs.Math.Nat.{mul-lt-mul_of_pos_left}
use Rattle.mf_base.proofs.DueDayLemmas.{day_after-lt}
use Rattle.mf_schedule.proofs.LoanLemmas.{scheduled-principal-sum}
use Rattle.mf_guarantees.proofs.laws.schedules_come_to_what_was_lent.Goals as goal

pub returns-clause-principal : goal.returns-clause-principal
returns-clause-principal c = scheduled-principal-sum

pub returns-clause-due_days : goal.returns-clause-due_days
returns-clause-due_days c = λ terms day earlier later limits less.
    day_after-lt day terms.freq (terms.every * earlier) (terms.every * later)
    (mul-lt-mul_of_pos_left less limits.some_step)
