use Rattle.std.proofs.Common.{refl}
use Rattle.mf_lists.specs.declared.lines.ClientLine.{ClientLine}
use Rattle.mf_lists.specs.Lists.{is_active, is_overdue, is_waiting}
use Rattle.mf_lists.proofs.ListLemmas.{counts-add_up}
use Rattle.mf_lists.proofs.laws.counts_by_client_add_up.Goals as goal

pub returns-clause-waiting : goal.returns-clause-waiting
returns-clause-waiting c = λ k staffed rows sound.
    counts-add_up k staffed rows (is_waiting k) (λ (c : ClientLine). c.waiting) (λ c. refl) sound

pub returns-clause-active : goal.returns-clause-active
returns-clause-active c = λ k staffed rows sound.
    counts-add_up k staffed rows (is_active k) (λ (c : ClientLine). c.active) (λ c. refl) sound

pub returns-clause-overdue : goal.returns-clause-overdue
returns-clause-overdue c = λ k staffed rows sound.
    counts-add_up k staffed rows (is_overdue k) (λ (c : ClientLine). c.overdue) (λ c. refl) sound
