use Rattle.std.proofs.Common.{refl}
use Rattle.mf_office.specs.Tree.{is_within, is_at_or_below}
use Rattle.mf_lists.proofs.laws.worked_changes.Goals as goal

pub returns-clause-loan : goal.returns-clause-loan
unfolding is_at_or_below is_within
returns-clause-loan c = refl

pub returns-clause-office : goal.returns-clause-office
unfolding is_at_or_below is_within
returns-clause-office c = refl

pub returns-clause-after : goal.returns-clause-after
unfolding is_at_or_below is_within
returns-clause-after c = refl

pub returns-clause-none : goal.returns-clause-none
unfolding is_at_or_below is_within
returns-clause-none c = refl

pub returns-clause-beside : goal.returns-clause-beside
unfolding is_at_or_below is_within
returns-clause-beside c = refl

pub returns-clause-missing : goal.returns-clause-missing
unfolding is_at_or_below is_within
returns-clause-missing c = refl

pub returns-clause-no_journal : goal.returns-clause-no_journal
unfolding is_at_or_below is_within
returns-clause-no_journal c = refl
