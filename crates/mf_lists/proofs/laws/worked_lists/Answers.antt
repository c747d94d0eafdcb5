use Rattle.std.proofs.Common.{refl}
use Rattle.std.specs.Fmt.{digits}
use Rattle.mf_base.specs.Calendar.{day_of, date_of}
use Rattle.mf_office.specs.Tree.{is_within, is_at_or_below}
use Rattle.mf_lists.proofs.laws.worked_lists.Goals as goal

pub returns-clause-clients : goal.returns-clause-clients
unfolding is_at_or_below is_within day_of date_of
returns-clause-clients c = refl

pub returns-clause-after : goal.returns-clause-after
unfolding is_at_or_below is_within day_of date_of
returns-clause-after c = refl

pub returns-clause-beside : goal.returns-clause-beside
unfolding is_at_or_below is_within day_of date_of
returns-clause-beside c = refl

pub returns-clause-empty : goal.returns-clause-empty
unfolding is_at_or_below is_within day_of date_of
returns-clause-empty c = refl

pub returns-clause-loans : goal.returns-clause-loans
unfolding is_at_or_below is_within day_of date_of
returns-clause-loans c = refl

pub returns-clause-nobody : goal.returns-clause-nobody
unfolding is_at_or_below is_within day_of date_of
returns-clause-nobody c = refl

pub returns-clause-due : goal.returns-clause-due
unfolding is_at_or_below is_within day_of date_of
returns-clause-due c = refl

pub returns-clause-early : goal.returns-clause-early
unfolding is_at_or_below is_within day_of date_of
returns-clause-early c = refl

pub returns-clause-later : goal.returns-clause-later
unfolding is_at_or_below is_within day_of date_of
returns-clause-later c = refl

pub returns-clause-later_after : goal.returns-clause-later_after
unfolding is_at_or_below is_within day_of date_of
returns-clause-later_after c = refl

pub returns-clause-active : goal.returns-clause-active
unfolding is_at_or_below is_within day_of date_of
returns-clause-active c = refl

pub returns-clause-submitted : goal.returns-clause-submitted
unfolding is_at_or_below is_within day_of date_of
returns-clause-submitted c = refl

pub returns-clause-approved : goal.returns-clause-approved
unfolding is_at_or_below is_within day_of date_of
returns-clause-approved c = refl

pub returns-clause-staff : goal.returns-clause-staff
unfolding is_at_or_below is_within day_of date_of
returns-clause-staff c = refl

pub returns-clause-find : goal.returns-clause-find
unfolding is_at_or_below is_within day_of date_of digits
returns-clause-find c = refl

pub returns-clause-find_number : goal.returns-clause-find_number
unfolding is_at_or_below is_within day_of date_of digits
returns-clause-find_number c = refl

pub returns-clause-find_loan : goal.returns-clause-find_loan
unfolding is_at_or_below is_within day_of date_of digits
returns-clause-find_loan c = refl
