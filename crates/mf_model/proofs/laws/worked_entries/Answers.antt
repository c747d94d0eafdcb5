use Rattle.std.proofs.Common.{refl}
use Rattle.mf_base.specs.Calendar.{day_of, date_of}
use Rattle.mf_office.specs.Tree.{is_within, is_at_or_below}
use Rattle.mf_model.proofs.laws.worked_entries.Goals as goal

pub returns-clause-fee_paid_before : goal.returns-clause-fee_paid_before
unfolding is_at_or_below is_within day_of date_of
returns-clause-fee_paid_before c = refl

pub returns-clause-fees_by_day : goal.returns-clause-fees_by_day
unfolding is_at_or_below is_within day_of date_of
returns-clause-fees_by_day c = refl

pub returns-clause-waiving : goal.returns-clause-waiving
unfolding is_at_or_below is_within day_of date_of
returns-clause-waiving c = refl

pub returns-clause-penalties_first : goal.returns-clause-penalties_first
unfolding is_at_or_below is_within day_of date_of
returns-clause-penalties_first c = refl

pub returns-clause-principal_before : goal.returns-clause-principal_before
unfolding is_at_or_below is_within day_of date_of
returns-clause-principal_before c = refl

pub returns-clause-interest_before : goal.returns-clause-interest_before
unfolding is_at_or_below is_within day_of date_of
returns-clause-interest_before c = refl

pub returns-clause-penalty_taken_back : goal.returns-clause-penalty_taken_back
unfolding is_at_or_below is_within day_of date_of
returns-clause-penalty_taken_back c = refl

pub returns-clause-reversing : goal.returns-clause-reversing
unfolding is_at_or_below is_within day_of date_of
returns-clause-reversing c = refl

pub returns-clause-refunding : goal.returns-clause-refunding
unfolding is_at_or_below is_within day_of date_of
returns-clause-refunding c = refl

pub returns-clause-writing_off : goal.returns-clause-writing_off
unfolding is_at_or_below is_within day_of date_of
returns-clause-writing_off c = refl

pub returns-clause-receipt_of_a_reversed_entry : goal.returns-clause-receipt_of_a_reversed_entry
unfolding is_at_or_below is_within day_of date_of
returns-clause-receipt_of_a_reversed_entry c = refl
