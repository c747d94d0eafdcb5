use Rattle.std.proofs.Common.{refl}
use Rattle.mf_base.specs.Calendar.{day_of, date_of}
use Rattle.mf_office.specs.Tree.{is_within, is_at_or_below}
use Rattle.mf_model.proofs.laws.worked_arrears.Goals as goal

pub returns-clause-thirty_days : goal.returns-clause-thirty_days
unfolding is_at_or_below is_within day_of date_of
returns-clause-thirty_days c = refl

pub returns-clause-interest_left : goal.returns-clause-interest_left
unfolding is_at_or_below is_within day_of date_of
returns-clause-interest_left c = refl
