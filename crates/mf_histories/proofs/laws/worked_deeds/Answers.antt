use Rattle.std.proofs.Common.{refl}
use Rattle.mf_base.specs.Calendar.{day_of, date_of}
use Rattle.mf_office.specs.Tree.{is_within, is_at_or_below}
use Rattle.mf_histories.proofs.laws.worked_deeds.Goals as goal

pub returns-clause-added : goal.returns-clause-added
unfolding is_at_or_below is_within day_of date_of
returns-clause-added c = refl

pub returns-clause-reversed : goal.returns-clause-reversed
unfolding is_at_or_below is_within day_of date_of
returns-clause-reversed c = refl

pub returns-clause-other_loan : goal.returns-clause-other_loan
unfolding is_at_or_below is_within day_of date_of
returns-clause-other_loan c = refl
