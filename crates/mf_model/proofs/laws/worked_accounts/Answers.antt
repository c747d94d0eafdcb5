use Rattle.std.proofs.Common.{refl}
use Rattle.mf_base.specs.Calendar.{day_of, date_of}
use Rattle.mf_office.specs.Tree.{is_within, is_at_or_below}
use Rattle.mf_model.proofs.laws.worked_accounts.Goals as goal

pub returns-clause-repaying : goal.returns-clause-repaying
unfolding is_at_or_below is_within
returns-clause-repaying c = refl

pub returns-clause-scheduled : goal.returns-clause-scheduled
unfolding is_at_or_below is_within day_of date_of
returns-clause-scheduled c = refl

pub returns-clause-back_dated : goal.returns-clause-back_dated
unfolding is_at_or_below is_within
returns-clause-back_dated c = refl

pub returns-clause-overpaying : goal.returns-clause-overpaying
unfolding is_at_or_below is_within
returns-clause-overpaying c = refl

pub returns-clause-principal_first : goal.returns-clause-principal_first
unfolding is_at_or_below is_within
returns-clause-principal_first c = refl

pub returns-clause-out_of_order : goal.returns-clause-out_of_order
unfolding is_at_or_below is_within
returns-clause-out_of_order c = refl

pub returns-clause-disbursing : goal.returns-clause-disbursing
unfolding is_at_or_below is_within
returns-clause-disbursing c = refl

pub returns-clause-receipts : goal.returns-clause-receipts
unfolding is_at_or_below is_within
returns-clause-receipts c = refl
