use Rattle.std.proofs.Common.{refl}
use Rattle.mf_base.specs.Calendar.{day_of, date_of}
use Rattle.mf_office.specs.Tree.{is_within, is_at_or_below}
use Rattle.mf_ledger.proofs.laws.worked_books.Goals as goal

pub returns-clause-answers : goal.returns-clause-answers
unfolding is_at_or_below is_within day_of date_of
returns-clause-answers c = refl

pub returns-clause-transactions : goal.returns-clause-transactions
unfolding is_at_or_below is_within day_of date_of
returns-clause-transactions c = refl

pub returns-clause-cash : goal.returns-clause-cash
unfolding is_at_or_below is_within day_of date_of
returns-clause-cash c = refl

pub returns-clause-opening : goal.returns-clause-opening
unfolding is_at_or_below is_within day_of date_of
returns-clause-opening c = refl

pub returns-clause-adjustments : goal.returns-clause-adjustments
unfolding is_at_or_below is_within day_of date_of
returns-clause-adjustments c = refl
