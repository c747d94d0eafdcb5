use Rattle.mf_base.proofs.CalendarLemmas.{IsDate-date_of, day_of-date_of, date_of-day_of}
use Rattle.mf_base.proofs.laws.dates_and_numbers.Goals as goal

pub returns-clause-is_date : goal.returns-clause-is_date
returns-clause-is_date c = IsDate-date_of

pub returns-clause-number : goal.returns-clause-number
returns-clause-number c = day_of-date_of

pub returns-clause-date : goal.returns-clause-date
returns-clause-date c = date_of-day_of
