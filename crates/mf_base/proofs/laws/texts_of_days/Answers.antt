use Rattle.mf_base.proofs.DayTextLemmas.{day_text-is, day_text-injective, last_entered_year, last_year}
use Rattle.mf_base.proofs.laws.texts_of_days.Goals as goal

pub returns-clause-text : goal.returns-clause-text
returns-clause-text c = day_text-is

pub returns-clause-apart : goal.returns-clause-apart
returns-clause-apart c = day_text-injective

pub returns-clause-entered : goal.returns-clause-entered
returns-clause-entered c = last_entered_year

pub returns-clause-last : goal.returns-clause-last
returns-clause-last c = last_year
