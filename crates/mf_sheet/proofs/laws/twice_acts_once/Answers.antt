use Rattle.mf_sheet.proofs.Twice.{after_twice, told_twice}
use Rattle.mf_sheet.proofs.laws.twice_acts_once.Goals as goal

pub returns-clause-institution : goal.returns-clause-institution
returns-clause-institution c = after_twice

pub returns-clause-results : goal.returns-clause-results
returns-clause-results c = told_twice
