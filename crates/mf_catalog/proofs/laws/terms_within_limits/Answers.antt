use Rattle.mf_catalog.proofs.ProductLemmas.{terms_within, graces_within, loan_within}
use Rattle.mf_catalog.proofs.laws.terms_within_limits.Goals as goal

pub returns-clause-terms : goal.returns-clause-terms
returns-clause-terms c = terms_within

pub returns-clause-graces : goal.returns-clause-graces
returns-clause-graces c = graces_within

pub returns-clause-loan : goal.returns-clause-loan
returns-clause-loan c = loan_within
