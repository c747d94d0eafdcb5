use Rattle.mf_model.proofs.Lasting.{terms_last, account_last}
use Rattle.mf_model.proofs.laws.what_was_lent_stands.Goals as goal

pub returns-clause-terms : goal.returns-clause-terms
returns-clause-terms c = λ i ls s r. terms_last ls i s r

pub returns-clause-account : goal.returns-clause-account
returns-clause-account c = λ i ls s r. account_last ls i s r
