use Rattle.std.proofs.Common.{rules}
use Rattle.mf_office.specs.Texts.{account_of}
use Rattle.mf_office.proofs.ReadLemmas.{account_exact}
use Rattle.mf_office.proofs.account.Account.parse.Goals as goal

pub returns-in_err-office-clause-exact : goal.returns-in_err-office-clause-exact
unfolding account_of
returns-in_err-office-clause-exact c = account_exact c.args.text.now _ (search rules)

pub returns-in_err-padded_number-clause-exact : goal.returns-in_err-padded_number-clause-exact
unfolding account_of
returns-in_err-padded_number-clause-exact c = account_exact c.args.text.now _ (search rules)

pub returns-in_err-padded_number-2-clause-exact : goal.returns-in_err-padded_number-2-clause-exact
unfolding account_of
returns-in_err-padded_number-2-clause-exact c = account_exact c.args.text.now _ (search rules)

pub returns-clause-exact : goal.returns-clause-exact
unfolding account_of
returns-clause-exact c = account_exact c.args.text.now _ (search rules)
