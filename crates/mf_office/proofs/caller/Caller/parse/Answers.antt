use Rattle.std.proofs.Common.{rules}
use Rattle.mf_office.specs.Texts.{caller_of}
use Rattle.mf_office.proofs.ReadLemmas.{caller_exact}
use Rattle.mf_office.proofs.caller.Caller.parse.Goals as goal

pub returns-in_err-office-clause-exact : goal.returns-in_err-office-clause-exact
unfolding caller_of
returns-in_err-office-clause-exact c = caller_exact c.args.text.now _ (search rules)

pub returns-in_err-plain_number-clause-exact : goal.returns-in_err-plain_number-clause-exact
unfolding caller_of
returns-in_err-plain_number-clause-exact c = caller_exact c.args.text.now _ (search rules)

pub returns-in_err-plain_number-2-clause-exact : goal.returns-in_err-plain_number-2-clause-exact
unfolding caller_of
returns-in_err-plain_number-2-clause-exact c = caller_exact c.args.text.now _ (search rules)

pub returns-clause-exact : goal.returns-clause-exact
unfolding caller_of
returns-clause-exact c = caller_exact c.args.text.now _ (search rules)
