use Rattle.mf_audit_laws.proofs.AccountLemmas.{none_differ}
use Rattle.mf_audit_laws.proofs.laws.accounts_that_differ_in_nothing_are_sound.Goals as goal

pub returns : goal.returns
returns c = none_differ
