use Rattle.mf_lists.proofs.PreviewLemmas.{instalments-shown, kept-shown}
use Rattle.mf_lists.proofs.laws.paying_out_gives_what_was_shown.Goals as goal

pub returns-clause-instalments : goal.returns-clause-instalments
returns-clause-instalments c = instalments-shown

pub returns-clause-kept : goal.returns-clause-kept
returns-clause-kept c = kept-shown
