use Rattle.mf_lists.proofs.PreviewLemmas.{refused-alike, shown-alike}
use Rattle.mf_lists.proofs.laws.a_preview_is_refused_as_submitting_is.Goals as goal

pub returns-clause-refused : goal.returns-clause-refused
returns-clause-refused c = refused-alike

pub returns-clause-shown : goal.returns-clause-shown
returns-clause-shown c = shown-alike
