use Rattle.mf_audit_laws.proofs.NeverLemmas.{never_unsound}
use Rattle.mf_audit_laws.proofs.laws.a_broken_file_names_its_rows.Goals as goal

pub returns : goal.returns
returns c = never_unsound c.tree_by_its_keys.ensures
