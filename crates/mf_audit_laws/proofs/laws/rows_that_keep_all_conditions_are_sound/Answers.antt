use Rattle.mf_audit_laws.proofs.RowLemmas.{none_broken}
use Rattle.mf_audit_laws.proofs.laws.rows_that_keep_all_conditions_are_sound.Goals as goal

pub returns : goal.returns
returns c = none_broken c.tree_by_its_keys.ensures
