use Rattle.mf_office.proofs.AddedLemmas.{added_tree, added_below, added_itself, added_keys, added_key}
use Rattle.mf_office.proofs.laws.tree_with_an_office_more.Goals as goal

pub returns-clause-tree : goal.returns-clause-tree
returns-clause-tree c = added_tree

pub returns-clause-below : goal.returns-clause-below
returns-clause-below c = added_below

pub returns-clause-new_below : goal.returns-clause-new_below
returns-clause-new_below c = added_itself

pub returns-clause-keys : goal.returns-clause-keys
returns-clause-keys c = added_keys

pub returns-clause-new_key : goal.returns-clause-new_key
returns-clause-new_key c = added_key
