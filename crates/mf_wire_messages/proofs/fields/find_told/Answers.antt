use Rattle.mf_wire_messages.proofs.FieldLemmas.{told_found, found_within}
use Rattle.mf_wire_messages.proofs.fields.find_told.Goals as goal

pub returns-clause-value : goal.returns-clause-value
returns-clause-value c = told_found _ _ _ c.find_field.ensures

pub returns-clause-within : goal.returns-clause-within
returns-clause-within c = found_within _ _ _ c.find_field.ensures
