use Rattle.std.proofs.Common.{refl}
use Rattle.mf_base.specs.Calendar.{day_of}
use Rattle.mf_sheet_lines.specs.Fields.{cents_written, day_written}
use Rattle.mf_sheet_lines.proofs.laws.worked_fields.Goals as goal

pub returns-clause-amounts : goal.returns-clause-amounts
unfolding cents_written
returns-clause-amounts c = (refl, refl, refl, refl)

pub returns-clause-no_amounts : goal.returns-clause-no_amounts
unfolding cents_written
returns-clause-no_amounts c = (refl, refl, refl, refl, refl, refl, refl)

pub returns-clause-nothing : goal.returns-clause-nothing
unfolding cents_written
returns-clause-nothing c = (refl, refl)

pub returns-clause-days : goal.returns-clause-days
unfolding day_written day_of
returns-clause-days c = (refl, refl, refl, refl, refl)
