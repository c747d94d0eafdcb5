use Rattle.std.proofs.Common.{refl}
use Rattle.std.specs.Fmt.{digits}
use Rattle.serde_json.proofs.OnLiterals.{serde_json_on_literals}
use Rattle.mf_base.specs.Calendar.{date_of}
use Rattle.mf_base.specs.DayText.{day_text}
use Rattle.mf_lists_replies.proofs.laws.worked_answers_shown.Goals as goal

pub returns-clause-clients : goal.returns-clause-clients
unfolding digits serde_json_on_literals
returns-clause-clients c = refl

pub returns-clause-loans : goal.returns-clause-loans
unfolding digits date_of day_text serde_json_on_literals
returns-clause-loans c = refl

pub returns-clause-due : goal.returns-clause-due
unfolding digits date_of day_text serde_json_on_literals
returns-clause-due c = refl

pub returns-clause-stages : goal.returns-clause-stages
unfolding digits date_of day_text serde_json_on_literals
returns-clause-stages c = refl

pub returns-clause-staff : goal.returns-clause-staff
unfolding digits serde_json_on_literals
returns-clause-staff c = refl

pub returns-clause-takings : goal.returns-clause-takings
unfolding digits serde_json_on_literals
returns-clause-takings c = refl

pub returns-clause-no_changes : goal.returns-clause-no_changes
unfolding serde_json_on_literals
returns-clause-no_changes c = refl

pub returns-clause-empty : goal.returns-clause-empty
unfolding serde_json_on_literals
returns-clause-empty c = refl

pub returns-clause-preview : goal.returns-clause-preview
unfolding digits date_of day_text serde_json_on_literals
returns-clause-preview c = refl

pub returns-clause-no_rate : goal.returns-clause-no_rate
unfolding digits date_of day_text serde_json_on_literals
returns-clause-no_rate c = refl

pub returns-clause-line : goal.returns-clause-line
unfolding digits serde_json_on_literals
returns-clause-line c = refl

pub returns-clause-refused : goal.returns-clause-refused
unfolding digits
returns-clause-refused c = refl
