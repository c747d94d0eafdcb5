use Rattle.std.proofs.Common.{refl}
use Rattle.std.specs.Fmt.{digits}
use Rattle.mf_base.specs.Calendar.{date_of}
use Rattle.mf_base.specs.DayText.{day_text}
use Rattle.mf_journal_runs.proofs.laws.worked_text_of_a_line.Goals as goal

pub returns : goal.returns
unfolding digits date_of day_text
returns c = refl
