use Rattle.std.proofs.Common.{refl}
use Rattle.std.specs.Fmt.{digits}
use Rattle.csv.specs.Machine.{next_record}
use Rattle.csv.specs.Reading.{records_from, strip_bom}
use Rattle.mf_base.specs.Calendar.{day_of}
use Rattle.mf_office.specs.Texts.{account_of}
use Rattle.mf_sheet_lines.specs.Fields.{cents_written, day_written}
use Rattle.mf_sheet_lines.proofs.laws.worked_sheets.Goals as goal

pub returns-clause-empty : goal.returns-clause-empty
unfolding next_record records_from strip_bom
returns-clause-empty c = (refl, refl, refl)

pub returns-clause-no_names : goal.returns-clause-no_names
unfolding next_record records_from strip_bom
returns-clause-no_names c = (refl, refl)

pub returns-clause-mark : goal.returns-clause-mark
unfolding next_record records_from strip_bom
returns-clause-mark c = refl

pub returns-clause-quoted : goal.returns-clause-quoted
unfolding next_record records_from strip_bom
returns-clause-quoted c = refl

pub returns-clause-asked : goal.returns-clause-asked
unfolding next_record records_from strip_bom account_of digits day_written day_of cents_written
returns-clause-asked c = refl

pub returns-clause-sheet : goal.returns-clause-sheet
unfolding next_record records_from strip_bom account_of digits day_written day_of cents_written
returns-clause-sheet c = refl

pub returns-clause-bad : goal.returns-clause-bad
unfolding next_record records_from strip_bom account_of digits day_written day_of cents_written
returns-clause-bad c = refl
