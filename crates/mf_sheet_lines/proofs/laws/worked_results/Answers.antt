use Rattle.std.proofs.Common.{refl}
use Rattle.csv.specs.Machine.{next_record}
use Rattle.csv.specs.Reading.{records_from, strip_bom}
use Rattle.csv.specs.Writing.{escaped, fields_text, is_blank}
use Rattle.mf_sheet_lines.specs.Results.{heading, record_text}
use Rattle.mf_sheet_lines.proofs.laws.worked_results.Goals as goal

pub returns-clause-few : goal.returns-clause-few
unfolding record_text fields_text is_blank
returns-clause-few c = refl

pub returns-clause-many : goal.returns-clause-many
unfolding record_text fields_text is_blank
returns-clause-many c = refl

pub returns-clause-quoted : goal.returns-clause-quoted
unfolding record_text fields_text is_blank escaped
returns-clause-quoted c = refl

pub returns-clause-empty : goal.returns-clause-empty
unfolding heading fields_text is_blank next_record records_from strip_bom
returns-clause-empty c = refl

pub returns-clause-sheet : goal.returns-clause-sheet
unfolding heading record_text fields_text is_blank next_record records_from strip_bom
returns-clause-sheet c = refl
