use Rattle.csv.specs.Records.{fields_of}
use Rattle.mf_sheet_lines.proofs.ResultTexts.{field_is, no_field_is}
use Rattle.mf_sheet_lines.proofs.results.field_at.Goals as goal

pub returns-in-Some : goal.returns-in-Some
returns-in-Some c = field_is (fields_of c.args.row.now) c.args.place c.in-Some.field.now c.in-Some.ensures.value

pub returns-in-None : goal.returns-in-None
returns-in-None c = no_field_is (fields_of c.args.row.now) c.args.place c.in-None.ensures.value
