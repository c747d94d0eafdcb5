use Rattle.mf_sheet_lines.proofs.Days.{day_written_is}
use Rattle.mf_sheet_lines.proofs.fields.day.Goals as goal

pub returns-clause-value : goal.returns-clause-value
returns-clause-value c = day_written_is c.args.text.now c.parse.result c.parse.ensures.some c.parse.ensures.every
