use Rattle.std.proofs.Common.{◌≡◌, rules}
use Rattle.mf_sheet_lines.specs.Results.{record_text}
use Rattle.mf_sheet.proofs.collecting.collect_row.Goals as goal

pub returns-clause-write : goal.returns-clause-write
returns-clause-write g c =
    let text : c.as_slice.result.now ≡ record_text c.args.row c.answer_line-outcome.result = search rules in (
      c.answer_line-outcome.result,
      rw c.into_parts-line.ensures.line at c.answer_line-outcome.ensures,
      rw text at c.in-Err.ensures.err,
    )
