use Rattle.csv.specs.Records.{fields_of}
use Rattle.mf_sheet_lines.specs.Results.{begun_text}
use Rattle.mf_sheet_lines.proofs.ResultTexts.{begun_is, without_end}
use Rattle.mf_sheet_lines.proofs.results.begun.Goals as goal
use Rattle.std.proofs.Common.{◌∙◌}

pub returns-clause-ok : goal.returns-clause-ok
returns-clause-ok c =
    let text = c.in-Ok.ensures ∙ begun_is (fields_of c.args.row.now) _ _ _ _ c.field_at.ensures c.field_at-2.ensures
    c.field_at-3.ensures c.field_at-4.ensures in
    without_end (begun_text (fields_of c.args.row.now)) c.in-Ok.text.items c.pop-end.new.self.items text
    (rw c.in-Ok.text.ok.0 at c.pop-end.ensures.rest)
