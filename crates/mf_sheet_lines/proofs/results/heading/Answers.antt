use Rattle.mf_sheet_lines.proofs.ResultTexts.{heading_is}
use Rattle.mf_sheet_lines.proofs.results.heading.Goals as goal

pub returns : goal.returns
returns c = heading_is
