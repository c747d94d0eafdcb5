use Rattle.mf_wire.proofs.Lines.{one_line, texts_are_lines, lines_by_bytes}
use Rattle.mf_wire.proofs.laws.texts_are_lines.Goals as goal

pub returns-clause-one_line : goal.returns-clause-one_line
returns-clause-one_line c = one_line

pub returns-clause-of_run : goal.returns-clause-of_run
returns-clause-of_run c = texts_are_lines

pub returns-clause-determined : goal.returns-clause-determined
returns-clause-determined c = lines_by_bytes
