use Rattle.std.proofs.Common.{◌≡◌, map}
use Rattle.csv.specs.Records.{fields_of}
use Rattle.mf_sheet_lines.proofs.sheet.read_rows.Given as goal

abbrev pub invariant-loop-fields : goal.invariant-loop-fields
invariant-loop-fields l = l.read.items ≡ map fields_of l.yielded
