use Rattle.std.proofs.Common.{◌≡◌, ◌++◌, map, take}
use Rattle.csv.specs.Records.{fields_of}
use Rattle.mf_sheet_lines.specs.Results.{heading, records_text}
use Rattle.mf_sheet_lines.proofs.results.text_of_records.Given as goal

abbrev pub invariant-loop-place : goal.invariant-loop-place
invariant-loop-place l = l.text.items ≡ heading ++ records_text (map fields_of l.rows) (take l.place l.results)
