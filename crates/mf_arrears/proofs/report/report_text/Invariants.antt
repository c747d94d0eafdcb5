use Rattle.std.proofs.Common.{◌≡◌, take}
use Rattle.std.specs.Prelude.{string_bytes}
use Rattle.std.specs.List.{flat_map}
use Rattle.mf_arrears.specs.Report.{line_text, total_of}
use Rattle.mf_arrears.proofs.report.report_text.Given as goal

abbrev pub invariant-loop-line : goal.invariant-loop-line
invariant-loop-line l = record {
  text : string_bytes l.text ≡ flat_map line_text (take l.line-index l.lines);
  all : l.all ≡ total_of (take l.line-index l.lines);
}
