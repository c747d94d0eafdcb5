use Rattle.std.proofs.Common.{◌≡◌, ◌++◌, take}
use Rattle.std.specs.Prelude.{string_bytes}
use Rattle.std.specs.List.{flat_map}
use Rattle.microloan_audit.specs.SumsText.{heading, title_line, office_line}
use Rattle.microloan_audit.proofs.sums.push_table.Given as goal

abbrev pub invariant-loop-office : goal.invariant-loop-office
invariant-loop-office l = string_bytes l.text ≡ string_bytes l.fn.text ++ (heading l.schema l.part
    ++ (title_line l.part ++ flat_map (office_line l.part) (take l.office-index l.offices)))
