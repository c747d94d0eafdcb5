use Rattle.std.proofs.Common.{◌↔◌, drop}
use Rattle.std.specs.List.{AllByRecursion}
use Rattle.mf_store_sound.specs.Offices.{AscendFrom, IsOfficeRow}
use Rattle.mf_store_sound.proofs.offices.are_all_office_rows.Given as goal

abbrev pub invariant-loop-office : goal.invariant-loop-office
invariant-loop-office l = AscendFrom 0 l.offices → (AllByRecursion (IsOfficeRow l.offices) l.offices
    ↔ AllByRecursion (IsOfficeRow l.offices) (drop l.office-index l.offices))
