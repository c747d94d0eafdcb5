use Rattle.std.proofs.Common.{◌↔◌, drop}
use Rattle.mf_store_sound.specs.Offices.{AscendFrom}
use Rattle.mf_store_sound.proofs.offices.is_ascending.Given as goal

abbrev pub invariant-loop-office : goal.invariant-loop-office
invariant-loop-office l = AscendFrom 0 l.offices ↔ AscendFrom l.last (drop l.office-index l.offices)
