use Rattle.std.proofs.Common.{◌≡◌, List, drop}
use Rattle.std.specs.List.{list_all}
use Rattle.mf_model.specs.Institution.{Office}
use Rattle.mf_model.specs.Tree.{Ascending}
use Rattle.mf_store_sound.specs.Callers.{is_by_staff}
use Rattle.mf_store_values.specs.Flat.{all_rows, staff_in}
use Rattle.mf_store_sound.proofs.callers.are_by_staff.Given as goal

abbrev pub invariant-loop-row : goal.invariant-loop-row
invariant-loop-row l =
    (fs : List Office) → Ascending fs → all_rows staff_in (λ own. own.staff) fs ≡ l.staff
    → list_all (is_by_staff fs) l.rows ≡ list_all (is_by_staff fs) (drop l.row-index l.rows)
