use Rattle.std.specs.List.{AllByRecursion}
use Rattle.mf_store_sound.specs.Offices.{IsOfficeRow}
use Rattle.mf_store_sound.proofs.StoredLemmas.{passed}
use Rattle.mf_store_sound.proofs.offices.are_all_office_rows.Goals as goal

pub loop-office-preserved : goal.loop-office-preserved
loop-office-preserved c up =
    passed _ _ (AllByRecursion (IsOfficeRow c.args.offices.now)) (c.loop-office.invariant up) _ c.loop-office-test.true
    c.office-item.is (((c.in_ok-is_office_row.ensures {u = tt}).row up).0 c.if-not-branch.false)
    (λ all. all, λ all. all)
