use Rattle.std.proofs.Common.{rules}
use Rattle.std.proofs.lemmas.List.Sorted.{answers_always}
use Rattle.mf_store_schema.specs.declared.staff.StaffRow.{StaffRow}
use Rattle.mf_store_sound.proofs.StaffLemmas.{found_staff, absent_staff}
use Rattle.mf_store_sound.proofs.callers.is_there.Goals as goal

pub returns-in-Ok : goal.returns-in-Ok
returns-in-Ok c fs up are =
    found_staff c.args.office c.args.number fs up c.args.staff.now are _ c.in-Ok.ensures.bound
    (c.in-Ok.ensures.position (λ (r : StaffRow). (r.office, r.number)) (answers_always _ _ _ (λ f a r g called.
    search rules)))

pub returns-in-Err : goal.returns-in-Err
returns-in-Err c fs up are =
    absent_staff c.args.office c.args.number fs up c.args.staff.now are _ c.in-Err.ensures.bound
    (c.in-Err.ensures.position (λ (r : StaffRow). (r.office, r.number)) (answers_always _ _ _ (λ f a r g called.
    search rules)))
