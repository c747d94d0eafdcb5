use Rattle.std.proofs.Common.{rules}
use Rattle.std.proofs.lemmas.List.Sorted.{answers_always}
use Rattle.mf_store_schema.specs.declared.offices.OfficeRow.{OfficeRow}
use Rattle.mf_store_sound.proofs.OfficeRowLemmas.{found_office, absent_office}
use Rattle.mf_store_sound.proofs.offices.find_office.Goals as goal

pub returns-in-Ok : goal.returns-in-Ok
returns-in-Ok c up =
    found_office c.args.offices.now up c.args.number _ _ c.in-Ok.ensures.bound c.index-offices-place.is
    (c.in-Ok.ensures.position (λ (r : OfficeRow). r.number) (answers_always _ _ _ (λ f a r g called. search rules)))

pub returns-in-Err : goal.returns-in-Err
returns-in-Err c up =
    absent_office c.args.offices.now up c.args.number _ c.in-Err.ensures.bound
    (c.in-Err.ensures.position (λ (r : OfficeRow). r.number) (answers_always _ _ _ (λ f a r g called. search rules)))
