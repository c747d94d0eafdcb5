use Rattle.std.proofs.Common.{refl}
use Rattle.mf_model.specs.Institution.{new_office}
use Rattle.mf_model.proofs.Confined.{others_stay, old_stay}
use Rattle.mf_model.proofs.laws.confinement.Goals as goal

pub returns-clause-rows : goal.returns-clause-rows
returns-clause-rows c = λ i x y rows ne. others_stay x y rows i.offices ne

pub returns-clause-new_office : goal.returns-clause-new_office
returns-clause-new_office c = λ i number parent y name ne. old_stay (new_office number parent name) y i.offices ne

pub returns-clause-offices : goal.returns-clause-offices
returns-clause-offices c = λ i catalogue. refl

pub returns-clause-catalogue : goal.returns-clause-catalogue
returns-clause-catalogue c = λ i x number parent name rows. (refl, refl)
