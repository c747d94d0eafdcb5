use Rattle.std.proofs.Common.{refl}
use Rattle.mf_model.specs.Desk.{plan}
use Rattle.mf_model.proofs.Steps.{known_line}
use Rattle.mf_model.proofs.Confined.{effect_reads, effect_reads_catalogue, effect_reads_nothing}
use Rattle.mf_model.proofs.laws.effects.Goals as goal

pub returns-clause-accepted : goal.returns-clause-accepted
returns-clause-accepted c =
    λ call i change t h. (known_line call.caller call.request (plan call.request) i change t refl h).made_is

pub returns-clause-of_catalogue : goal.returns-clause-of_catalogue
returns-clause-of_catalogue c = effect_reads_catalogue

pub returns-clause-of_office : goal.returns-clause-of_office
returns-clause-of_office c = effect_reads

pub returns-clause-of_new_office : goal.returns-clause-of_new_office
returns-clause-of_new_office c = effect_reads_nothing
