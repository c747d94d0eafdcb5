use Rattle.std.proofs.Common.{refl}
use Rattle.mf_office.specs.Tree.{is_within, is_at_or_below}
use Rattle.mf_model.proofs.laws.worked_rows.Goals as goal

pub returns-clause-first_day : goal.returns-clause-first_day
unfolding is_at_or_below is_within
returns-clause-first_day c = λ day. refl

pub returns-clause-branches : goal.returns-clause-branches
unfolding is_at_or_below is_within
returns-clause-branches c = λ day. refl

pub returns-clause-chain : goal.returns-clause-chain
unfolding is_at_or_below is_within
returns-clause-chain c = λ day. refl

pub returns-clause-lending : goal.returns-clause-lending
unfolding is_at_or_below is_within
returns-clause-lending c = λ day. refl

pub returns-clause-catalogue_day : goal.returns-clause-catalogue_day
unfolding is_at_or_below is_within
returns-clause-catalogue_day c = refl

pub returns-clause-deciding : goal.returns-clause-deciding
unfolding is_at_or_below is_within
returns-clause-deciding c = refl
