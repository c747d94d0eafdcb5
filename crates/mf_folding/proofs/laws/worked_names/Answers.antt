use Rattle.std.proofs.Common.{refl}
use Rattle.std.specs.Str.{chars}
use Rattle.caseless.proofs.Computing.{caseless}
use Rattle.mf_folding.proofs.laws.worked_names.Goals as goal

pub returns-clause-one : goal.returns-clause-one
unfolding chars caseless
returns-clause-one c = refl

pub returns-clause-two : goal.returns-clause-two
unfolding chars caseless
returns-clause-two c = refl

pub returns-clause-capitals : goal.returns-clause-capitals
unfolding chars caseless
returns-clause-capitals c = refl

pub returns-clause-sharp : goal.returns-clause-sharp
unfolding chars caseless
returns-clause-sharp c = refl

pub returns-clause-both : goal.returns-clause-both
unfolding chars caseless
returns-clause-both c = refl

pub returns-clause-dotted : goal.returns-clause-dotted
unfolding chars caseless
returns-clause-dotted c = refl

pub returns-clause-stroke : goal.returns-clause-stroke
unfolding chars caseless
returns-clause-stroke c = refl
