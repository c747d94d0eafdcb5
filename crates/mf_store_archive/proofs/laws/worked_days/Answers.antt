use Rattle.std.proofs.Common.{refl}
use Rattle.mf_store_archive.proofs.laws.worked_days.Goals as goal

pub returns-clause-none : goal.returns-clause-none
returns-clause-none c = refl

pub returns-clause-one : goal.returns-clause-one
returns-clause-one c = refl

pub returns-clause-other : goal.returns-clause-other
returns-clause-other c = refl

pub returns-clause-both : goal.returns-clause-both
returns-clause-both c = refl
