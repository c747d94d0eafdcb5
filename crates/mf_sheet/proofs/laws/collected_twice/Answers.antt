use Rattle.mf_sheet.proofs.Twice.{acts_once}
use Rattle.mf_sheet.proofs.laws.collected_twice.Goals as goal

pub returns : goal.returns
returns g c = acts_once g.S.InstitutionStore
