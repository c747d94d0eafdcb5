use Rattle.std.proofs.Common.{refl}
use Rattle.mf_ledger.proofs.AccrualBooks.{run_adds, each_null, longer, each_dated}
use Rattle.mf_ledger.proofs.laws.adjustments_come_to_the_accruals.Goals as goal

pub returns-clause-nothing : goal.returns-clause-nothing
returns-clause-nothing c = λ i lines n. each_null lines n i

pub returns-clause-since : goal.returns-clause-since
returns-clause-since c = λ i lines n title meant sound in_range. run_adds title meant lines n i sound in_range

pub returns-clause-founding : goal.returns-clause-founding
returns-clause-founding c = λ day title meant. refl

pub returns-clause-kept : goal.returns-clause-kept
returns-clause-kept c = λ i lines more n. longer lines more n i

pub returns-clause-dated : goal.returns-clause-dated
returns-clause-dated c = λ i lines n tree. each_dated lines n i tree
