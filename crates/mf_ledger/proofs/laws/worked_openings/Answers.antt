use Rattle.std.proofs.Common.{refl}
use Rattle.std.specs.Fmt.{digits}
use Rattle.mf_base.specs.Calendar.{day_of, date_of}
use Rattle.mf_office.specs.Tree.{is_within, is_at_or_below}
use Rattle.mf_ledger.proofs.WorkedDays.{march_text}
use Rattle.mf_ledger.proofs.laws.worked_openings.Goals as goal

pub returns-clause-waived : goal.returns-clause-waived
unfolding is_at_or_below is_within day_of date_of
returns-clause-waived c = refl

pub returns-clause-repaid : goal.returns-clause-repaid
unfolding is_at_or_below is_within day_of date_of
returns-clause-repaid c = refl

pub returns-clause-cash : goal.returns-clause-cash
unfolding is_at_or_below is_within day_of date_of
returns-clause-cash c = refl

pub returns-clause-hledger : goal.returns-clause-hledger
unfolding digits
returns-clause-hledger c = rw march_text refl
