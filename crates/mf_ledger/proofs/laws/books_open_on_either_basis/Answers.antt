use Rattle.mf_ledger.proofs.AccrualDays.{standing_day_end}
use Rattle.mf_ledger.proofs.AdjustingLemmas.{each_nothing, opened_is}
use Rattle.mf_ledger.proofs.laws.books_open_on_either_basis.Goals as goal

pub returns-clause-opening : goal.returns-clause-opening
returns-clause-opening c = λ kept_on i title meant sound. opened_is kept_on title meant i sound

pub returns-clause-nothing : goal.returns-clause-nothing
returns-clause-nothing c = λ kept_on i sound. each_nothing kept_on i sound

pub returns-clause-day_end : goal.returns-clause-day_end
returns-clause-day_end c = λ kept_on i lines n day title meant sound in_range low high.
    standing_day_end kept_on title meant day lines n i sound in_range low high
