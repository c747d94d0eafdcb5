use Rattle.mf_ledger.proofs.BasisBooks.{booked_adds, booked_cash, booked_dated}
use Rattle.mf_ledger.proofs.laws.books_on_either_basis.Goals as goal

pub returns-clause-cash : goal.returns-clause-cash
returns-clause-cash c = λ i lines n. booked_cash lines n i

pub returns-clause-accrual : goal.returns-clause-accrual
returns-clause-accrual c = λ i lines n first last title meant. booked_adds title meant first last lines n i

pub returns-clause-dated : goal.returns-clause-dated
returns-clause-dated c = λ kept_on i lines n tree. booked_dated kept_on lines n i tree
