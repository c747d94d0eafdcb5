use Rattle.std.proofs.Common.{sym, ap, ◌∙◌}
use Rattle.std.specs.Prelude.{◌+ℤ◌}
use Rattle.mf_ledger.specs.Runs.{posted, between, transactions}
use Rattle.mf_ledger.proofs.OpeningLemmas.{opening_is, opening_nothing}
use Rattle.mf_ledger.proofs.RunBooks.{day_end}
use Rattle.mf_ledger.proofs.laws.books_begin_with_an_opening.Goals as goal

pub returns-clause-opening : goal.returns-clause-opening
returns-clause-opening c = λ i title meant sound. opening_is title meant i sound

pub returns-clause-nothing : goal.returns-clause-nothing
returns-clause-nothing c = λ i sound. opening_nothing i sound

pub returns-clause-day_end : goal.returns-clause-day_end
returns-clause-day_end c = λ i lines n day title meant sound in_range.
    day_end title meant day lines n i sound in_range
    ∙ ap (λ z. z +ℤ posted title meant (between 0 day (transactions n lines i))) (sym (opening_is title meant i sound))
