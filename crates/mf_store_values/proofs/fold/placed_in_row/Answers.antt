use Rattle.mf_store_values.specs.Flat.{instalment_in}
use Rattle.mf_store_values.proofs.fold.placed_in_row.Goals as goal

pub returns-clause-row : goal.returns-clause-row
returns-clause-row c office loan number sums whole is =
    let found = c.in_ok-found.ensures.row (instalment_in office loan (number, sums)) is in
    let read = c.in_ok-instalment.ensures.row office loan number sums whole found in
    λ t. ((found t).loan, read t)
