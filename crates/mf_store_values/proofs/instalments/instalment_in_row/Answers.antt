use Rattle.std.proofs.lemmas.Result.{IfOk-weaker}
use Rattle.mf_store_values.specs.Flat.{instalment_in}
use Rattle.mf_store_values.proofs.instalments.instalment_in_row.Goals as goal

pub returns-clause-row : goal.returns-clause-row
returns-clause-row c =
    IfOk-weaker c.instalment_from.result _ _ (λ found read office loan number sums whole is. read office loan number
    sums whole (c.in_ok-found.ensures.row (instalment_in office loan (number, sums)) is))
    c.instalment_from.ensures.row
