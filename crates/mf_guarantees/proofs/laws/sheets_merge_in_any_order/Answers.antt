use Rattle.mf_guarantees.proofs.MergeLemmas.{instalments_alike, statements_alike}
use Rattle.mf_guarantees.proofs.OneReceiptLemmas.{taken_once}
use Rattle.mf_guarantees.proofs.laws.sheets_merge_in_any_order.Goals as goal

pub returns-clause-sums : goal.returns-clause-sums
returns-clause-sums c = λ i lines others loan sound range too only too_only same.
    statements_alike i lines others loan sound range too only too_only same

pub returns-clause-instalments : goal.returns-clause-instalments
returns-clause-instalments c = λ i lines others loan sound range too only too_only same.
    instalments_alike i lines others loan sound range too only too_only same

pub returns-clause-once : goal.returns-clause-once
returns-clause-once c = λ i lines loan asked receipt sound range taken has.
    taken_once i lines loan asked receipt sound range taken has
