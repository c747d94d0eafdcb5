use Rattle.std.proofs.Common.{◌≡◌, ◌∙◌, sym}
use Rattle.mf_store_values.specs.Decoded.{entry_with, entry_columns_of}
use Rattle.mf_store_values.proofs.entries.entry_from.Goals as goal

pub returns-clause-entry : goal.returns-clause-entry
returns-clause-entry c office loan e in_range is =
    let columns : c.in_ok-columns.columns ≡ entry_columns_of e =
    (rw (c.in_ok-columns.ensures {u = tt}).value at c.entry_columns.ensures.only) office loan e in_range (sym is) in
    let receipt = c.receipt_from.ensures ∙ (λ t. (is t).receipt) in
    c.entry.ensures ∙ (λ t. entry_with (is t).seq (is t).instalment (receipt t) (columns t))
