use Rattle.std.proofs.Common.{◌≡◌, ◌∙◌, Some, sym, ap}
use Rattle.mf_store_values.specs.Decoded.{entry_with, entry_columns_of}
use Rattle.std.proofs.lemmas.Option.{same_Some}
use Rattle.mf_store_values.proofs.kept_entries.entry_of.Goals as goal

pub returns-in_default-clause-entry : goal.returns-in_default-clause-entry
returns-in_default-clause-entry c office loan e readable is =
    absurd (c.in_default.not-Some _ (c.entry_columns.ensures.every office loan e readable is))

pub returns-clause-entry : goal.returns-clause-entry
returns-clause-entry c office loan e readable is =
    let columns : c.in-Some.columns ≡ entry_columns_of e =
    same_Some _ _ (sym c.in-Some.is ∙ c.entry_columns.ensures.every office loan e readable is) in
    let receipt = (c.in_ok-receipt.ensures {u = tt}).receipt ∙ (λ t. (sym is t).receipt) in
    ap Some (c.entry.ensures ∙ (λ t. entry_with (sym is t).seq (sym is t).instalment (receipt t) (columns t)))
