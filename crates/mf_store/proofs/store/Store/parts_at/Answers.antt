use Rattle.std.proofs.Common.{Some, refl, ◌∙◌}
use Rattle.std.proofs.lemmas.Result.{IfOk-weaker}
use Rattle.mf_store_schema.specs.Rows.{share_row, is_share_of}
use Rattle.mf_store_values.specs.Flat.{share_in, shares_kept, kept_of}
use Rattle.mf_store.proofs.InstalmentReadLemmas.{kept_shown}
use Rattle.mf_store.proofs.store.Store.parts_at.Goals as goal

pub returns-clause-value : goal.returns-clause-value
returns-clause-value g c clean i s l there =
    let loan = c.args.loan in
    let rows = rw (c.get.ensures.value, c.get-2.ensures.value) at (c.in_ok-rows.ensures.rows clean i s) in
    IfOk-weaker c.parts_from.result _ _ (λ parts read. read loan.office loan.number
    (kept_of shares_kept i.catalogue l) (c.deref.ensures.value ∙ rows ∙ kept_shown share_row share_in
    (kept_of shares_kept i.catalogue) is_share_of (λ x n y m a. refl) loan (Some l) i s.sound there))
    c.parts_from.ensures.parts
