use Rattle.std.proofs.Common.{[], None, Some, refl, ◌∙◌}
use Rattle.std.proofs.lemmas.Result.{IfOk-weaker}
use Rattle.mf_model.specs.Accounts.{account_in}
use Rattle.mf_store_schema.specs.Rows.{instalment_row, is_instalment_of}
use Rattle.mf_store_values.specs.Flat.{instalment_in, instalments_kept, kept_of}
use Rattle.mf_store.proofs.InstalmentReadLemmas.{kept_shown, loan_account_sound, whole_kept, sums_kept}
use Rattle.mf_store.proofs.store.Store.instalments_at.Goals as goal

pub returns-clause-value : goal.returns-clause-value
returns-clause-value g c clean i s l there =
    let loan = c.args.loan in
    let rows = rw (c.get.ensures.value, c.get-2.ensures.value) at (c.in_ok-rows.ensures.rows clean i s) in
    IfOk-weaker c.instalments_from.result _ _ (λ list read. read loan.office loan.number
    (kept_of instalments_kept i.catalogue l)
    (whole_kept (account_in i.catalogue l) (loan_account_sound loan l i s.sound there))
    (c.deref.ensures.value ∙ rows ∙ kept_shown instalment_row instalment_in (kept_of instalments_kept i.catalogue)
    is_instalment_of (λ x n y m a. refl) loan (Some l) i s.sound there)
    ∙ sums_kept (account_in i.catalogue l))
    c.instalments_from.ensures.rows

pub returns-clause-none : goal.returns-clause-none
returns-clause-none g c clean i s none =
    let loan = c.args.loan in
    let rows = rw (c.get.ensures.value, c.get-2.ensures.value) at (c.in_ok-rows.ensures.rows clean i s) in
    IfOk-weaker c.instalments_from.result _ _ (λ list read. read loan.office loan.number [] tt
    (c.deref.ensures.value ∙ rows ∙ kept_shown instalment_row instalment_in (kept_of instalments_kept i.catalogue)
    is_instalment_of (λ x n y m a. refl) loan None i s.sound none))
    c.instalments_from.ensures.rows
