use Rattle.std.proofs.Common.{◌≡◌, ◌∙◌, ℕ, sym, ap}
use Rattle.std.specs.Prelude.{slice_index}
use Rattle.mf_account.specs.declared.balances.Balances.{Balances}
use Rattle.mf_model.specs.Accounts.{balances_in}
use Rattle.mf_model.specs.Institution.{Ledger}
use Rattle.mf_store_audit.specs.Sums.{lent_on}
use Rattle.mf_store_audit.proofs.AddedLemmas.{alone}
use Rattle.mf_store_audit.proofs.sums_by_loan.principal_of.Goals as goal

pub returns : goal.returns
returns c k l is lent =
    let b : Balances = c.args.balances.now in
    let place : ◌≡◌ {A = ℕ} 3 c.index-place.result = sym c.index-place.ensures.value in
    λ t. record {
      disbursed = alone (lent_on k) l c.from.result (lent ∙ sym c.from.ensures) t;
      paid = alone (λ (m : Ledger). slice_index (balances_in k m).paid 3) l c.from-2.result (ap (λ (x : Balances).
          slice_index x.paid 3) is ∙ ap (λ (p : ℕ). slice_index b.paid p) place ∙ sym c.from-2.ensures) t;
      written_off = alone (λ (m : Ledger). slice_index (balances_in k m).written_off 3) l c.from-3.result
          (ap (λ (x : Balances). slice_index x.written_off 3) is ∙ ap (λ (p : ℕ). slice_index b.written_off p) place
          ∙ sym c.from-3.ensures) t;
      outstanding = alone (λ (m : Ledger). slice_index (balances_in k m).outstanding 3) l c.from-4.result
          (ap (λ (x : Balances). slice_index x.outstanding 3) is ∙ ap (λ (p : ℕ). slice_index b.outstanding p) place
          ∙ sym c.from-4.ensures) t;
    }
