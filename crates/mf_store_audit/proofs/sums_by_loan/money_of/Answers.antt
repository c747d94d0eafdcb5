use Rattle.std.proofs.Common.{◌∙◌, sum, ap, sym}
use Rattle.mf_account.specs.declared.balances.Balances.{Balances}
use Rattle.mf_account.specs.Balance.{sum_repaid}
use Rattle.mf_model.specs.Accounts.{balances_in}
use Rattle.mf_model.specs.Institution.{Ledger}
use Rattle.mf_store_audit.proofs.AddedLemmas.{alone}
use Rattle.mf_store_audit.proofs.sums_by_loan.money_of.Goals as goal

pub returns : goal.returns
returns c k l is brought = λ t. record {
  repaid = alone (λ (m : Ledger). sum_repaid m.entries) l c.args.repaid brought t;
  paid = alone (λ (m : Ledger). sum (balances_in k m).paid) l c.sum_of.result (ap (λ (b : Balances). sum b.paid) is
      ∙ sym c.sum_of.ensures) t;
  overpaid = alone (λ (m : Ledger). (balances_in k m).overpaid) l c.from.result (ap (λ (b : Balances). b.overpaid) is
      ∙ sym c.from.ensures) t;
  refunded = alone (λ (m : Ledger). (balances_in k m).refunded) l c.from-2.result (ap (λ (b : Balances). b.refunded) is
      ∙ sym c.from-2.ensures) t;
}
