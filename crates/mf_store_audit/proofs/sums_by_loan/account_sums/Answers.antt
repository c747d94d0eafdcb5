use Rattle.std.proofs.Common.{◌∙◌, sym, ap}
use Rattle.mf_account.specs.Balance.{sum_repaid}
use Rattle.mf_store_audit.proofs.LoanLemmas.{account_of, status_is, balances_are, lent_is, entries_are}
use Rattle.mf_store_audit.proofs.sums_by_loan.account_sums.Goals as goal

pub returns : goal.returns
returns c k l some lent =
    let of = account_of k l c.args.account.now some in
    let balances = balances_are k l c.args.account.now of ∙ sym c.balances-balances.ensures.value in
    let entries = entries_are k l c.args.account.now of ∙ sym c.entries-entries.ensures in
    λ t. record {
      clients = 0;
      loans = c.count_at.ensures k l (status_is k l c.args.account.now of ∙ sym c.status.ensures ∙ sym c.from.ensures)
          t;
      entries = c.count_entries.ensures l entries t;
      principal = c.principal_of.ensures k l balances (lent_is k l c.args.account.now of ∙ lent) t;
      money = c.money_of.ensures k l balances (ap sum_repaid entries ∙ sym c.sum_repaid.ensures) t;
    }
