use Rattle.std.proofs.Common.{List, ap}
use Rattle.mf_account.specs.declared.entry.Entry.{Entry}
use Rattle.mf_account.specs.Account.{after_entries, first_state}
use Rattle.mf_account.specs.Balance.{balances_by}
use Rattle.mf_account.specs.Loan.{fee_of_loan, orders_of, schedule_of}
use Rattle.mf_guarantees.proofs.ReversalLemmas.{standing_before}
use Rattle.mf_guarantees.proofs.laws.a_reversal_is_as_never_entered.Goals as goal

pub returns : goal.returns
returns c = λ loan entry.
    ap (λ (es : List Entry). balances_by (fee_of_loan loan) (after_entries (orders_of loan) es
    (first_state (schedule_of loan)))) (standing_before loan.entries entry)
