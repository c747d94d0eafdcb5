use Rattle.std.proofs.Common.{ap}
use Rattle.mf_account.specs.Balance.{balances_by}
use Rattle.mf_account.specs.Effect.{State}
use Rattle.mf_account.specs.Loan.{fee_of_loan}
use Rattle.mf_guarantees.proofs.CutLemmas.{cut_same}
use Rattle.mf_guarantees.proofs.ReorderLemmas.{same_state}
use Rattle.mf_guarantees.proofs.ReshuffleLemmas.{reshuffled_same}
use Rattle.mf_guarantees.proofs.laws.the_order_of_entering_counts_nothing.Goals as goal

pub returns-clause-instalments : goal.returns-clause-instalments
returns-clause-instalments c = λ loan entries one other reordered.
    ap (λ (s : State). s.rows) (same_state loan entries one other reordered)

pub returns-clause-sums : goal.returns-clause-sums
returns-clause-sums c = λ loan entries one other reordered.
    ap (balances_by (fee_of_loan loan)) (same_state loan entries one other reordered)

pub returns-clause-repayments_instalments : goal.returns-clause-repayments_instalments
returns-clause-repayments_instalments c = λ loan entries sound numbers shuffled.
    ap (λ (s : State). s.rows) (reshuffled_same loan entries sound numbers shuffled)

pub returns-clause-repayments_sums : goal.returns-clause-repayments_sums
returns-clause-repayments_sums c = λ loan entries sound numbers shuffled.
    ap (balances_by (fee_of_loan loan)) (reshuffled_same loan entries sound numbers shuffled)

pub returns-clause-cut_instalments : goal.returns-clause-cut_instalments
returns-clause-cut_instalments c = λ loan entries sound numbers cut.
    ap (λ (s : State). s.rows) (cut_same loan entries sound numbers cut)

pub returns-clause-cut_sums : goal.returns-clause-cut_sums
returns-clause-cut_sums c = λ loan entries sound numbers cut.
    ap (balances_by (fee_of_loan loan)) (cut_same loan entries sound numbers cut)
