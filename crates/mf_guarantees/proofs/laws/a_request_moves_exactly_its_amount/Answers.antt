use Rattle.mf_guarantees.proofs.MoveLemmas.{repayment_rises, reversal_falls, paying_out_rises}
use Rattle.mf_guarantees.proofs.laws.a_request_moves_exactly_its_amount.Goals as goal

pub returns-clause-repayment : goal.returns-clause-repayment
returns-clause-repayment c = λ call i change loan asked tree is h. repayment_rises call i change loan asked tree is h

pub returns-clause-reversal : goal.returns-clause-reversal
returns-clause-reversal c = λ call i change loan seq ledger tree is there h.
    reversal_falls call i change loan seq ledger tree is there h

pub returns-clause-paying_out : goal.returns-clause-paying_out
returns-clause-paying_out c = λ call i change loan day ledger tree is there h.
    paying_out_rises call i change loan day ledger tree is there h
