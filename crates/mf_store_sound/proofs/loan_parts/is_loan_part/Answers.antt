use Rattle.mf_store_sound.proofs.LoanPartLemmas.{loan_row_of, loan_part}
use Rattle.mf_store_values.proofs.AnswerLemmas.{refuses, no_answer}
use Rattle.mf_store_sound.proofs.loan_parts.is_loan_part.Goals as goal

pub returns-then-not-is_loan : goal.returns-then-not-is_loan
returns-then-not-is_loan c k d e names many = no_answer (λ part. refuses c.is_loan.result c.if-not-is_loan.true
    (c.is_loan.ensures k d e names many) (loan_row_of k names _ _ _ _ part))

pub returns : goal.returns
returns c k d e names many = loan_part k names _ _ _ _ _ ((c.is_loan.ensures k d e names many).0
    c.if-not-is_loan.false) (rw (← d) at c.are_entries_of.ensures)
