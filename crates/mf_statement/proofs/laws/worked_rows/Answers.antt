use Rattle.std.proofs.Common.{refl}
use Rattle.mf_base.specs.Calendar.{day_of, date_of}
use Rattle.mf_statement.proofs.laws.worked_rows.Goals as goal

pub returns-clause-days : goal.returns-clause-days
unfolding day_of date_of
returns-clause-days c = (refl, refl, refl, refl)

pub returns-clause-repayments : goal.returns-clause-repayments
unfolding day_of date_of
returns-clause-repayments c = (refl, refl, refl)

pub returns-clause-instalments : goal.returns-clause-instalments
unfolding day_of date_of
returns-clause-instalments c = (refl, refl)

pub returns-clause-principal_first : goal.returns-clause-principal_first
returns-clause-principal_first c = refl

pub returns-clause-interest_first : goal.returns-clause-interest_first
returns-clause-interest_first c = refl

pub returns-clause-due_first : goal.returns-clause-due_first
unfolding day_of date_of
returns-clause-due_first c = (refl, refl)

pub returns-clause-due_first_with_charges : goal.returns-clause-due_first_with_charges
unfolding day_of date_of
returns-clause-due_first_with_charges c = refl

pub returns-clause-reversal : goal.returns-clause-reversal
returns-clause-reversal c = refl

pub returns-clause-fee : goal.returns-clause-fee
unfolding day_of date_of
returns-clause-fee c = (refl, refl)

pub returns-clause-penalty : goal.returns-clause-penalty
unfolding day_of date_of
returns-clause-penalty c = (refl, refl)

pub returns-clause-waiver : goal.returns-clause-waiver
returns-clause-waiver c = (refl, refl)

pub returns-clause-write_off : goal.returns-clause-write_off
returns-clause-write_off c = refl

pub returns-clause-refund : goal.returns-clause-refund
returns-clause-refund c = (refl, refl)
