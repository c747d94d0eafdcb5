-- Charges by request: on which instalment a fee is laid, and what a fee or a penalty comes to. Both go by the fresh
-- schedule.
use Rattle.std.specs.Prelude.{ℕ, ◌+◌, ◌-◌, Bool, true, false, not, nat_lt, nat_le, if◌then◌else◌, List, slice_get}
use Rattle.std.specs.Prelude.{Option, Some, None}
use Rattle.std.specs.List.{position}
use Rattle.mf_base.specs.declared.fault.Fault.{Fault}
use Rattle.mf_base.specs.declared.fault.Fault.TheVariants.{F9, F10, F11}
use Rattle.mf_catalog.specs.declared.charge.ChargeDef.{ChargeDef}
use Rattle.mf_catalog.specs.declared.charge.ChargeKind.{ChargeKind}
use Rattle.mf_catalog.specs.declared.charge.ChargeKind.TheVariants.{Disbursement, Instalment, Overdue}
use Rattle.mf_catalog.specs.declared.charge.ChargeKind.TheVariants.{DueDate}
use Rattle.mf_catalog.specs.Charge.{amount_of, amount_of_any}
use Rattle.mf_schedule.specs.declared.instalment.FreshInstalment.{FreshInstalment}
use Rattle.mf_schedule.specs.Fresh.{total_interest}
use Rattle.mf_account.specs.declared.entry.Kind.TheVariants.{Fee}
use Rattle.mf_account.specs.Loan.{DisbursedLoan, schedule_of, status_of_loan}
use Rattle.mf_account.specs.Refusals.{is_sealed, admits}

-- an instalment is due on a day or after it
abbrev pub is_due_from : ℕ → FreshInstalment → Bool
is_due_from day i = nat_le day i.due

-- the number of what stands at a place, else n
abbrev pub number_or : ℕ → Option ℕ → ℕ
number_or n None = n
number_or n (Some at) = at + 1

-- the number of the first of n instalments that is due on a day or after it, else of the last
abbrev pub instalment_from : ℕ → ℕ → List FreshInstalment → ℕ
instalment_from n day schedule = number_or n (position (is_due_from day) schedule)

-- a fee that is due on a day is laid on the first instalment that is due then or later, else on the last
abbrev pub fee_instalment : DisbursedLoan → ℕ → ℕ
fee_instalment loan due = instalment_from loan.periods due (schedule_of loan)

-- a charge that falls due on a day which is named when it is entered
abbrev pub is_due_date : ChargeKind → Bool
is_due_date Disbursement = false
is_due_date Instalment = false
is_due_date Overdue = false
is_due_date DueDate = true

-- a due-date charge on the principal and the interest of the whole schedule; no other charge is a fee, and comes to 0
abbrev pub fee_on : ChargeDef → ℕ → List FreshInstalment → ℕ
fee_on charge principal schedule = if is_due_date charge.kind then amount_of charge principal (total_interest schedule)
    else 0

-- what a charge comes to as a fee on a loan
abbrev pub fee_amount : DisbursedLoan → ChargeDef → ℕ
fee_amount loan charge = fee_on charge loan.principal (schedule_of loan)

-- an overdue charge on the principal and interest of an instalment as scheduled; 0 where one of the two is wanting
abbrev pub penalty_on : Option ChargeDef → Option FreshInstalment → ℕ
penalty_on charge None = 0
penalty_on charge (Some i) = amount_of_any charge i.principal i.interest

-- what a loan's overdue charge comes to on an instalment
abbrev pub penalty_amount : DisbursedLoan → ℕ → ℕ
penalty_amount loan instalment = penalty_on loan.terms.overdue (slice_get (schedule_of loan) (instalment - 1))

-- a fee is refused before it is worked out: the loan is sealed, its status is another, or the fee falls due before
-- disbursement
abbrev pub fee_refused : DisbursedLoan → ℕ → Option Fault
fee_refused loan due =
    if is_sealed loan.entries then Some F11
    else (if not (admits Fee (status_of_loan loan)) then Some F9
    else (if nat_lt due loan.day then Some F10
    else None))
