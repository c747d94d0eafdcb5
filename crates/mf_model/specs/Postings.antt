-- The entries that staff make of a loan: each is the next of its account, and stands.
use Rattle.std.specs.Prelude.{ℕ, ◌+◌, false, length, None}
use Rattle.mf_catalog.specs.declared.charge.ChargeDef.{ChargeDef}
use Rattle.mf_office.specs.declared.caller.Caller.{Caller}
use Rattle.mf_alloc.specs.declared.row.Portion.{Portion}
use Rattle.mf_alloc.specs.declared.row.Portion.TheVariants as portion
use Rattle.mf_alloc.specs.declared.row.Portion.TheVariants.{Fee, Principal}
use Rattle.mf_account.specs.declared.entry.Entry.{Entry}
use Rattle.mf_account.specs.declared.entry.Kind.{Kind}
use Rattle.mf_account.specs.declared.entry.Kind.TheVariants as kind
use Rattle.mf_account.specs.Loan.{DisbursedLoan}
use Rattle.mf_account.specs.Charges.{fee_amount, fee_instalment, penalty_amount}
use Rattle.mf_model.specs.declared.request.Posting.{Posting}
use Rattle.mf_model.specs.declared.request.Posting.TheVariants.{Penalty, Waiver, WriteOff, Refund}
use Rattle.mf_model.specs.declared.request.Repayment.{Repayment}
use Rattle.mf_model.specs.Waivable.{portion_of}

-- a repayment counts from the day that it names
abbrev pub repayment : Repayment → Caller → DisbursedLoan → Entry
repayment asked staff a = record {
  seq = length a.entries + 1;
  kind = kind.Repay;
  day = asked.day;
  amount = asked.amount;
  instalment = 0;
  portion = Principal;
  receipt = asked.receipt;
  staff = staff;
  reversed = false;
}

-- every other entry counts from the business day, and has no receipt
abbrev pub entry_of_today : Kind → ℕ → ℕ → Portion → Caller → ℕ → DisbursedLoan → Entry
entry_of_today kind amount instalment portion staff today a = record {
  seq = length a.entries + 1;
  kind = kind;
  day = today;
  amount = amount;
  instalment = instalment;
  portion = portion;
  receipt = None;
  staff = staff;
  reversed = false;
}

-- a fee by a charge, which falls due on a day
abbrev pub fee : ChargeDef → ℕ → Caller → ℕ → DisbursedLoan → Entry
fee charge due staff today a = entry_of_today kind.Fee (fee_amount a charge) (fee_instalment a due) Fee staff today
    a

-- a penalty, a waiver, a write-off or a refund; what the last three clear is read off the account
abbrev pub posting : Posting → Caller → ℕ → DisbursedLoan → Entry
posting (Penalty instalment) staff today a =
    entry_of_today kind.Penalty (penalty_amount a instalment) instalment portion.Penalty staff today a
posting (Waiver instalment portion) staff today a =
    entry_of_today kind.Waive 0 instalment (portion_of portion) staff today a
posting WriteOff staff today a = entry_of_today kind.WriteOff 0 0 Principal staff today a
posting Refund staff today a = entry_of_today kind.Refund 0 0 Principal staff today a
