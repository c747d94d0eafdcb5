-- What the kinds of entries have in common.
use Rattle.std.specs.Prelude.{ℕ, Bool, true, false}
use Rattle.mf_account.specs.declared.entry.Kind.{Kind}
use Rattle.mf_account.specs.declared.entry.Kind.TheVariants.{Repay, Fee, Penalty, Waive, WriteOff, Refund}

-- an entry of this kind writes off
abbrev pub is_write_off : Kind → Bool
is_write_off WriteOff = true
is_write_off Repay = false
is_write_off Fee = false
is_write_off Penalty = false
is_write_off Waive = false
is_write_off Refund = false

-- an entry of this kind refunds
abbrev pub is_refund : Kind → Bool
is_refund Refund = true
is_refund Repay = false
is_refund Fee = false
is_refund Penalty = false
is_refund Waive = false
is_refund WriteOff = false

-- a write-off and a refund seal the loan while they stand
abbrev pub is_seal : Kind → Bool
is_seal WriteOff = true
is_seal Refund = true
is_seal Repay = false
is_seal Fee = false
is_seal Penalty = false
is_seal Waive = false

-- the money that an entry brings: what is repaid
abbrev pub money_in : Kind → ℕ → ℕ
money_in Repay amount = amount
money_in Fee amount = 0
money_in Penalty amount = 0
money_in Waive amount = 0
money_in WriteOff amount = 0
money_in Refund amount = 0

-- the money that an entry gives back: what is overpaid, where it is a refund
abbrev pub money_out : Kind → ℕ → ℕ
money_out Refund overpaid = overpaid
money_out Repay overpaid = 0
money_out Fee overpaid = 0
money_out Penalty overpaid = 0
money_out Waive overpaid = 0
money_out WriteOff overpaid = 0

-- an entry of this kind charges a penalty
abbrev pub is_penalty : Kind → Bool
is_penalty Penalty = true
is_penalty Repay = false
is_penalty Fee = false
is_penalty Waive = false
is_penalty WriteOff = false
is_penalty Refund = false
