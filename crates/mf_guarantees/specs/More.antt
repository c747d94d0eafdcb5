-- The same entries, where some repayments are of more.
use Rattle.std.specs.Prelude.{◌≡◌, ◌⊎◌, ◌≤◌}
use Rattle.mf_account.specs.declared.entry.Entry.{Entry}
use Rattle.mf_account.specs.declared.entry.Kind.TheVariants.{Repay}

-- a repayment is as it was, but of no less
pub record IsRaised (a b : Entry) : Type 0 where
  pub kind : a.kind ≡ Repay
  pub amount : a.amount ≤ b.amount
  pub members : record a { amount = b.amount } ≡ b

-- an entry is as it was, or is a repayment that is of no less
abbrev pub PaysNoLess : Entry → Entry → Type 0
PaysNoLess a b = (a ≡ b) ⊎ IsRaised a b
