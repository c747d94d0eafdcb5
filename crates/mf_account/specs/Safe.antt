-- What an account keeps, whatever its entries say: sums that leave room for more, and parts that have a cell and an
-- entry.
use Rattle.std.specs.Prelude.{◌≡◌, ℕ, ◌+◌, ◌≤◌, ◌^◌, List, length}
use Rattle.mf_alloc.specs.Sums.{AreWhole, AreWithin}
use Rattle.mf_account.specs.declared.settled.SettledPart.{SettledPart}
use Rattle.mf_account.specs.Effect.{State}
use Rattle.mf_account.specs.Account.{sum_at}
use Rattle.mf_account.specs.Applicable.{AreInRows}
use Rattle.mf_account.specs.Told.{settled_amount, AreNumberedTo}

-- cents: far more than a sound loan comes to, and far less than 64 bits hold
abbrev pub most_kept : ℕ
most_kept = 10 ^ 18

-- a state of n instalments, each with four sums of each kind, and no more settled than owed
pub record IsShaped (n : ℕ) (state : State) : Type 0 where
  pub size : length state.rows ≡ n
  pub whole : AreWhole state.rows
  pub within : AreWithin state.rows

-- a state of n instalments, with no more than so much owed of each portion, and overpaid and refunded
pub record IsBounded (n most : ℕ) (state : State) : Type 0 where
  pub size : length state.rows ≡ n
  pub whole : AreWhole state.rows
  pub within : AreWithin state.rows
  pub owed : (p : ℕ) → sum_at (λ row. row.owed) p state.rows ≤ most
  pub money : state.overpaid + state.refunded ≤ most

-- parts of cells of n instalments and of so many entries
pub record ArePlaced (n entries : ℕ) (settled : List SettledPart) : Type 0 where
  pub cells : AreInRows n settled
  pub numbers : AreNumberedTo entries settled
  pub amount : settled_amount settled ≤ most_kept

-- what is kept of an account of n instalments and so many entries
pub record IsSafe (n entries : ℕ) (state : State) (settled : List SettledPart) : Type 0 where
  pub bounded : IsBounded n most_kept state
  pub placed : ArePlaced n entries settled
