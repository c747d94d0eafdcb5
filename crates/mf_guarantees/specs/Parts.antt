-- The instalments of a schedule by their size: equal parts, and the fixed instalment.
use Rattle.std.specs.Prelude.{◌≡◌, ◌⊎◌, ℕ, ◌+◌, ◌<◌, ◌≤◌}
use Rattle.mf_catalog.specs.declared.terms.Terms.{Terms}
use Rattle.mf_schedule.specs.Fresh.{instalment_of}

-- two amounts differ by at most a cent
pub record DifferByACentAtMost (a b : ℕ) : Type 0 where
  pub first : a ≤ b + 1
  pub second : b ≤ a + 1

-- it is one of so many instalments, and it comes after a grace
pub record ComesAfter (grace n i : ℕ) : Type 0 where
  pub after : grace < i
  pub among : i ≤ n

-- an instalment bears the interest of its own period alone: no grace of interest was given, or the first instalment
-- after it, which bears the interest of the grace too, has come before
abbrev pub BearsItsOwnInterest : Terms → ℕ → Type 0
BearsItsOwnInterest terms i = (terms.interest_grace ≡ 0) ⊎ (terms.interest_grace + 1 < i)

-- principal and interest of instalment i
abbrev pub principal_and_interest : Terms → ℕ → ℕ → ℕ → ℕ → ℕ
principal_and_interest terms principal n day i =
    (instalment_of terms principal n day i).principal + (instalment_of terms principal n day i).interest
