-- The standing entries are the one list of those not reversed that ascends by day and number.
use Rattle.std.specs.Prelude.{◌≡◌, ℕ, ◌⊎◌, true, false, List, [], ◌∷◌}
use Rattle.mf_account.specs.declared.entry.Entry.{Entry}
use Rattle.mf_account.specs.Standing.{is_before, standing_entries}
use Rattle.mf_account.specs.Loan.{AreEntries}

-- an entry is one of these
abbrev pub IsAmong : Entry → List Entry → Type 0
IsAmong e [] = ⊥
IsAmong e (x ∷ xs) = (e ≡ x) ⊎ IsAmong e xs

-- an entry comes before each of a list
abbrev pub Precedes : Entry → List Entry → Type 0
Precedes e [] = Unit {0}
Precedes e (x ∷ xs) = (is_before e x ≡ true) × Precedes e xs

-- each comes before all later ones
abbrev pub Ascends : List Entry → Type 0
Ascends [] = Unit {0}
Ascends (x ∷ xs) = Precedes x xs × Ascends xs

-- a list of exactly the entries that are not reversed, in order
pub record IsStandingOf (entries others : List Entry) : Type 0 where
  pub ascends : Ascends others
  pub from : (e : Entry) → IsAmong e others → IsAmong e entries × (e.reversed ≡ false)
  pub to : (e : Entry) → IsAmong e entries → e.reversed ≡ false → IsAmong e others

-- the standing entries are such a list, and the only one
abbrev pub StandingIsOne : Type 0
StandingIsOne =
    (n day : ℕ) (entries : List Entry) → AreEntries n day entries →
    IsStandingOf entries (standing_entries entries) × ((others : List Entry) → IsStandingOf entries others
    → others ≡ standing_entries entries)
