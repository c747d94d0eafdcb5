-- Rows by their places in the order of a table's key, what a row owes to the one before it, and what is found of rows.
use Rattle.std.specs.Prelude.{◌≡◌, ◌≢◌, ◌⊎◌, ℕ, ◌+◌, ◌-◌, ◌==◌, ◌≤◌, Bool, true, cond, List, [], ◌∷◌, ◌++◌}
use Rattle.std.specs.Prelude.{Option, Some, None, slice_get}
use Rattle.std.specs.List.{AllByRecursion}
use Rattle.std.specs.declared.cmp.Ordering.{Ordering}
use Rattle.std.specs.declared.cmp.Ordering.TheVariants.{Less}
use Rattle.mf_base.specs.DayText.{last_entered_day, day_text}

-- the row before a place, counted from 0
abbrev pub row_before : {R : Type 0} → List R → ℕ → Option R
row_before rows place = cond (place == 0) None (slice_get rows (place - 1))

-- the row at a place is one of which this holds, beside the row before it
pub record IsAt {R : Type 0} (Holds : Option R → R → Type 0) (place : ℕ) (rows : List R) : Type 0 where
  pub row : R
  pub at : slice_get rows place ≡ Some row
  pub holds : Holds (row_before rows place) row

-- one of a list
abbrev pub IsOneOf : {A : Type 0} → List A → A → Type 0
IsOneOf [] a = ⊥
IsOneOf (b ∷ bs) a = (b ≡ a) ⊎ IsOneOf bs a

-- the first of a list of which this holds, if it holds of one
abbrev pub IsFirst : {A : Type 0} → (A → Type 0) → List A → Option A → Type 0
IsFirst Holds [] first = first ≡ None
IsFirst Holds (a ∷ later) first = (Holds a × (first ≡ Some a)) ⊎ ((¬ Holds a) × IsFirst Holds later first)

-- what is told of the row at a place: the condition that it breaks, if it breaks one
abbrev pub told_at : {F N : Type 0} → (ℕ → F → N) → ℕ → Option F → List N
told_at name place None = []
told_at name place (Some flaw) = name place flaw ∷ []

-- What is found of rows from a place on, behind another row: of each that breaks a condition, row by row, the first
-- condition that it breaks, and of no other row anything.
abbrev pub AreFound : {F R N : Type 0} → List F → (F → Option R → R → Type 0) → (ℕ → F → N) → ℕ → Option R → List R
    → List N → Type 0
AreFound flaws breaks name place before [] found = found ≡ []
AreFound flaws breaks name place before (row ∷ rows) found =
    (first : Option _) × (later : List _) × IsFirst (λ flaw. breaks flaw before row) flaws first
    × AreFound flaws breaks name (place + 1) (Some row) rows later × (found ≡ told_at name place first ++ later)

-- the same of a whole table
abbrev pub AreFoundIn : {F R N : Type 0} → List F → (F → Option R → R → Type 0) → (ℕ → F → N) → List R → List N
    → Type 0
AreFoundIn flaws breaks name rows found = AreFound flaws breaks name 0 None rows found

-- these are found one after the other
abbrev pub AreInTurn : {N : Type 0} → List (List N → Type 0) → List N → Type 0
AreInTurn [] found = found ≡ []
AreInTurn (Part ∷ Parts) found =
    (first : List _) × (later : List _) × Part first × AreInTurn Parts later × (found ≡ first ++ later)

-- each of these names a condition that the row at its place breaks
abbrev pub AreOfRows : {F R N : Type 0} → (F → Option R → R → Type 0) → (ℕ → F → N) → List R → List N → Type 0
AreOfRows breaks name rows found =
    AllByRecursion (λ n. (place : ℕ) × (flaw : _) × (n ≡ name place flaw) × IsAt (breaks flaw) place rows) found

-- the number after that of the row before, where that is of the same owner, and else 1
abbrev pub number_within : {R : Type 0} → (R → Bool) → (R → ℕ) → Option R → ℕ
number_within is_own number None = 1
number_within is_own number (Some before) = cond (is_own before) (number before + 1) 1

-- the same where one owns all rows
abbrev pub number_after : {R : Type 0} → (R → ℕ) → Option R → ℕ
number_after number = number_within (λ row. true) number

-- a row comes after the one before it
abbrev pub IsAfter : {R : Type 0} → (R → R → Ordering) → Option R → R → Type 0
IsAfter cmp None row = Unit {0}
IsAfter cmp (Some before) row = cmp before row ≡ Less

-- the text of no day that can be entered
abbrev pub IsNoDay : List ℕ → Type 0
IsNoDay text = (day : ℕ) → day ≤ last_entered_day → day_text day ≢ text
