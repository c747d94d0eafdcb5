-- An instalment's sums, in the order of the portions.
use Rattle.std.specs.Prelude.{◌≡◌, ℕ, ◌+◌, ◌-◌, ◌<◌, ◌≤◌, Bool, nat_lt, List, [], ◌∷◌, slice_index, length, All}

-- an instalment with what is owed, paid, waived and written off of it, by portion
pub record Instalment : Type 0 where
  pub due : ℕ
  pub owed : List ℕ
  pub paid : List ℕ
  pub waived : List ℕ
  pub written_off : List ℕ

-- in each portion, what is paid, waived and written off is together at most what is owed
abbrev pub IsWithin : List ℕ → List ℕ → List ℕ → List ℕ → Type 0
IsWithin owed paid waived written_off =
    (p : ℕ) → p < 4 → slice_index paid p + slice_index waived p + slice_index written_off p ≤ slice_index owed p

-- four sums of 0
abbrev pub nothing : List ℕ
nothing = 0 ∷ 0 ∷ 0 ∷ 0 ∷ []

-- an instalment with nothing paid
abbrev pub fresh_row : ℕ → List ℕ → Instalment
fresh_row due owed = record { due = due; owed = owed; paid = nothing; waived = nothing; written_off = nothing }

-- owed, less paid, waived and written off
abbrev pub open_at : Instalment → ℕ → ℕ
open_at row p =
    slice_index row.owed p - slice_index row.paid p - slice_index row.waived p - slice_index row.written_off p

-- what is outstanding in a row, over all portions
abbrev pub row_outstanding : Instalment → ℕ
row_outstanding row = open_at row 0 + open_at row 1 + open_at row 2 + open_at row 3

-- something is outstanding
abbrev pub is_open : Instalment → Bool
is_open row = nat_lt 0 (row_outstanding row)

-- four sums of each kind
pub record IsWhole (row : Instalment) : Type 0 where
  pub owed : length row.owed ≡ 4
  pub paid : length row.paid ≡ 4
  pub waived : length row.waived ≡ 4
  pub written_off : length row.written_off ≡ 4

-- each row has a sum for each portion
abbrev pub AreWhole : List Instalment → Type 0
AreWhole rows = All IsWhole rows

-- in a row, and in each of several, what is settled is at most what is owed
abbrev pub IsRowWithin : Instalment → Type 0
IsRowWithin row = IsWithin row.owed row.paid row.waived row.written_off

-- no row has more settled than owed
abbrev pub AreWithin : List Instalment → Type 0
AreWithin rows = All IsRowWithin rows
