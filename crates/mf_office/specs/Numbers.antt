-- Numbers of offices, staff, clients and loans: each from 1 to a limit.
use Rattle.std.specs.Prelude.{ℕ, ◌≤◌, Bool, ◌&&◌, Option, Some, None, nat_le, if◌then◌else◌}

-- n lies from 1 to the limit
abbrev pub IsNumberUpTo : ℕ → ℕ → Type 0
IsNumberUpTo limit n = (1 ≤ n) × (n ≤ limit)

-- the test of it
abbrev pub is_number_up_to : ℕ → ℕ → Bool
is_number_up_to limit n = nat_le 1 n && nat_le n limit

-- the number, where it lies from 1 to the limit
abbrev pub number_up_to : ℕ → ℕ → Option ℕ
number_up_to limit n = if is_number_up_to limit n then Some n else None
