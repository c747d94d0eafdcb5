-- Days overdue.
use Rattle.std.specs.Prelude.{ℕ, ◌-◌, min, List, map, filter, fold, Option, Some, None}
use Rattle.mf_alloc.specs.Sums.{Instalment, is_open}

-- the earlier of a day, where there is one, and another
abbrev pub earlier : Option ℕ → ℕ → Option ℕ
earlier None other = Some other
earlier (Some day) other = Some (min day other)

-- the earliest due day of an instalment with something outstanding
abbrev pub earliest_due : List Instalment → Option ℕ
earliest_due rows = fold earlier None (map (λ (row : Instalment). row.due) (filter is_open rows))

-- the days since a day, and 0 where it is not past or there is none
abbrev pub days_since : ℕ → Option ℕ → ℕ
days_since day None = 0
days_since day (Some due) = day - due

-- how many days ago the earliest instalment fell due of which something is outstanding
abbrev pub days_overdue : List Instalment → ℕ → ℕ
days_overdue rows day = days_since day (earliest_due rows)
