-- Instalments of which a second program worked out the yearly rate. All are of loans that are paid out on 2024-01-31.
use Rattle.std.specs.Prelude.{ℕ, List, [], ◌∷◌, map}
use Rattle.mf_schedule.specs.declared.instalment.FreshInstalment.{FreshInstalment}

-- 2024-01-31
abbrev pub pay_out_day : ℕ
pay_out_day = 8796

-- so much is asked on a day
abbrev pub row_asked : ℕ → ℕ → FreshInstalment
row_asked day cents = record { due = day; principal = cents; interest = 0; fees = 0 }

-- 1,000.00 by equal principal at 12 percent: due on 2024-02-29, 2024-03-31 and 2024-04-30
abbrev pub quarter : List FreshInstalment
quarter = row_asked 8825 34333 ∷ row_asked 8856 34000 ∷ row_asked 8886 33667 ∷ []

-- 1,200.00 flat at 12 percent: due at the end of each month up to 2025-01-31
abbrev pub year_of_twelve : List FreshInstalment
year_of_twelve = map (λ day. row_asked day 11200) (8825 ∷ 8856 ∷ 8886 ∷ 8917 ∷ 8947 ∷ 8978 ∷ 9009 ∷ 9039 ∷ 9070 ∷ 9100
    ∷ 9131 ∷ 9162 ∷ [])

-- 1,100.00 after 365 days
abbrev pub in_a_year : List FreshInstalment
in_a_year = row_asked 9161 110000 ∷ []

-- a cent after a month
abbrev pub one_cent : List FreshInstalment
one_cent = row_asked 8825 1 ∷ []
