-- The effective yearly rate of a schedule: the formula of Directive 2008/48/EC, Annex I, with the days of the calendar
-- and a year of 365. Interest is added every day at one daily rate; the yearly rate is what that comes to in a year.
use Rattle.std.specs.Prelude.{ℕ, zero, suc, ◌+◌, ◌-◌, ◌*◌, ◌^◌, nat_le, Bool, true, cond, ◌&&◌, List, [], ◌∷◌, sum_by}
use Rattle.std.specs.Prelude.{Option, Some, None}
use Rattle.mf_base.specs.Rounding.{half_even}
use Rattle.mf_schedule.specs.Fixed.{least}
use Rattle.mf_schedule.specs.declared.instalment.FreshInstalment.{FreshInstalment}

-- the parts of one in which a daily rate is told: trillionths
abbrev pub trillion : ℕ
trillion = 10 ^ 12

-- the parts of a cent in which balances are reckoned: millionths
abbrev pub million : ℕ
million = 10 ^ 6

-- the greatest daily rate that is looked for: 2 percent a day, which is 137,640.83 percent a year
abbrev pub most_daily_rate : ℕ
most_daily_rate = 2 * 10 ^ 10

-- the greatest yearly rate that is told, in hundredths of a percent
abbrev pub most_yearly_rate : ℕ
most_yearly_rate = 13764083

-- a balance with a day's interest
abbrev pub next_day : ℕ → ℕ → ℕ
next_day rate balance = balance + half_even (balance * rate) trillion

-- a balance with the interest of so many days, which is added every day
unfoldable pub after_days : ℕ → ℕ → ℕ → ℕ
after_days rate zero balance = balance
after_days rate (suc days) balance = next_day rate (after_days rate days balance)

-- what an instalment asks: principal, interest and fees, in millionths of a cent
abbrev pub millionths_asked : FreshInstalment → ℕ
millionths_asked row = million * (row.principal + row.interest + row.fees)

-- what instalments ask together
abbrev pub asked_by_all : List FreshInstalment → ℕ
asked_by_all rows = sum_by millionths_asked rows

-- at a daily rate, a balance of this day bears the instalments: none takes more than is there on its due day
unfoldable pub bears : ℕ → ℕ → ℕ → List FreshInstalment → Bool
bears rate day balance [] = true
bears rate day balance (row ∷ rows) =
    let grown = after_days rate (row.due - day) balance in
    nat_le (millionths_asked row) grown && bears rate row.due (grown - millionths_asked row) rows

-- what was handed over on a day, in cents, bears the instalments at a daily rate
abbrev pub is_borne : ℕ → ℕ → List FreshInstalment → ℕ → Bool
is_borne handed day rows rate = bears rate day (million * handed) rows

-- the least daily rate at which what was handed over bears the instalments; the greatest where none below does
abbrev pub least_daily_rate : ℕ → ℕ → List FreshInstalment → ℕ
least_daily_rate handed day rows = least (is_borne handed day rows) most_daily_rate

-- what a daily rate comes to in a year, in hundredths of a percent: what one whole grows by in 365 days
abbrev pub yearly_from : ℕ → ℕ
yearly_from rate = half_even (after_days rate 365 trillion - trillion) (10 ^ 8)

-- The effective yearly rate of what was handed over on a day and is paid back by these instalments, at the nearest
-- hundredth of a percent; none where even the greatest daily rate doesn't bear them.
abbrev pub yearly_rate : ℕ → ℕ → List FreshInstalment → Option ℕ
yearly_rate handed day rows = cond (is_borne handed day rows most_daily_rate)
    (Some (yearly_from (least_daily_rate handed day rows))) None
