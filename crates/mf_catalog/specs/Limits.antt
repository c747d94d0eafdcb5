-- The limits, each once as a number, and what a charge and the terms of a loan may be.
use Rattle.std.specs.Prelude.{ℕ, ◌≤◌, ◌^◌, IfSome}
use Rattle.mf_base.specs.declared.day.Freq.{Freq}
use Rattle.mf_base.specs.declared.day.Freq.TheVariants.{Weeks, Months}
use Rattle.mf_catalog.specs.declared.charge.ChargeDef.{ChargeDef}
use Rattle.mf_catalog.specs.declared.charge.Calc.{Calc}
use Rattle.mf_catalog.specs.declared.charge.Calc.TheVariants.{Flat, OfAmount, OfInterest, OfBoth}
use Rattle.mf_catalog.specs.declared.terms.Terms.{Terms}

-- a principal, an amount and a flat charge, in cents
abbrev pub greatest_amount : ℕ
greatest_amount = 10 ^ 12

-- the percentage of a charge, in hundredths of a percent: the whole of its base
abbrev pub greatest_percentage : ℕ
greatest_percentage = 10000

-- the annual rate, in hundredths of a percent
abbrev pub greatest_rate : ℕ
greatest_rate = 100000

-- from one due day to the next: weeks, months, and the days of a period, which are 7 a week and 30 a month
abbrev pub most_weeks : ℕ
most_weeks = 52

-- months from one due day to the next, at most
abbrev pub most_months : ℕ
most_months = 12

-- days of a period, at most
abbrev pub most_days : ℕ
most_days = 364

-- the periods of a loan, and each of its graces
abbrev pub most_periods : ℕ
most_periods = 360

-- periods of a grace, at most
abbrev pub most_grace : ℕ
most_grace = 359

-- the greatest value: an amount where the charge is flat, else a percentage
abbrev pub greatest_value : Calc → ℕ
greatest_value Flat = greatest_amount
greatest_value OfAmount = greatest_percentage
greatest_value OfInterest = greatest_percentage
greatest_value OfBoth = greatest_percentage

-- a charge whose value is within its limits
pub record IsChargeWithinLimits (charge : ChargeDef) : Type 0 where
  pub some : 1 ≤ charge.value
  pub most : charge.value ≤ greatest_value charge.calc

-- the longest step from one due day to the next
abbrev pub longest_step : Freq → ℕ
longest_step Weeks = most_weeks
longest_step Months = most_months

-- the graces are bounded by a loan's periods, and so by nothing here
pub record AreTermsWithinLimits (terms : Terms) : Type 0 where
  pub rate : terms.rate ≤ greatest_rate
  pub some_step : 1 ≤ terms.every
  pub longest : terms.every ≤ longest_step terms.freq
  pub disbursement : IfSome terms.disbursement IsChargeWithinLimits
  pub instalment : IfSome terms.instalment IsChargeWithinLimits
  pub overdue : IfSome terms.overdue IsChargeWithinLimits
