use Rattle.std.proofs.Common.{◌≡◌, ℕ, ◌-◌, ◌≤◌, true}
use Rattle.mf_lists.specs.Rate.{is_borne, most_daily_rate}
use Rattle.mf_lists.proofs.rate.least_daily_rate.Given as goal

abbrev pub invariant-loop-low : goal.invariant-loop-low
invariant-loop-low l = record {
  order : l.low ≤ l.high;
  within : l.high ≤ most_daily_rate;
  borne : is_borne l.handed l.day l.rows l.high ≡ true;
  none_below : (rate : ℕ) → is_borne l.handed l.day l.rows rate ≡ true → l.low ≤ rate;
}

abbrev pub decreases-loop-low : goal.decreases-loop-low
decreases-loop-low l = l.high - l.low
