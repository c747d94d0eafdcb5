use Rattle.std.proofs.Common.{refl, arith}
use Rattle.mf_lists.specs.Rate.{after_days, bears}
use Rattle.mf_lists.specs.WorkedRates.{pay_out_day, quarter, year_of_twelve, in_a_year, one_cent}
use Rattle.mf_lists.proofs.RateLemmas.{worked, nothing_for_as_much}
use Rattle.mf_lists.proofs.laws.worked_rates.Goals as goal

pub returns-clause-quarter : goal.returns-clause-quarter
unfolding after_days bears
returns-clause-quarter c = worked 100000 pay_out_day quarter 333635000 (omega arith) refl refl

pub returns-clause-quarter_with_fee : goal.returns-clause-quarter_with_fee
unfolding after_days bears
returns-clause-quarter_with_fee c = worked 98500 pay_out_day quarter 589130933 (omega arith) refl refl

pub returns-clause-year : goal.returns-clause-year
unfolding after_days bears
returns-clause-year c = worked 120000 pay_out_day year_of_twelve 584108694 (omega arith) refl refl

pub returns-clause-year_with_fee : goal.returns-clause-year_with_fee
unfolding after_days bears
returns-clause-year_with_fee c = worked 117600 pay_out_day year_of_twelve 690377080 (omega arith) refl refl

pub returns-clause-in_a_year : goal.returns-clause-in_a_year
unfolding after_days bears
returns-clause-in_a_year c = worked 100000 pay_out_day in_a_year 261157876 (omega arith) refl refl

pub returns-clause-one_cent : goal.returns-clause-one_cent
returns-clause-one_cent c = nothing_for_as_much 1 pay_out_day one_cent (omega arith)
