-- The preview of the worked loan.
use Rattle.std.proofs.Common.{◌≡◌, Option, Ok, refl, ap, ◌∙◌, arith}
use Rattle.std.specs.Prelude.{ℕ}
use Rattle.mf_base.specs.Calendar.{day_of, date_of}
use Rattle.mf_lists.specs.Preview.{preview_in, preview_with}
use Rattle.mf_lists.specs.Rate.{after_days, bears}
use Rattle.mf_lists.specs.WorkedPreview.{worked_catalogue, worked_instalments, worked_loan}
use Rattle.mf_lists.specs.WorkedRates.{pay_out_day}
use Rattle.mf_lists.proofs.RateLemmas.{worked}

-- all but the rate is computed
but_the_rate : preview_in worked_catalogue 1 100000 3 pay_out_day
    ≡ Ok (preview_with 100000 pay_out_day worked_instalments 1500)
unfolding day_of date_of
but_the_rate = refl

pub worked-shown : preview_in worked_catalogue 1 100000 3 pay_out_day ≡ Ok worked_loan
unfolding after_days bears
worked-shown =
    but_the_rate
    ∙ ap (λ (r : Option ℕ). Ok (record worked_loan { rate = r }))
    (worked 98500 pay_out_day worked_instalments 673612311 (omega arith) refl refl)
