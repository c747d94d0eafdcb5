-- The text of the last worked day.
use Rattle.std.proofs.Common.{◌≡◌, ◌∙◌, ap, sym, refl, arith}
use Rattle.std.specs.Prelude.{codes}
use Rattle.mf_base.specs.Calendar.{IsDate, day_of}
use Rattle.mf_base.specs.DayText.{day_text}
use Rattle.mf_base.proofs.DayTextLemmas.{day_text-is}
use Rattle.mf_statement.specs.WorkedRows.{march}

march_number : day_of (record { year = 2024; month = 3; day = 31 }) ≡ march
unfolding day_of
march_number = refl

march_date : IsDate (record { year = 2024; month = 3; day = 31 })
march_date = record {
  year = omega arith;
  first_month = omega arith;
  last_month = omega arith;
  first_day = omega arith;
  last_day = omega arith;
}

pub march_text : day_text march ≡ codes "2024-03-31"
march_text = ap day_text (sym march_number) ∙ day_text-is (record { year = 2024; month = 3; day = 31 }) march_date
