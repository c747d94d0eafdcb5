use Rattle.std.proofs.Common.{Some, refl, ap, sym, ◌∙◌}
use Rattle.mf_base.specs.Calendar.{date_of}
use Rattle.mf_base.specs.DayText.{day_text}
use Rattle.mf_base.specs.CivilDate.{date_from}
use Rattle.mf_base.proofs.CalendarLemmas.{IsDate-date_of}
use Rattle.mf_base.proofs.CivilDateLemmas.{IsDate-since}
use Rattle.mf_base.proofs.DayTextLemmas.{date_text-day, day_text-is, day_text-only, year-date_of}
use Rattle.mf_base.proofs.day.Day.read.Goals as goal

pub returns-in_err-date-clause-every : goal.returns-in_err-date-clause-every
returns-in_err-date-clause-every c = λ day small same. absurd (c.in_err-date.ensures.none refl (date_of day)
    (IsDate-date_of day) (year-date_of day small) (same ∙ date_text-day day))

pub returns-clause-some : goal.returns-clause-some
returns-clause-some c =
    let found = c.in_ok-date.ensures.some in (
      c.from_date.ensures.bound,
      found.1 ∙ sym (day_text-is (date_from c.in_ok-date.date)
          (IsDate-since c.in_ok-date.date found.0)) ∙ ap day_text (sym c.from_date.ensures.value),
    )

pub returns-clause-every : goal.returns-clause-every
returns-clause-every c = λ day small same. ap Some (c.from_date.ensures.value
    ∙ day_text-only (date_from c.in_ok-date.date) day c.args.text.now c.in_ok-date.ensures.some.1 same)
