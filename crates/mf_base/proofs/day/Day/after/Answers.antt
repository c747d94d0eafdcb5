use Rattle.std.proofs.Common.{arith, ap}
use Rattle.mf_base.specs.Calendar.{CalendarDate}
use Rattle.mf_base.proofs.DayTextLemmas.{entered_year-date_of}
use Rattle.mf_base.proofs.day.Day.after.Goals as goal

pub months_after-requires-clause-entered : goal.months_after-requires-clause-entered
months_after-requires-clause-entered c =
    omega (
      arith,
      ap (λ (d : CalendarDate). d.year) c.date.ensures.value,
      entered_year-date_of c.args.self c.requires.entered,
    )
