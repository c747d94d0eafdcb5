-- What the command `schedule` prints.
use Rattle.std.specs.Prelude.{◌≤◌, ◌⊎◌, ℕ, List, None}
use Rattle.mf_catalog.specs.declared.terms.Terms.{Terms}
use Rattle.mf_catalog.specs.declared.terms.StrategyName.TheVariants.{MifosStandard}
use Rattle.mf_schedule.specs.Fresh.{fresh_schedule}
use Rattle.mf_schedule.specs.ScheduleText.{schedule_text}
use Rattle.microloan_words.specs.declared.asked.ScheduleWords.{ScheduleWords}

-- the terms that the words name, without charges; no payment is made, so the strategy counts for nothing
abbrev pub terms_asked : ScheduleWords → Terms
terms_asked asked = record {
  method = asked.method;
  rate = asked.rate;
  freq = asked.frequency;
  every = asked.every;
  principal_grace = asked.principal_grace;
  interest_grace = asked.interest_grace;
  strategy = MifosStandard;
  disbursement = None;
  instalment = None;
  overdue = None;
}

-- a grace is not below the number of instalments
abbrev pub HasLongGrace : ScheduleWords → Type 0
HasLongGrace asked = (asked.periods ≤ asked.principal_grace) ⊎ (asked.periods ≤ asked.interest_grace)

-- the text of the fresh schedule that the words ask for
abbrev pub printed_schedule : ScheduleWords → List ℕ
printed_schedule asked = schedule_text (fresh_schedule (terms_asked asked) asked.principal asked.periods asked.day)
