use Rattle.std.proofs.Common.{◌≡◌, ◌∙◌, ap, sym, refl, arith}
use Rattle.std.specs.Prelude.{codes}
use Rattle.std.specs.Fmt.{digits}
use Rattle.csv.specs.Writing.{escaped, fields_text, is_blank}
use Rattle.mf_base.specs.Calendar.{IsDate, day_of}
use Rattle.mf_base.specs.DayText.{day_text}
use Rattle.mf_base.proofs.DayTextLemmas.{day_text-is}
use Rattle.mf_statement.specs.WorkedRows.{january, march}
use Rattle.mf_ledger.proofs.laws.worked_texts.Goals as goal

january_number : day_of (record { year = 2024; month = 1; day = 31 }) ≡ january
unfolding day_of
january_number = refl

january_date : IsDate (record { year = 2024; month = 1; day = 31 })
january_date = record {
  year = omega arith;
  first_month = omega arith;
  last_month = omega arith;
  first_day = omega arith;
  last_day = omega arith;
}

january_text : day_text january ≡ codes "2024-01-31"
january_text = ap day_text (sym january_number) ∙ day_text-is (record { year = 2024; month = 1; day = 31 }) january_date

march_number : day_of (record { year = 2024; month = 3; day = 31 }) ≡ march
unfolding day_of
march_number = refl

march_date : IsDate (record { year = 2024; month = 3; day = 31 })
march_date = record {
  year = omega arith;
  first_month = omega arith;
  last_month = omega arith;
  first_day = omega arith;
  last_day = omega arith;
}

march_text : day_text march ≡ codes "2024-03-31"
march_text = ap day_text (sym march_number) ∙ day_text-is (record { year = 2024; month = 3; day = 31 }) march_date

pub returns-clause-opening : goal.returns-clause-opening
unfolding digits
returns-clause-opening c = rw march_text refl

pub returns-clause-opening_sheet : goal.returns-clause-opening_sheet
unfolding digits escaped fields_text is_blank
returns-clause-opening_sheet c = rw march_text refl

pub returns-clause-hledger : goal.returns-clause-hledger
unfolding digits
returns-clause-hledger c = rw (january_text, march_text) refl

pub returns-clause-beancount : goal.returns-clause-beancount
unfolding digits
returns-clause-beancount c = rw (january_text, march_text) refl

pub returns-clause-sheet : goal.returns-clause-sheet
unfolding digits escaped fields_text is_blank
returns-clause-sheet c = rw (january_text, march_text) refl
