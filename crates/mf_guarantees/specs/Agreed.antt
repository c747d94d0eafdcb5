-- What was agreed of an instalment when its loan was paid out.
use Rattle.std.specs.Prelude.{ℕ, slice_index}
use Rattle.mf_schedule.specs.declared.instalment.FreshInstalment.{FreshInstalment}
use Rattle.mf_alloc.specs.Sums.{Instalment}

-- when an instalment falls due, and what is owed then of interest and principal
pub record Agreed : Type 0 where
  pub due : ℕ
  pub interest : ℕ
  pub principal : ℕ

-- what is agreed by an instalment of a schedule
abbrev pub agreed_by : FreshInstalment → Agreed
agreed_by i = record { due = i.due; interest = i.interest; principal = i.principal }

-- what is owed by an instalment as it stands
abbrev pub agreed_in : Instalment → Agreed
agreed_in row = record { due = row.due; interest = slice_index row.owed 2; principal = slice_index row.owed 3 }
