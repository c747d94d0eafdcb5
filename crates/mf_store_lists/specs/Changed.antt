-- What is told of the lines of a journal, one after another.
use Rattle.std.specs.Prelude.{◌≡◌, ◌≤◌, ◌⊎◌, ℕ, Bool, ◌&&◌, ◌==◌, nat_lt, List, [], ◌++◌, filter, length, take}
use Rattle.std.specs.Prelude.{Option, Some, None}
use Rattle.mf_lists.specs.Changes.{change_lines}
use Rattle.mf_lists.specs.declared.lines.ChangeLine.{ChangeLine}
use Rattle.mf_model.specs.Institution.{JournalLine}
use Rattle.mf_store_journal.specs.declared.index.Sought.{Sought}
use Rattle.mf_store_lists.specs.declared.changes.Asked.{Asked}

-- what was found: how many lines that are asked for, and those of them that are told
pub record Told : Type 0 where
  pub place : ℕ
  pub lines : List ChangeLine

-- a line names an office, or a loan of it where one is asked for
abbrev pub is_named : ℕ → Option ℕ → JournalLine → Bool
is_named office None l = l.named_office == office
is_named office (Some loan) l = (l.named_office == office) && (l.named_loan == loan)

-- what is sought of the journal for them
abbrev pub sought_by : Asked → Sought
sought_by a = record { office = a.office; loan = a.loan; day = None }

-- the lines that are asked for
abbrev pub lines_asked : Asked → List JournalLine → List JournalLine
lines_asked a lines = filter (is_named a.office a.loan) lines

-- those of them that are told but for their number
abbrev pub told_of : Asked → List JournalLine → List ChangeLine
told_of a lines = filter (λ (c : ChangeLine). nat_lt a.after c.number) (change_lines (lines_asked a lines))

-- the first so many, where there is a limit
abbrev pub first_of : {Y : Type 0} → Option ℕ → List Y → List Y
first_of None ys = ys
first_of (Some most) ys = take most ys

-- no more than so many, where there is a limit
abbrev pub AreFew : {Y : Type 0} → Option ℕ → List Y → Type 0
AreFew None ys = Unit {0}
AreFew (Some most) ys = length ys ≤ most

-- so many are as many as there may be
abbrev pub IsEnough : Option ℕ → ℕ → Type 0
IsEnough None count = ⊥
IsEnough (Some most) count = most ≤ count

-- what was found of these lines
pub record IsFound (a : Asked) (lines : List JournalLine) (t : Told) : Type 0 where
  pub place : t.place ≡ length (lines_asked a lines)
  pub told : t.lines ≡ told_of a lines
  pub few : AreFew a.most t.lines

-- what was found of lines, or of the first of them where no more may be told
pub record IsFoundUpTo (a : Asked) (before lines : List JournalLine) (t : Told) : Type 0 where
  pub first : List JournalLine
  pub rest : List JournalLine
  pub are : lines ≡ first ++ rest
  pub found : IsFound a (before ++ first) t
  pub ends : (rest ≡ []) ⊎ IsEnough a.most (length t.lines)
