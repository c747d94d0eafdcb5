-- The lines of a journal that leave its file, and those that stay.
use Rattle.std.specs.Prelude.{◌≡◌, ℕ, Bool, not, nat_le, List, ◌++◌, filter, Some}
use Rattle.mf_model.specs.Institution.{Institution, JournalLine}
use Rattle.mf_journal.specs.declared.following.Head.{Head}
use Rattle.mf_store_journal.specs.Rows.{head_with_all}

-- the line is of this business day or an earlier one
abbrev pub is_up_to : ℕ → JournalLine → Bool
is_up_to day line = nat_le line.day day

-- the lines up to and with a day, which are archived
abbrev pub archived : ℕ → List JournalLine → List JournalLine
archived day lines = filter (is_up_to day) lines

-- the lines after it, which stay
abbrev pub staying : ℕ → List JournalLine → List JournalLine
staying day lines = filter (λ line. not (is_up_to day line)) lines

-- the institution with other lines in its journal
abbrev pub with_lines : List JournalLine → Institution → Institution
with_lines lines i = record i { journal = Some lines }

-- a journal that begins at the one head stands at the other once its first lines are these, and the others stay
pub record IsCut (begins now : Head) (i : Institution) (first rest : List JournalLine) : Type 0 where
  pub journal : i.journal ≡ Some (first ++ rest)
  pub stands : now ≡ head_with_all begins first
