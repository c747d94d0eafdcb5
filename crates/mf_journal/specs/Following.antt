-- Lines of a journal that follow on one another: numbers without a gap, days that don't go back, a true chain.
use Rattle.std.specs.Prelude.{◌≡◌, ◌≢◌, ℕ, ◌≤◌, ◌<◌, suc, List, [], ◌∷◌, take, Some, slice_get}
use Rattle.mf_model.specs.Institution.{JournalLine}
use Rattle.mf_journal.specs.Chain.{line_of_row, link}
use Rattle.mf_journal.specs.declared.chain.JournalRow.{JournalRow}
use Rattle.mf_journal.specs.declared.following.Break.{Break}
use Rattle.mf_journal.specs.declared.following.Break.TheVariants.{Number, Day, Chain}
use Rattle.mf_journal.specs.declared.following.Head.{Head}
use Rattle.mf_journal.specs.declared.following.KeptRow.{KeptRow}

-- the line of a kept row
abbrev pub line_of : KeptRow → JournalLine
line_of k = line_of_row k.row

-- where the journal stands after a row
abbrev pub head_of : KeptRow → Head
head_of k = record { number = k.number; day = k.row.day; chain = k.chain }

-- the row of a line after which the journal stands so
abbrev pub kept_at : Head → JournalRow → KeptRow
kept_at h row = record { number = h.number; row = row; chain = h.chain }

-- the row has the next number, a day that isn't earlier, and the chain over all before it and itself
abbrev pub Follows : Head → KeptRow → Type 0
Follows h k = (k.number ≡ suc h.number) × (h.day ≤ k.row.day) × (k.chain ≡ link h.chain (line_of k))

-- this is the first of the three that the row breaks
abbrev pub BreaksFirst : Head → KeptRow → Break → Type 0
BreaksFirst h k Number = k.number ≢ suc h.number
BreaksFirst h k Day = (k.number ≡ suc h.number) × (k.row.day < h.day)
BreaksFirst h k Chain = (k.number ≡ suc h.number) × (h.day ≤ k.row.day) × (k.chain ≢ link h.chain (line_of k))

-- where the journal stands after rows
abbrev pub head_after : Head → List KeptRow → Head
head_after h [] = h
head_after h (k ∷ ks) = head_after (head_of k) ks

-- each row follows on those before it
abbrev pub FollowOn : Head → List KeptRow → Type 0
FollowOn h [] = Unit {0}
FollowOn h (k ∷ ks) = Follows h k × FollowOn (head_of k) ks

-- the rows before a place follow on, and the one there breaks this condition
pub record IsBroken (h : Head) (rows : List KeptRow) (place : ℕ) (flaw : Break) : Type 0 where
  pub before : FollowOn h (take place rows)
  pub row : KeptRow
  pub there : slice_get rows place ≡ Some row
  pub breaks : BreaksFirst (head_after h (take place rows)) row flaw
