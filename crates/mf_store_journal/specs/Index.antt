-- The index of a journal, which lies in memory.
use Rattle.std.specs.Prelude.{◌≡◌, ◌+◌, ℕ, suc, Bool, true, cond, ◌&&◌, ◌==◌, List, [], ◌∷◌, ◌++◌, map, filter, length}
use Rattle.std.specs.Prelude.{Option, None, Some}
use Rattle.mf_model.specs.Institution.{JournalLine}
use Rattle.mf_store_journal.specs.declared.index.IndexEntry.{IndexEntry}
use Rattle.mf_store_journal.specs.declared.index.Sought.{Sought}

-- the entry of a line
abbrev pub index_entry : JournalLine → IndexEntry
index_entry l = record { day = l.day; office = l.named_office; loan = l.named_loan }

-- the entries of the lines that are kept; none where no journal is
abbrev pub index_of : Option (List JournalLine) → List IndexEntry
index_of None = []
index_of (Some lines) = map index_entry lines

-- these are the entries of the first lines
abbrev pub AreOfFirst : List IndexEntry → Option (List JournalLine) → Type 0
AreOfFirst entries kept = (behind : List IndexEntry) × (index_of kept ≡ entries ++ behind)

-- a number is the one that is asked for, if one is
abbrev pub is_asked : Option ℕ → ℕ → Bool
is_asked None number = true
is_asked (Some asked) number = number == asked

-- the line of an entry is sought
abbrev pub is_sought : Sought → IndexEntry → Bool
is_sought s e = (e.office == s.office) && (is_asked s.loan e.loan && is_asked s.day e.day)

-- how many entries stand before the first that is sought
abbrev pub unsought : Sought → List IndexEntry → ℕ
unsought s [] = 0
unsought s (e ∷ es) = cond (is_sought s e) 0 (suc (unsought s es))

-- a line is sought
abbrev pub is_line_sought : Sought → JournalLine → Bool
is_line_sought s l = is_sought s (index_entry l)

-- of the lines behind a number none is sought up to the next one
pub record IsNext (s : Sought) (rest : List JournalLine) (number next : ℕ) : Type 0 where
  pub skipped : List JournalLine
  pub left : List JournalLine
  pub are : rest ≡ skipped ++ left
  pub none : filter (is_line_sought s) skipped ≡ []
  pub count : number + length skipped ≡ next
