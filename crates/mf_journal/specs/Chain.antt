-- The text of a line of the journal, and the chain of SHA-256 over these.
use Rattle.std.specs.Prelude.{◌≡◌, ◌≢◌, ℕ, ◌^◌, ◌<◌, List, [], ◌∷◌, ◌++◌, length}
use Rattle.std.specs.Int.{w64, to_be_bytes}
use Rattle.sha2.specs.Sha256.{sha256}
use Rattle.mf_model.specs.Institution.{JournalLine}
use Rattle.mf_journal.specs.declared.chain.JournalRow.{JournalRow}

-- the line of a row
abbrev pub line_of_row : JournalRow → JournalLine
line_of_row r = record {
  day = r.day;
  office = r.office;
  staff = r.staff;
  told = r.told.now;
  method = r.method.now;
  path = r.path.now;
  body = r.body.now;
  named_office = r.named_office;
  named_loan = r.named_loan;
}

-- a number in eight bytes, the greatest first
abbrev pub number_text : ℕ → List ℕ
number_text n = to_be_bytes w64 n

-- bytes behind their length
abbrev pub bytes_text : List ℕ → List ℕ
bytes_text bytes = number_text (length bytes) ++ bytes

-- the text of a line: no two lines have one
abbrev pub text_of_line : JournalLine → List ℕ
text_of_line l =
    number_text l.day ++ (number_text l.office ++ (number_text l.staff ++ (bytes_text l.told ++ (bytes_text l.method
    ++ (bytes_text l.path ++ (bytes_text l.body ++ (number_text l.named_office ++ number_text l.named_loan)))))))

-- numbers and lengths that eight bytes hold
pub record IsJournalLine (l : JournalLine) : Type 0 where
  pub day : l.day < 2 ^ 64
  pub office : l.office < 2 ^ 64
  pub staff : l.staff < 2 ^ 64
  pub told : length l.told < 2 ^ 64
  pub method : length l.method < 2 ^ 64
  pub path : length l.path < 2 ^ 64
  pub body : length l.body < 2 ^ 64
  pub named_office : l.named_office < 2 ^ 64
  pub named_loan : l.named_loan < 2 ^ 64

-- each of these is such a line
abbrev pub AreJournalLines : List JournalLine → Type 0
AreJournalLines [] = Unit {0}
AreJournalLines (l ∷ ls) = IsJournalLine l × AreJournalLines ls

-- the chain after a line: the digest of the chain before it and of the line's text
abbrev pub link : List ℕ → JournalLine → List ℕ
link before l = sha256 (before ++ text_of_line l)

-- the chain after lines
abbrev pub chain_after : List ℕ → List JournalLine → List ℕ
chain_after before [] = before
chain_after before (l ∷ ls) = chain_after (link before l) ls

-- two texts with one digest
pub record IsCollision (s t : List ℕ) : Type 0 where
  pub apart : s ≢ t
  pub same : sha256 s ≡ sha256 t
