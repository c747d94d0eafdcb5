-- The rows of the table: one for each line of a journal, and before them one that says where the journal begins.
use Rattle.std.specs.Prelude.{◌≡◌, ℕ, ◌<◌, ◌^◌, pos, suc, List, [], ◌∷◌, length, map, Option, Some, None}
use Rattle.sqlite.specs.Order.{Row, column}
use Rattle.sqlite.specs.declared.types.Value.{Value}
use Rattle.sqlite.specs.declared.types.Value.TheVariants.{Int, Blob}
use Rattle.mf_store_sql.specs.Columns.{Field, Named, Number, Amount}
use Rattle.mf_store_sql.specs.Numbered.{Filed, with_number}
use Rattle.mf_store_schema.specs.Fields.{HasFields}
use Rattle.mf_model.specs.Institution.{JournalLine}
use Rattle.mf_journal.specs.Chain.{link}
use Rattle.mf_journal.specs.Following.{line_of}
use Rattle.mf_journal.specs.declared.following.Head.{Head}
use Rattle.mf_journal.specs.declared.following.KeptRow.{KeptRow}
use Rattle.mf_store_schema.specs.Tables.{journal}

-- the values of a line and the chain after it
abbrev pub values_of : JournalLine → List ℕ → Row
values_of l chain = Int (pos l.day) ∷ Int (pos l.office) ∷ Int (pos l.staff) ∷ Blob l.told ∷ Blob l.method
    ∷ Blob l.path ∷ Blob l.body ∷ Int (pos l.named_office) ∷ Int (pos l.named_loan) ∷ Blob chain ∷ []

-- the row of a line under its number
abbrev pub filed_line : ℕ → JournalLine → List ℕ → Filed
filed_line number l chain = (pos number, values_of l chain)

-- a row of the journal, as the table keeps it
abbrev pub filed_kept : KeptRow → Filed
filed_kept k = filed_line k.number (line_of k) k.chain

-- what stands in place of a line where a journal begins: the day alone
abbrev pub no_line : ℕ → JournalLine
no_line day = record {
  day = day;
  office = 0;
  staff = 0;
  told = [];
  method = [];
  path = [];
  body = [];
  named_office = 0;
  named_loan = 0;
}

-- the row of where a journal begins: the number before its first line, the day, and the chain
abbrev pub filed_beginning : Head → Filed
filed_beginning h = filed_line h.number (no_line h.day) h.chain

-- where a journal stands after a line
abbrev pub head_with : Head → JournalLine → Head
head_with h l = record { number = suc h.number; day = l.day; chain = link h.chain l }

-- and after lines
abbrev pub head_with_all : Head → List JournalLine → Head
head_with_all h [] = h
head_with_all h (l ∷ ls) = head_with_all (head_with h l) ls

-- the row of the line after which a journal stands so
abbrev pub filed_at : Head → JournalLine → Filed
filed_at h l = filed_line h.number l h.chain

-- the rows of lines that follow on one another
abbrev pub filed_after : Head → List JournalLine → List Filed
filed_after h [] = []
filed_after h (l ∷ ls) = filed_at (head_with h l) l ∷ filed_after (head_with h l) ls

-- The rows of an institution's journal: first where it begins, then its lines. The table is empty just where no journal
-- is kept.
abbrev pub journal_rows_in : Head → Option (List JournalLine) → List Filed
journal_rows_in h None = []
journal_rows_in h (Some lines) = filed_beginning h ∷ filed_after h lines

-- the row's numbers have room in the table
pub record HasPlace (k : KeptRow) : Type 0 where
  pub number : k.number < 2 ^ 32
  pub day : k.row.day < 2 ^ 32
  pub office : k.row.office < 2 ^ 32
  pub staff : k.row.staff < 2 ^ 32
  pub named_office : k.row.named_office < 2 ^ 32
  pub named_loan : k.row.named_loan < 2 ^ 32

-- bytes that a chain can be
abbrev pub IsChain : Value → Type 0
IsChain v = (bytes : List ℕ) × (v ≡ Blob bytes) × (length bytes ≡ 32)

-- what a column holds of a line: where it may have any integer, a number of 32 bits without a sign
abbrev pub line_field : Field → Field
line_field Amount = Number
line_field field = field

-- the columns of a line, its number first
abbrev pub line_columns : List Named
line_columns = map (λ (c : Named). record c { field = line_field c.field }) (with_number journal).columns

-- the values, as they are shown, are those of some line with its number and a chain
pub record IsLineRow (row : Row) : Type 0 where
  pub fields : HasFields line_columns row
  pub chain : IsChain (column row 10)
