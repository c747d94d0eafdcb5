-- A numbered table as a worked example: a journal, beside a table with a key.
use Rattle.std.specs.Prelude.{◌≡◌, ℕ, List, [], ◌∷◌, ◌++◌, codes}
use Rattle.sqlite.specs.Change.{created}
use Rattle.sqlite.specs.Schema.{Schema}
use Rattle.mf_store_sql.specs.Columns.{Columns, named, Number, Text, Bytes, MaybeNumber, MaybeText}
use Rattle.mf_store_sql.specs.Columns.{sql_table, sql_indexes}
use Rattle.mf_store_sql.specs.Numbered.{Numbered, numbered_table, create_numbered, append_text, above_text, last_text}
use Rattle.mf_store_sql.specs.NumberedMeanings.{IsNumbered, IsNumberedBy}

-- the table with a key
abbrev pub notes : Columns
notes = record {
  name = codes "notes";
  columns = named Number (codes "one") ∷ named Text (codes "note") ∷ [];
  key = 1;
}

-- the journal
abbrev pub journal : Numbered
journal = record {
  name = codes "journal";
  number = codes "number";
  columns = named Text (codes "day") ∷ named Number (codes "office") ∷ named Number (codes "staff")
      ∷ named MaybeText (codes "told") ∷ named Bytes (codes "method") ∷ named Bytes (codes "path")
      ∷ named Bytes (codes "body") ∷ named MaybeNumber (codes "named_office") ∷ named MaybeNumber (codes "named_loan")
      ∷ named Bytes (codes "chain") ∷ [];
}

-- the schema before the journal is made
abbrev pub without_journal : Schema
without_journal = record { tables = sql_table 0 notes ∷ []; indexes = sql_indexes 0 notes; views = [] }

-- and then
abbrev pub with_journal : Schema
with_journal =
    record { tables = sql_table 0 notes ∷ numbered_table 2 journal ∷ []; indexes = sql_indexes 0 notes; views = [] }

-- its columns, as a query names them
abbrev pub all_columns : List ℕ
all_columns = codes "number, day, office, staff, told, method, path, body, named_office, named_loan, chain"

-- what its columns give for texts
pub record HasTexts : Type 0 where
  pub create : create_numbered journal ≡ codes "CREATE TABLE journal (number INTEGER PRIMARY KEY, day TEXT NOT NULL, "
      ++ codes "office INTEGER NOT NULL, staff INTEGER NOT NULL, told TEXT, method BLOB NOT NULL, path BLOB NOT NULL, "
      ++ codes "body BLOB NOT NULL, named_office INTEGER, named_loan INTEGER, chain BLOB NOT NULL) STRICT"
  pub append : append_text journal ≡ codes "INSERT INTO journal SELECT ?1, ?2, ?3, ?4, ?5, ?6, ?7, ?8, ?9, ?10, ?11 "
      ++ codes "WHERE NOT EXISTS (SELECT 1 FROM journal WHERE number >= ?1)"
  pub above : above_text journal ≡ codes "SELECT " ++ all_columns
      ++ codes " FROM journal WHERE number > ?1 ORDER BY number LIMIT ?2"
  pub last : last_text journal ≡ codes "SELECT " ++ all_columns ++ codes " FROM journal ORDER BY number DESC LIMIT 1"

-- these texts mean what is said of any numbered table
pub record IsJournal : Type 0 where
  pub made : IsNumberedBy without_journal 2 journal
  pub schema_is : created without_journal (numbered_table 0 journal) ≡ with_journal
  pub numbered : IsNumbered with_journal 1 2 journal
