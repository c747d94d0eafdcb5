-- The texts of the table, and what they mean under the schema that has it.
use Rattle.std.specs.Prelude.{◌≡◌, ℕ, List, [], ◌∷◌, ◌++◌, codes, length}
use Rattle.sqlite.specs.Change.{created}
use Rattle.sqlite.specs.Query.{Query}
use Rattle.sqlite.specs.Term.{col}
use Rattle.mf_store_sql.specs.Numbered.{Numbered, numbered_table, create_numbered, append_text, above_text, last_text}
use Rattle.mf_store_sql.specs.Numbered.{shows_text}
use Rattle.mf_store_sql.specs.NumberedMeanings.{IsNumbered, IsNumberedBy, ShowsAs, shown_terms}
use Rattle.mf_store_sql.specs.Scan.{by, scan, cut_at}
use Rattle.mf_store_schema.specs.Tables.{schema, journal, third_schema}

-- shows the row with the lowest number
abbrev pub first_text : Numbered → List ℕ
first_text t = shows_text t ++ codes " ORDER BY " ++ t.number ++ codes " LIMIT 1"

-- what it asks for
abbrev pub row_with_lowest : ℕ → ℕ → Query
row_with_lowest tree n = cut_at 1 (scan tree [] (shown_terms n) (by (col 1 0) ∷ []))

-- its columns, as a query names them
abbrev pub all_columns : List ℕ
all_columns = codes "number, day, office, staff, told, method, path, body, named_office, named_loan, chain"

-- what the columns give for texts
pub record HasTexts : Type 0 where
  pub create : create_numbered journal ≡ codes "CREATE TABLE journal (number INTEGER PRIMARY KEY, "
      ++ codes "day INTEGER NOT NULL, office INTEGER NOT NULL, staff INTEGER NOT NULL, told BLOB NOT NULL, "
      ++ codes "method BLOB NOT NULL, path BLOB NOT NULL, body BLOB NOT NULL, named_office INTEGER NOT NULL, "
      ++ codes "named_loan INTEGER NOT NULL, chain BLOB NOT NULL) STRICT"
  pub append : append_text journal ≡ codes "INSERT INTO journal SELECT ?1, ?2, ?3, ?4, ?5, ?6, ?7, ?8, ?9, ?10, ?11 "
      ++ codes "WHERE NOT EXISTS (SELECT 1 FROM journal WHERE number >= ?1)"
  pub above : above_text journal ≡ codes "SELECT " ++ all_columns
      ++ codes " FROM journal WHERE number > ?1 ORDER BY number LIMIT ?2"
  pub last : last_text journal ≡ codes "SELECT " ++ all_columns ++ codes " FROM journal ORDER BY number DESC LIMIT 1"
  pub first : first_text journal ≡ codes "SELECT " ++ all_columns ++ codes " FROM journal ORDER BY number LIMIT 1"

-- The table is made beside today's, and then its texts mean what is said of any numbered table.
pub record IsJournal : Type 0 where
  pub made : IsNumberedBy schema 23 journal
  pub schema_is : created schema (numbered_table 0 journal) ≡ third_schema
  pub numbered : IsNumbered third_schema 11 23 journal
  pub first : ShowsAs third_schema 11 23 journal (first_text journal) (row_with_lowest 23 (length journal.columns))
