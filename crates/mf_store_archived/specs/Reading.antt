-- What is read of the table of an archive.
use Rattle.std.specs.Prelude.{◌≡◌, ℕ, List, [], ◌∷◌, ◌++◌, codes, length, Some}
use Rattle.sqlite.specs.Effect.{Database}
use Rattle.sqlite.specs.Query.{Query}
use Rattle.sqlite.specs.Schema.{Schema}
use Rattle.sqlite.specs.Term.{col}
use Rattle.mf_journal.specs.declared.following.Head.{Head}
use Rattle.mf_model.specs.Institution.{JournalLine}
use Rattle.mf_store_sql.specs.Numbered.{Numbered, shows_text}
use Rattle.mf_store_sql.specs.NumberedMeanings.{ShowsAs, shown_terms}
use Rattle.mf_store_sql.specs.Scan.{by, scan}
use Rattle.mf_store_schema.specs.Tables.{journal}
use Rattle.mf_store_journal.specs.Rows.{journal_rows_in}
use Rattle.mf_store_journal.specs.Written.{CanBeLines}
use Rattle.mf_store_archive.specs.Appending.{KeepsArchive}
use Rattle.mf_store_archive.specs.Texts.{archive_schema}

-- shows all rows, the lowest number first
abbrev pub all_text : Numbered → List ℕ
all_text t = shows_text t ++ codes " ORDER BY " ++ t.number

-- what it asks for
abbrev pub every_row : ℕ → ℕ → Query
every_row tree n = scan tree [] (shown_terms n) (by (col 1 0) ∷ [])

-- under the schema of an archive the text asks for that
abbrev pub ShowsAll : Type 0
ShowsAll = ShowsAs archive_schema 0 0 journal (all_text journal) (every_row 0 (length journal.columns))

-- a schema has one table, and no index and no view
pub record HasOneTable (k : Schema) : Type 0 where
  pub tables : length k.tables ≡ 1
  pub indexes : k.indexes ≡ []
  pub views : k.views ≡ []

-- a database is an archive of these lines of a journal, which begins here and which the program can have written
pub record KeepsPart (begins : Head) (lines : List JournalLine) (db : Database) : Type 0 where
  pub can_be : CanBeLines begins lines
  pub keeps : KeepsArchive db (journal_rows_in begins (Some lines))
