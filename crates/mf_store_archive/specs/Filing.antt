-- The table of an archive, and what writes make of it.
use Rattle.std.specs.Prelude.{◌≡◌, List, [], ◌∷◌, ◌++◌, Option, None, Some, IsSome, option_map, IsTrue}
use Rattle.sqlite.specs.Held.{Held, state}
use Rattle.sqlite.specs.Schema.{Schema}
use Rattle.sqlite.specs.Tree.{Trees}
use Rattle.sqlite_catalog.specs.Listing.{IsSound}
use Rattle.sqlite_trees.specs.declared.store.Store.{Ghosts}
use Rattle.mf_model.specs.Institution.{JournalLine}
use Rattle.mf_journal.specs.declared.following.Head.{Head}
use Rattle.mf_store_sql.specs.Numbered.{Filed, KeepsLines}
use Rattle.mf_store_sql.specs.Tables.{no_schema}
use Rattle.mf_store_sql.specs.Writes.{Serves}
use Rattle.mf_store_schema.specs.Tables.{journal}
use Rattle.mf_store_journal.specs.Rows.{filed_beginning, filed_kept, journal_rows_in}
use Rattle.mf_store_archive.specs.Texts.{archive_schema}
use Rattle.mf_store_archive.specs.declared.filing.Filing.{Filing}
use Rattle.mf_store_archive.specs.declared.filing.Filing.TheVariants.{Begin, Put}

-- the schema of a file whose archive has these rows; none where its table is still to be made
abbrev pub filing_schema : Option (List Filed) → Schema
filing_schema None = no_schema
filing_schema (Some rows) = archive_schema

-- the trees list the archive's schema and obey it, and keep these rows
pub record HoldsRows (trees : Trees) (rows : List Filed) : Type 0 where
  pub sound : IsSound archive_schema trees
  pub keeps : KeepsLines journal (trees 0) rows

-- the trees keep these rows and nothing else
abbrev pub HoldsFiled : Trees → Option (List Filed) → Type 0
HoldsFiled trees None = IsSound no_schema trees
HoldsFiled trees (Some rows) = HoldsRows trees rows

-- the table is made where there is none, and gets rows where it is
abbrev pub FitsFiling : Filing → Option (List Filed) → Type 0
FitsFiling (Begin head) rows = rows ≡ None
FitsFiling (Put kept) rows = IsSome rows

-- the rows after a write
abbrev pub after_filing : Filing → Option (List Filed) → Option (List Filed)
after_filing (Begin head) rows = Some (filed_beginning head ∷ [])
after_filing (Put kept) rows = option_map (λ (there : List Filed). there ++ filed_kept kept ∷ []) rows

-- the rows of an archive of these lines, which begin here
abbrev pub archive_rows : Head → List JournalLine → Option (List Filed)
archive_rows begins lines = Some (journal_rows_in begins (Some lines))

module _ {S : Type 0} (g : Ghosts S) where
  -- while the connection is open, its file has these rows of an archive and nothing else
  abbrev pub IsFiled : Option (List Filed) → Held S → Type 0
  IsFiled rows h = IsTrue (state g h).is_open → Serves filing_schema HoldsFiled (state g h).now rows
