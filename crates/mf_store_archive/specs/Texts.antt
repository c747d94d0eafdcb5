-- The texts that take lines out of the journal and put the row of where it begins, and the table of an archive.
use Rattle.std.specs.Prelude.{◌≡◌, ℕ, List, [], ◌∷◌, codes, pos}
use Rattle.sqlite.specs.Change.{created}
use Rattle.sqlite.specs.Collation.TheVariants.{Binary}
use Rattle.sqlite.specs.Command.TheVariants.{Insert, Delete}
use Rattle.sqlite.specs.Given.{IsPlain}
use Rattle.sqlite.specs.Listing.{understood}
use Rattle.sqlite.specs.Schema.{Schema}
use Rattle.sqlite.specs.Source.TheVariants.{Values}
use Rattle.sqlite.specs.Term.{Term, lit, col, op2}
use Rattle.sqlite.specs.declared.types.Value.TheVariants.{Null, Int, Blob}
use Rattle.sqlite.proofs.Callers.{command_of}
use Rattle.sqlite_sql.specs.declared.ops.BinaryOp.TheVariants.{Compare}
use Rattle.sqlite_sql.specs.declared.ops.CompareOp.TheVariants.{Le}
use Rattle.mf_store_sql.specs.NumberedMeanings.{IsNumbered, IsNumberedBy}
use Rattle.mf_store_sql.specs.Numbered.{numbered_table}
use Rattle.mf_store_sql.specs.Scan.{scan}
use Rattle.mf_store_sql.specs.Tables.{no_schema}
use Rattle.mf_store_schema.specs.Tables.{journal, third_schema}

-- takes out the rows up to a number
abbrev pub remove_text : List ℕ
remove_text = codes "DELETE FROM journal WHERE number <= ?1"

-- puts the row of where a journal begins
abbrev pub begin_text : List ℕ
begin_text = codes "INSERT INTO journal VALUES (?1, ?2, 0, 0, x'', x'', x'', x'', 0, 0, ?3)"

-- the number of a row is the first parameter or below it
abbrev pub number_up_to : Term
number_up_to = op2 (Compare Le Binary) (col 1 0) (col 0 0)

-- the values of a beginning: the number, the day, and the chain, and nothing between
abbrev pub beginning_terms : List Term
beginning_terms = col 0 0 ∷ lit Null ∷ col 0 1 ∷ lit (Int (pos 0)) ∷ lit (Int (pos 0)) ∷ lit (Blob []) ∷ lit (Blob [])
    ∷ lit (Blob []) ∷ lit (Blob []) ∷ lit (Int (pos 0)) ∷ lit (Int (pos 0)) ∷ col 0 2 ∷ []

-- the text takes out the rows up to a number, under the schema that has a journal
pub record Removes : Type 0 where
  pub plain : IsPlain (understood third_schema remove_text)
  pub is : command_of (understood third_schema remove_text)
      ≡ Delete 11 (record { lets = []; body = scan 23 (number_up_to ∷ []) (col 1 0 ∷ []) [] })

-- and this one puts such a row
pub record PutsBeginning : Type 0 where
  pub plain : IsPlain (understood third_schema begin_text)
  pub is : command_of (understood third_schema begin_text) ≡ Insert 11 (Values beginning_terms 12)

-- the schema of an archive: the journal alone
abbrev pub archive_schema : Schema
archive_schema = record no_schema { tables = numbered_table 0 journal ∷ [] }

-- The table is made where there is none, and then its texts mean what is said of any numbered table.
pub record IsArchive : Type 0 where
  pub made : IsNumberedBy no_schema 0 journal
  pub schema_is : created no_schema (numbered_table 0 journal) ≡ archive_schema
  pub numbered : IsNumbered archive_schema 0 0 journal

-- what the texts mean
pub record TextsMean : Type 0 where
  pub removes : Removes
  pub begins : PutsBeginning
  pub archive : IsArchive
