-- What the journal's table keeps of the institution that a store stands for.
use Rattle.std.proofs.Common.{◌≡◌, ◌∙◌, List, ◌++◌, Option, Some, IsTrue, ap, subst}
use Rattle.sqlite.specs.Held.{state}
use Rattle.sqlite_trees.specs.declared.store.Store.{Ghosts}
use Rattle.mf_journal.specs.declared.following.Head.{Head}
use Rattle.mf_model.specs.Institution.{Institution, JournalLine}
use Rattle.mf_store_sql.specs.Trees.{AllHold}
use Rattle.mf_store_sql.specs.Writes.{Serves}
use Rattle.mf_store_schema.specs.Tables.{schema_keeping}
use Rattle.mf_store_schema.specs.Writes.{Holds, are_some, conditions, journal_conditions, schema_of}
use Rattle.mf_store_journal.specs.Reading.{IsKeeping}
use Rattle.mf_store_journal.specs.Rows.{journal_rows_in}
use Rattle.mf_store_noted.specs.Kept.{begins_of, tables_kept}
use Rattle.mf_store.specs.Facts.{KnownStore}
use Rattle.mf_store.specs.Stands.{StandsFor}

module _ {S : Type 0} (g : Ghosts S) (k : KnownStore S) (i : Institution) (begins : Head) (lines : List JournalLine)
    (stands : StandsFor g k i) (begun : begins_of k.journal ≡ Some begins) (are : i.journal ≡ Some lines) where
  serves : IsTrue (state g k.connection).is_open
      → Serves schema_of Holds (state g k.connection).now (Some (tables_kept (Some begins) i))
  serves live = subst (λ (b : Option Head). Serves schema_of Holds (state g k.connection).now (Some (tables_kept b i)))
      begun (stands.serves live)

  pub keeps_rows : IsKeeping (state g k.connection) (journal_rows_in begins (Some lines))
  keeps_rows live =
      let all = subst (λ (j : Option (List JournalLine)). AllHold (state g k.connection).now.trees
      (conditions (tables_kept (Some begins) i) ++ journal_conditions (journal_rows_in begins j)))
      are (serves live).holds.all in
      record {
        schema_is = (serves live).schema_is
            ∙ ap (λ (j : Option (List JournalLine)). schema_keeping (are_some (journal_rows_in begins j))) are;
        keeps = all.1.1.1.1.1.1.1.1.1.1.1.0;
      }
