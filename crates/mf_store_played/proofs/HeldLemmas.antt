-- What a store in memory keeps, and what two institutions with the same rows are.
use Rattle.std.proofs.Common.{◌≡◌, List, map, Option, None, Some, IsTrue, IsSome, refl, sym, ap, ◌∙◌, subst}
use Rattle.sqlite.specs.Held.{Held, state}
use Rattle.sqlite.specs.Tree.{Trees}
use Rattle.sqlite_trees.specs.declared.store.Store.{Ghosts}
use Rattle.mf_journal.specs.declared.following.Head.{Head}
use Rattle.mf_model.specs.Institution.{Institution, JournalLine}
use Rattle.mf_store_schema.specs.Rows.{Lists}
use Rattle.mf_store_schema.specs.Writes.{HoldsAll, HoldsAt, all_conditions}
use Rattle.mf_store_schema.specs.Versions.{IsOfVersion}
use Rattle.mf_store_schema.specs.declared.versions.Version.TheVariants.{Third}
use Rattle.mf_store_sound.specs.Schemas.{tables_at}
use Rattle.mf_store_sound.proofs.NestedLemmas.{first_held}
use Rattle.mf_store_journal.specs.Rows.{journal_rows_in}
use Rattle.mf_store_journal.specs.Written.{HasLines}
use Rattle.mf_store_journal.specs.declared.journal.Journal.{Journal}
use Rattle.mf_store_noted.specs.Kept.{begins_of, tables_kept}
use Rattle.mf_store_noted.specs.Tabled.{IsTabled}
use Rattle.mf_store_sql.specs.Writes.{Serves}
use Rattle.mf_store_schema.specs.Writes.{schema_of, Holds}
use Rattle.mf_store_values.specs.Flat.{schema_number, tables_of}
use Rattle.mf_store_schema.specs.declared.meta.MetaRow.{MetaRow}

some_journal : (found : Option Journal) (journal : Option (List JournalLine)) → HasLines found journal
    → IsSome journal → (j : Journal) × (lines : List JournalLine) × (found ≡ Some j) × (journal ≡ Some lines)
some_journal None None has some = absurd (cc)
some_journal None (Some lines) has some = absurd (cc)
some_journal (Some j) journal has some = (j, has.0, refl, has.1)

rows_held : (trees : Trees) (i : Institution) (begins : Head) (lines : List JournalLine)
    (journal : Option (List JournalLine)) → journal ≡ Some lines
    → HoldsAll trees (record (tables_at Third i) { journal = journal_rows_in begins journal })
    → HoldsAt Third trees (tables_at Third i)
rows_held trees i begins lines journal is holds =
    let all = subst (λ k. HoldsAll trees (record (tables_at Third i) { journal = journal_rows_in begins k })) is holds
    in
    record {
      sound = all.sound;
      all = first_held trees 11 (all_conditions (record (tables_at Third i) {
        journal = journal_rows_in begins (Some lines);
      })) all.all;
    }

schema_held : (i : Institution) (begins : Head) (lines : List JournalLine) (journal : Option (List JournalLine))
    → journal ≡ Some lines
    → IsOfVersion Third (schema_of (Some (record (tables_at Third i) { journal = journal_rows_in begins journal })))
schema_held i begins lines journal is =
    subst (λ k. IsOfVersion Third (schema_of (Some (record (tables_at Third i) {
      journal = journal_rows_in begins k;
    })))) (sym is) refl

-- tables that hold an institution with its journal are those of the third version, and hold its rows
module _ {S : Type 0} (g : Ghosts S) (h : Held S) (found : Option Journal) (i : Institution)
    (tabled : IsTabled g found h i) (some : IsSome i.journal) (live : IsTrue (state g h).is_open) where
  pub is_third : IsOfVersion Third (state g h).now.schema
  is_third =
      let its = some_journal found i.journal tabled.keeps some in
      let serves = subst (λ f. Serves schema_of Holds (state g h).now (Some (tables_kept (begins_of f) i))) its.2
      (tabled.kept.serves live) in
      serves.schema_is ∙ schema_held i its.0.begins its.1 i.journal its.3

  pub holds_rows : HoldsAt Third (state g h).now.trees (tables_at Third i)
  holds_rows =
      let its = some_journal found i.journal tabled.keeps some in
      let serves = subst (λ f. Serves schema_of Holds (state g h).now (Some (tables_kept (begins_of f) i))) its.2
      (tabled.kept.serves live) in
      rows_held (state g h).now.trees i its.0.begins its.1 i.journal its.3 serves.holds

-- the rows of the third version tell those of today's
pub same_today : (i j : Institution) → tables_at Third i ≡ tables_at Third j → tables_of i ≡ tables_of j
same_today i j same = ap (λ (l : Lists). record l {
  meta = map (λ (m : MetaRow). record m { schema = schema_number }) l.meta;
}) same
