-- What the text that puts the row of where a journal begins does to the journal's table.
use Rattle.std.proofs.Common.{◌≡◌, ◌∙◌, ℕ, ℤ, pos, ◌<ℤ◌, List, [], ◌∷◌, map, Ok, refl, sym, ap, ap₂, subst, arith}
use Rattle.std.proofs.Common.{Greater, int_cmp}
use Rattle.std.proofs.lemmas.Int.{ints}
use Rattle.sqlite.specs.declared.types.Value.TheVariants.{Int, Blob}
use Rattle.sqlite.specs.Cast.{cast_row}
use Rattle.sqlite.specs.Edit.{edit_of, put_all, with_rowid}
use Rattle.sqlite.specs.Order.{Row, value_cmp}
use Rattle.sqlite.specs.Rowids.TheVariants.{Chosen}
use Rattle.sqlite.specs.Source.TheVariants.{Values}
use Rattle.sqlite.specs.State.{State, Executes}
use Rattle.sqlite.specs.Table.{Table}
use Rattle.sqlite_rules.specs.Edit.{Applies}
use Rattle.sqlite_trees.specs.Tree.{put_row}
use Rattle.sqlite_value.proofs.OrderLemmas.{value_cmp-Int}
use Rattle.mf_store_sql.specs.Keep.{AreAlike}
use Rattle.mf_store_sql.specs.Numbered.{Filed, id_of, numbered_row, numbered_table, values_in}
use Rattle.mf_store_sql.specs.Writes.{Ran}
use Rattle.mf_store_sql.proofs.AlikeLemmas.{put_alike}
use Rattle.mf_store_sql.proofs.AppendLemmas.{inserted_from}
use Rattle.mf_store_sql.proofs.ColumnLemmas.{all_kept}
use Rattle.mf_store_sql.proofs.CompareLemmas.{cast_int, cast_null}
use Rattle.mf_store_sql.proofs.WriteLemmas.{opened, task}
use Rattle.mf_store_schema.specs.Tables.{journal, third_schema}
use Rattle.mf_journal.specs.declared.following.Head.{Head}
use Rattle.mf_store_journal.specs.Adding.{KeepsJournal}
use Rattle.mf_store_journal.specs.Rows.{filed_beginning, no_line}
use Rattle.mf_store_journal.proofs.RowsLemmas.{line_fits}
use Rattle.mf_store_journal.proofs.TextsLemmas.{is_journal}
use Rattle.mf_store_archive.specs.Removing.{AreAbove, KeepsInstead, PutsFirst}
use Rattle.mf_store_archive.specs.Texts.{begin_text, beginning_terms}
use Rattle.mf_store_archive.proofs.TextsLemmas.{puts_beginning}

above_int : (a b : ℤ) → a <ℤ b → value_cmp (Int b) (Int a) ≡ Greater
above_int a b h = value_cmp-Int b a ∙ turned a b h
  where
    turned : (a b : ℤ) → a <ℤ b → int_cmp b a ≡ Greater
    turned a b h = grind (arith, ints, h)

abbrev row_of : Filed → Row
row_of = numbered_row id_of values_in

-- a row whose number is below all others is put before them
put_before : (number : ℕ) (values : Row) (lines : List Filed) → AreAbove number lines
    → put_row (row_of (pos number, values)) (map row_of lines) ≡ row_of (pos number, values) ∷ map row_of lines
put_before number values [] above = refl
put_before number values (l ∷ lines) above = rw (above_int (pos number) (id_of l) above.0) refl

abbrev table : Table
table = numbered_table 23 journal

-- the values of the text's parameters
abbrev pub beginning_values : Head → Row
beginning_values head = Int (pos head.number) ∷ Int (pos head.day) ∷ Blob head.chain ∷ []

begun : (head : Head) (old new : State) (count : ℕ) (lines : List Filed) → AreAbove head.number lines
    → Executes begin_text (beginning_values head) old new (Ok count) → KeepsJournal old.now lines
    → KeepsInstead (filed_beginning head ∷ lines) old.now new.now
begun head old new count lines above h k =
    let db = old.now.trees in
    let params = beginning_values head in
    let known = is_journal.numbered in
    let line = filed_beginning head in
    let row = row_of line in
    let t = task third_schema 11 table known.there begin_text params old new k.schema_is puts_beginning.plain count in
    let it = opened third_schema 11 table known.there begin_text params old new k.schema_is puts_beginning.plain count _
    puts_beginning.is h (λ w. w) (λ out d. d) in
    let did = inserted_from t 11 known.quiet refl db (Values beginning_terms 12) _ it.2 in
    let given : did.0 ≡ row ∷ [] = did.1.1 in
    let step : Applies third_schema t.keys db (edit_of db table [] Chosen 0 (row ∷ [])) new.now.trees =
    subst (λ rows. Applies third_schema t.keys db (edit_of db table [] Chosen 0 rows) new.now.trees) given did.3 in
    let fit = line_fits (no_line head.day) head.chain in
    let cast_is : cast_row table row ≡ row =
    ap₂ ◌∷◌ (cast_int (id_of line)) (ap₂ ◌∷◌ cast_null (all_kept journal.columns (values_in line) fit)) in
    let rows : new.now.trees 23 ≡ put_row row (db 23) = step.rows
    ∙ ap (λ r. put_all (db 23) (with_rowid Chosen (db 23) r ∷ [])) cast_is in
    let alike : AreAlike (put_row row (db 23)) (map row_of (line ∷ lines)) =
    subst (AreAlike (put_row row (db 23))) (put_before head.number (values_in line) lines above)
    (put_alike row (db 23) (map row_of lines) (k.keeps).kept.rows) in
    record {
      schema_is = it.3;
      sound = it.4;
      keeps = record {
        kept = record {
          rows = subst (λ rs. AreAlike rs (map row_of (line ∷ lines))) (sym rows) alike;
          rising = (above, (k.keeps).kept.rising);
        };
        fitting = (fit, (k.keeps).fitting);
      };
      others = step.tables;
    }

pub puts_first : (sql : List ℕ) (params : Row) (head : Head) (old new : State) → sql ≡ begin_text
    → params ≡ beginning_values head → Ran sql params old new → PutsFirst head old new
puts_first sql params head old new text given ran = record {
  mode = ran.mode;
  was_open = ran.was_open;
  put = λ lines above k. begun head old new ran.count lines above
      (subst (λ s. Executes s (beginning_values head) old new (Ok ran.count)) text
      (subst (λ ps. Executes sql ps old new (Ok ran.count)) given ran.ran)) k;
}
