-- What a line more, and a beginning, make of all tables together.
use Rattle.std.proofs.Common.{◌≡◌, ◌∙◌, true, List, [], ◌∷◌, ◌++◌, Option, None, Some}
use Rattle.std.proofs.Common.{refl, sym, subst, true≢false}
use Rattle.sqlite.specs.Effect.{Database}
use Rattle.sqlite.specs.State.{State}
use Rattle.mf_store_sql.specs.Numbered.{Filed, KeepsLines}
use Rattle.mf_store_sql.specs.Trees.{SameTrees}
use Rattle.mf_store_sql.specs.Writes.{Serves, Steps}
use Rattle.mf_store_sql.proofs.SpareLemmas.{all_and, all_changed, all_same}
use Rattle.mf_store_schema.specs.Rows.{Lists}
use Rattle.mf_store_schema.specs.Tables.{journal, schema, third_schema}
use Rattle.mf_store_schema.specs.Writes.{schema_of, Holds, conditions, journal_conditions}
use Rattle.mf_store_schema.specs.Writes.{are_some}
use Rattle.mf_journal.specs.declared.following.Head.{Head}
use Rattle.mf_journal.specs.declared.following.KeptRow.{KeptRow}
use Rattle.mf_store_journal.specs.Adding.{MakesJournal, PutsLine}
use Rattle.mf_store_journal.specs.Noting.{FitsNoted, after_noted_write, with_journal}
use Rattle.mf_store_journal.specs.Rows.{filed_beginning, filed_kept}
use Rattle.mf_store_journal.specs.declared.noting.NotedWrite.TheVariants.{Begin, AddLine}
use Rattle.mf_store_journal.proofs.TextsLemmas.{is_journal}

-- the database has the program's tables, which keep these lists
abbrev Stands : Database → Option Lists → Type 0
Stands = Serves schema_of Holds

eleven_trees : (lists : Lists) → SameTrees schema.tables (conditions lists)
eleven_trees lists = (refl, (refl, (refl, (refl, (refl, (refl, (refl, (refl, (refl, (refl, (refl, tt)))))))))))

twelve_trees : (lists : Lists) (line : Filed) (lines : List Filed) → SameTrees third_schema.tables (conditions lists
    ++ journal_conditions (line ∷ lines))
twelve_trees lists line lines =
    (refl, (refl, (refl, (refl, (refl, (refl, (refl, (refl, (refl, (refl, (refl, (refl, tt))))))))))))

-- a line stands at the end of a journal that is kept
line_stands : (line : Filed) (lists : Lists) (rows : List Filed) → lists.journal ≡ rows → are_some rows ≡ true
    → (old new : State) → PutsLine line old new → Stands old.now (Some lists)
    → Stands new.now (Some (with_journal (rows ++ line ∷ []) lists))
line_stands line lists [] is some old new puts s = absurd (true≢false (sym some))
line_stands line lists (first ∷ more) is some old new puts s =
    let before : Stands old.now (Some (with_journal (first ∷ more) lists)) =
    subst (λ rows. Stands old.now (Some (with_journal rows lists))) is s in
    let put = puts.put (first ∷ more) (record {
      schema_is = before.schema_is;
      keeps = before.holds.all.1.1.1.1.1.1.1.1.1.1.1.0;
    }) in
    record {
      schema_is = put.schema_is;
      holds = record {
        sound = put.sound;
        all = all_changed 23 old.now.trees new.now.trees 11
            (23, λ tree. KeepsLines journal tree (first ∷ (more ++ line ∷ []))) third_schema.tables
            (conditions lists ++ journal_conditions (first ∷ more)) (twelve_trees lists first more) put.others refl
            put.keeps before.holds.all;
      };
    }

pub adds_line : (kept : KeptRow) (old new : State) → PutsLine (filed_kept kept) old new
    → Steps Stands (FitsNoted (AddLine kept)) (after_noted_write (AddLine kept)) old new
adds_line kept old new puts = record { mode = puts.mode; was_open = puts.was_open; turns = turns }
  where
    turns : (lists : Option Lists) → Stands old.now lists → FitsNoted (AddLine kept) lists
        → Stands new.now (after_noted_write (AddLine kept) lists)
    turns None s fits = absurd fits
    turns (Some lists) s fits = line_stands (filed_kept kept) lists lists.journal refl fits old new puts s

-- the first row stands in the journal that was made
pub begins_journal : (head : Head) (old mid new : State) → MakesJournal old mid
    → PutsLine (filed_beginning head) mid new
    → Steps Stands (FitsNoted (Begin head)) (after_noted_write (Begin head)) old new
begins_journal head old mid new makes puts =
    record { mode = puts.mode; was_open = makes.was_open; turns = turns }
  where
    begun : (lists : Lists) (rows : List Filed) → lists.journal ≡ rows → rows ≡ [] → Stands old.now (Some lists)
        → Stands new.now (Some (with_journal (rows ++ filed_beginning head ∷ []) lists))
    begun lists (first ∷ more) is none s = absurd (cc)
    begun lists [] is none s =
        let before : Stands old.now (Some (with_journal [] lists)) =
        subst (λ rows. Stands old.now (Some (with_journal rows lists))) is s in
        let made = makes.made before.schema_is in
        let eleven = all_same old.now.trees mid.now.trees schema.tables (conditions lists) (eleven_trees lists)
        made.others before.holds.all in
        let put = puts.put [] (record {
          schema_is = made.schema_is ∙ is_journal.schema_is;
          keeps = made.fresh;
        }) in
        record {
          schema_is = put.schema_is;
          holds = record {
            sound = put.sound;
            all = all_changed 23 mid.now.trees new.now.trees 11
                (23, λ tree. KeepsLines journal tree (filed_beginning head ∷ [])) third_schema.tables
                (conditions lists ++ (23, λ tree. KeepsLines journal tree []) ∷ []) (twelve lists) put.others refl
                put.keeps
                (all_and mid.now.trees (conditions lists) ((23, λ tree. KeepsLines journal tree []) ∷ []) eleven
                (made.fresh, tt));
          };
        }
      where
        twelve : (lists : Lists) → SameTrees third_schema.tables (conditions lists
            ++ (23, λ tree. KeepsLines journal tree []) ∷ [])
        twelve lists =
            (refl, (refl, (refl, (refl, (refl, (refl, (refl, (refl, (refl, (refl, (refl, (refl, tt))))))))))))

    turns : (lists : Option Lists) → Stands old.now lists → FitsNoted (Begin head) lists
        → Stands new.now (after_noted_write (Begin head) lists)
    turns None s fits = absurd fits
    turns (Some lists) s fits = begun lists lists.journal refl fits s
