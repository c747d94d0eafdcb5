-- What taking out the first lines makes of all tables together, and of an institution.
use Rattle.std.proofs.Common.{◌≡◌, ◌∙◌, ℕ, ℤ, pos, ◌<ℤ◌, Bool, true, false, cond, List, [], ◌∷◌, ◌++◌, Option, None}
use Rattle.std.proofs.Common.{Some}
use Rattle.std.proofs.Common.{refl, sym, ap, subst, arith, true≢false}
use Rattle.std.proofs.lemmas.Int.{ints}
use Rattle.sqlite.specs.Effect.{Database}
use Rattle.sqlite.specs.State.{State}
use Rattle.mf_store_sql.specs.Numbered.{Filed, KeepsLines, id_of, is_above}
use Rattle.mf_store_sql.specs.Trees.{SameTrees}
use Rattle.mf_store_sql.specs.Writes.{Serves, Steps}
use Rattle.mf_store_sql.proofs.SpareLemmas.{all_changed}
use Rattle.mf_store_schema.specs.Rows.{Lists}
use Rattle.mf_store_schema.specs.Tables.{journal, third_schema}
use Rattle.mf_store_schema.specs.Writes.{schema_of, Holds, are_some, conditions, journal_conditions}
use Rattle.mf_model.specs.Institution.{Institution, JournalLine}
use Rattle.mf_journal.specs.declared.following.Head.{Head}
use Rattle.mf_store_journal.specs.Noting.{with_journal}
use Rattle.mf_store_journal.specs.Rows.{filed_beginning, journal_rows_in, head_with_all}
use Rattle.mf_store_noted.specs.Kept.{tables_kept}
use Rattle.mf_store_archive.specs.Archived.{IsCut, with_lines}
use Rattle.mf_store_archive.specs.Removing.{AreAbove, FitsTaking, PutsFirst, RemovesUpTo, after_taking}
use Rattle.mf_store_archive.specs.Removing.{rows_above, rows_from}
use Rattle.mf_store_archive.proofs.ArchivedLemmas.{rows_left}

-- the database has the program's tables, which keep these lists
abbrev Stands : Database → Option Lists → Type 0
Stands = Serves schema_of Holds

above_number : (number : ℕ) (a : ℤ) → is_above (λ (i : ℤ). i) (pos number) a ≡ true → pos number <ℤ a
above_number number a h = grind (arith, ints, h)

-- the rows above a number are above it
are_above : (number : ℕ) (lines : List Filed) → AreAbove number (rows_above number lines)
are_above number [] = tt
are_above number (l ∷ lines) = go (is_above id_of (pos number) l) refl (are_above number lines)
  where
    go : (b : Bool) → is_above id_of (pos number) l ≡ b → AreAbove number (rows_above number lines)
        → AreAbove number (cond b (l ∷ rows_above number lines) (rows_above number lines))
    go true is more = (above_number number (id_of l) is, more)
    go false is more = more

twelve_trees : (lists : Lists) (line : Filed) (lines : List Filed) → SameTrees third_schema.tables (conditions lists
    ++ journal_conditions (line ∷ lines))
twelve_trees lists line lines =
    (refl, (refl, (refl, (refl, (refl, (refl, (refl, (refl, (refl, (refl, (refl, (refl, tt))))))))))))

module _ (head : Head) (old mid new : State) (removes : RemovesUpTo head.number old mid) (puts : PutsFirst head mid new)
  where
    taken : (lists : Lists) (rows : List Filed) → lists.journal ≡ rows → are_some rows ≡ true
        → Stands old.now (Some lists) → Stands new.now (Some (with_journal (rows_from head rows) lists))
    taken lists [] is some s = absurd (true≢false (sym some))
    taken lists (first ∷ more) is some s =
        let before : Stands old.now (Some (with_journal (first ∷ more) lists)) =
        subst (λ rows. Stands old.now (Some (with_journal rows lists))) is s in
        let gone = removes.removed (first ∷ more) (record {
          schema_is = before.schema_is;
          keeps = before.holds.all.1.1.1.1.1.1.1.1.1.1.1.0;
        }) in
        let put = puts.put (rows_above head.number (first ∷ more)) (are_above head.number (first ∷ more)) (record {
          schema_is = gone.schema_is;
          keeps = gone.keeps;
        }) in
        let middle = all_changed 23 old.now.trees mid.now.trees 11
        (23, λ tree. KeepsLines journal tree (rows_above head.number (first ∷ more))) third_schema.tables
        (conditions lists ++ journal_conditions (first ∷ more)) (twelve_trees lists first more) gone.others refl
        gone.keeps before.holds.all in
        record {
          schema_is = put.schema_is;
          holds = record {
            sound = put.sound;
            all = all_changed 23 mid.now.trees new.now.trees 11
                (23, λ tree. KeepsLines journal tree (rows_from head (first ∷ more))) third_schema.tables
                (conditions lists ++ (23, λ tree. KeepsLines journal tree (rows_above head.number (first ∷ more)))
                ∷ []) (
                  refl,
                  (
                    refl,
                    (
                      refl,
                      (
                        refl,
                        (
                          refl,
                          (
                            refl,
                            (
                              refl,
                              (
                                refl,
                                (
                                  refl,
                                  (
                                    refl,
                                    (
                                      refl,
                                      (
                                        refl,
                                        tt,
                                      ),
                                    ),
                                  ),
                                ),
                              ),
                            ),
                          ),
                        ),
                      ),
                    ),
                  ),
                ) put.others refl put.keeps middle;
          };
        }

    -- both statements together take out the first lines
    pub takes_out : Steps Stands FitsTaking (after_taking head) old new
    takes_out = record { mode = puts.mode; was_open = removes.was_open; turns = turns }
      where
        turns : (lists : Option Lists) → Stands old.now lists → FitsTaking lists
            → Stands new.now (after_taking head lists)
        turns None s fits = absurd fits
        turns (Some lists) s fits = taken lists lists.journal refl fits s

-- ---- an institution

module _ (begins now : Head) (i : Institution) (first rest : List JournalLine) (cut : IsCut begins now i first rest)
  where
    pub cut_fits : FitsTaking (Some (tables_kept (Some begins) i))
    cut_fits = ap (λ j. are_some (journal_rows_in begins j)) cut.journal

    -- the tables keep the lines that stay, and the rest as it was
    pub cut_becomes : after_taking now (Some (tables_kept (Some begins) i))
        ≡ Some (tables_kept (Some now) (with_lines rest i))
    cut_becomes = λ t. Some (record (tables_kept (Some begins) i) { journal = rows t })
      where
        rows : rows_from now (journal_rows_in begins i.journal) ≡ journal_rows_in now (Some rest)
        rows = ap (λ (j : Option (List JournalLine)). rows_from now (journal_rows_in begins j)) cut.journal
            ∙ ap (λ (h : Head). rows_from h (journal_rows_in begins (Some (first ++ rest)))) cut.stands
            ∙ ap (λ rs. filed_beginning (head_with_all begins first) ∷ rs) (rows_left begins first rest)
            ∙ ap (λ (h : Head). journal_rows_in h (Some rest)) (sym cut.stands)
