-- The rows of a sound institution by the first version, and those that it has by the second.
use Rattle.std.proofs.Common.{◌≡◌, ◌≢◌, ◌⊎◌, inl, inr, [], ◌∷◌, List, Option, None, Some, IsTrue, refl, sym, ap}
use Rattle.std.proofs.Common.{◌∙◌, subst}
use Rattle.std.specs.declared.cmp.Ordering.TheVariants.{Less}
use Rattle.sqlite.specs.State.{State}
use Rattle.sqlite_trees.specs.Tree.{IsAscending}
use Rattle.sqlite.specs.Tree.{Trees}
use Rattle.mf_journal.specs.declared.following.Head.{Head}
use Rattle.mf_model.specs.Institution.{Institution, JournalLine}
use Rattle.mf_store_sql.specs.Writes.{Serves}
use Rattle.mf_store_sql.proofs.SpareLemmas.{all_and}
use Rattle.mf_model.specs.Sound.{IsSound}
use Rattle.mf_store_journal.specs.Rows.{journal_rows_in}
use Rattle.mf_store_journal.specs.Written.{KeepsJournalFrom}
use Rattle.mf_store_journal.specs.declared.journal.Journal.{Journal}
use Rattle.mf_store_noted.specs.Kept.{IsJournalOf, begins_of, tables_kept}
use Rattle.mf_store_schema.specs.Rows.{Lists, by_instalment, by_share}
use Rattle.mf_store_schema.specs.declared.instalments.InstalmentRow.{InstalmentRow}
use Rattle.mf_store_schema.specs.declared.meta.MetaRow.{MetaRow}
use Rattle.mf_store_schema.specs.declared.shares.ShareRow.{ShareRow}
use Rattle.mf_store_schema.specs.Upgrade.{upgraded_lists, CanUpgrade}
use Rattle.mf_store_schema.specs.Upgraded.{IsKeepingAt}
use Rattle.mf_store_schema.specs.Versions.{schema_at}
use Rattle.mf_store_schema.specs.Writes.{Holds, HoldsAt, conditions, journal_conditions, schema_of}
use Rattle.mf_store_schema.specs.declared.versions.Version.{Version}
use Rattle.mf_store_schema.specs.declared.versions.Version.TheVariants.{First, Second, Third}
use Rattle.mf_store_values.specs.Flat.{tables_of, meta_on}
use Rattle.mf_store_sound.specs.Held.{IsFoundIn, KeepsJournalAt}
use Rattle.mf_store_sound.specs.Schemas.{meta_under, tables_at}
use Rattle.mf_store_sound.proofs.RiseLemmas.{instalments_rise, shares_rise}

-- Tables of the second version and of the third are the program's own, with the journal that was found.
module _ (s : State) (i : Institution) where
  with_rows : (begins : Head) (lines : List JournalLine) → KeepsJournalFrom begins s.now.trees lines
      → Serves (λ _. schema_at Third) (HoldsAt Third) s.now (tables_at Third i)
      → (journal : Option (List JournalLine)) → journal ≡ Some lines
      → Serves schema_of Holds s.now (Some (record (tables_at Third i) { journal = journal_rows_in begins journal }))
  with_rows begins lines from kept journal is =
      subst (λ j. Serves schema_of Holds s.now
      (Some (record (tables_at Third i) { journal = journal_rows_in begins j }))) (sym is) (record {
        schema_is = kept.schema_is;
        holds = record {
          sound = kept.holds.sound;
          all = all_and s.now.trees (conditions (tables_at Third i)) (journal_conditions
              (journal_rows_in begins (Some lines))) kept.holds.all (from.keeps, tt);
        };
      })

  pub keeps_own : (v : Version) → v ≢ First → (found : Option Journal) → IsFoundIn s.now.trees found i.journal
      → IsKeepingAt v s (tables_at v i) → (IsTrue s.is_open → KeepsJournalAt v s.now.trees i.journal)
      → IsTrue s.is_open → Serves schema_of Holds s.now (Some (tables_kept (begins_of found) i))
  keeps_own First later found is keeping own live = absurd (later refl)
  keeps_own Second later None is keeping own live =
      let kept = keeping live in
      record { schema_is = kept.schema_is; holds = record { sound = kept.holds.sound; all = kept.holds.all } }
  keeps_own Second later (Some j) is keeping own live =
      let both : None ≡ Some is.0 = sym (own live) ∙ is.1 in absurd (cc)
  keeps_own Third later None is keeping own live =
      let both : None ≡ Some (own live).1 = sym is ∙ (own live).2 in absurd (cc)
  keeps_own Third later (Some j) is keeping own live =
      with_rows j.begins is.0 is.2 (keeping live) i.journal is.1

pub first_or_later : (v : Version) → (v ≡ First) ⊎ (v ≢ First)
first_or_later First = inl refl
first_or_later Second = inr (λ e. cc)
first_or_later Third = inr (λ e. cc)

-- no journal was found where none is kept, and the institution's is the one that was found
pub found_none : (v : Version) → v ≡ First → (trees : Trees) (i : Institution) (found : Option Journal)
    → IsFoundIn trees found i.journal → KeepsJournalAt v trees i.journal → found ≡ None
found_none First first trees i None is own = refl
found_none First first trees i (Some j) is own = let both : None ≡ Some is.0 = sym own ∙ is.1 in absurd (cc)
found_none Second first trees i found is own = absurd (cc)
found_none Third first trees i found is own = absurd (cc)

pub journal_of : (trees : Trees) (i : Institution) (found : Option Journal) → IsFoundIn trees found i.journal
    → IsJournalOf found i
journal_of trees i None is = is
journal_of trees i (Some j) is = (is.0, is.1, record { can_be = (is.2).lines_can_be; stands = is.3 })

head_is : (a b : MetaRow) (rest : List MetaRow) → a ∷ [] ≡ b ∷ rest → a ≡ b
head_is a b rest e = cc

-- the first row of meta among today's rows
pub meta_is : (i : Institution) (tables : Lists) (row : MetaRow) (rest : List MetaRow) → tables ≡ tables_at Second i
    → tables.meta ≡ row ∷ rest → row ≡ meta_on i.catalogue.day
meta_is i tables row rest are first =
    sym (head_is (meta_on i.catalogue.day) row rest (sym (ap (λ (l : Lists). l.meta) are) ∙ first))

module _ (i : Institution) (meta : MetaRow) (instalments : List InstalmentRow) (shares : List ShareRow)
    (meta_same : meta ≡ meta_on i.catalogue.day) (instalments_same : instalments ≡ (tables_of i).instalments)
    (shares_same : shares ≡ (tables_of i).shares) where
  pub can_upgrade : IsSound i → CanUpgrade meta instalments shares (tables_at First i)
  can_upgrade sound = record {
    old = meta_under 1 i.catalogue.day;
    one = refl;
    same_key = ap (λ (r : MetaRow). r.one) meta_same;
    instalments_rise = subst (IsAscending (λ a b. by_instalment a b ≡ Less)) (sym instalments_same)
        (instalments_rise i sound);
    shares_rise = subst (IsAscending (λ a b. by_share a b ≡ Less)) (sym shares_same) (shares_rise i sound);
  }

  pub upgraded_is : upgraded_lists meta instalments shares (tables_at First i) ≡ tables_of i
  upgraded_is = λ t. upgraded_lists (meta_same t) (instalments_same t) (shares_same t) (tables_at First i)
