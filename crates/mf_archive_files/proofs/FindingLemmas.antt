-- From the first row of a journal to whether a line is of a day or an earlier one.
use Rattle.std.proofs.Common.{◌≡◌, ◌∙◌, ◌<◌, ℕ, Bool, true, false, cond, List, [], ◌∷◌, map, take}
use Rattle.std.proofs.Common.{Option, None, Some, Result, IsTrue, slice_get, refl, sym, ap, ap₂, subst, arith}
use Rattle.std.specs.Prelude.{nat_le}
use Rattle.std.proofs.lemmas.Bool.Decides.{nat_tests}
use Rattle.sqlite.specs.Held.{Held, state}
use Rattle.sqlite.specs.Order.{Row}
use Rattle.sqlite.specs.State.{HasCleanDisk}
use Rattle.sqlite_trees.specs.declared.store.Store.{Ghosts}
use Rattle.mf_model.specs.Institution.{Institution, JournalLine}
use Rattle.mf_journal.specs.declared.following.Head.{Head}
use Rattle.mf_journal.specs.declared.following.KeptRow.{KeptRow}
use Rattle.mf_store_sql.specs.Numbered.{Filed, shown_filed}
use Rattle.mf_store_schema.specs.Schemas.{IsUnchangedUnder}
use Rattle.mf_store_journal.specs.Reading.{IsThird, page_above, page_size}
use Rattle.mf_store_journal.specs.Rows.{filed_after, filed_at, filed_kept, head_with, head_with_all, journal_rows_in}
use Rattle.mf_store_journal.specs.Written.{CanBeLines, DaysRise, KeepsJournalFrom}
use Rattle.mf_store_journal.specs.declared.journal.Journal.{Journal}
use Rattle.mf_store_journal.proofs.CheckLemmas.{shown_once}
use Rattle.mf_store_journal.proofs.GoingLemmas.{keeping_after}
use Rattle.mf_store_journal.proofs.RowsLemmas.{line_in}
use Rattle.mf_store_noted.specs.Tabled.{IsTabled}
use Rattle.mf_store_archive.specs.Archived.{archived}
use Rattle.mf_store_archive.specs.Writing.{KeepsLinesOf}
use Rattle.mf_store_archive.proofs.ArchivedLemmas.{archived_are, rows_left}
use Rattle.mf_store_archive.proofs.ArchivingLemmas.{days_rise, has_third, keeps_lines}
use Rattle.mf_store_archive.proofs.TakesLemmas.{same_lines}
use Rattle.mf_archive_files.specs.Finding.{IsFirstDay, IsFoundFor, are_lines, is_day_up_to}
use Rattle.mf_archive_files.specs.declared.finding.Unmoved.{Unmoved}

-- no line is there
pub no_lines : (lines : List JournalLine) → false ≡ are_lines lines → lines ≡ []
no_lines [] none = refl
no_lines (l ∷ ls) none = absurd (cc)

module _ (day : ℕ) (begins : Head) (rows : List Row) where
  -- the rows are the first of the lines'
  abbrev AreFirst : List JournalLine → Type 0
  AreFirst lines = rows ≡ map shown_filed (take page_size (filed_after begins lines))

  are_first : (lines : List JournalLine) → rows ≡ page_above begins.number (journal_rows_in begins (Some lines))
      → AreFirst lines
  are_first lines shown = shown ∙ ap (λ rs. map shown_filed (take page_size rs)) (rows_left begins [] lines)

  -- no row, no line
  pub none_up_to : (lines : List JournalLine) → rows ≡ page_above begins.number (journal_rows_in begins (Some lines))
      → slice_get rows 0 ≡ None → are_lines (archived day lines) ≡ false
  none_up_to lines shown none = go lines (subst (λ rs. slice_get rs 0 ≡ None) (are_first lines shown) none)
    where
      go : (ls : List JournalLine)
          → slice_get (map shown_filed (take page_size (filed_after begins ls))) 0 ≡ None
          → are_lines (archived day ls) ≡ false
      go [] is = refl
      go (l ∷ ls) is = absurd (cc)

  -- the first line is of this day
  first_is : (k : KeptRow) → slice_get rows 0 ≡ Some (shown_filed (filed_kept k)) → (lines : List JournalLine)
      → AreFirst lines → (l : JournalLine) × (ls : List JournalLine) × (lines ≡ l ∷ ls) × (l.day ≡ k.row.day)
  first_is k is lines first = go lines (subst (λ rs. slice_get rs 0 ≡ Some (shown_filed (filed_kept k))) first is)
    where
      go : (lines : List JournalLine) → slice_get (map shown_filed (take page_size (filed_after begins lines))) 0
          ≡ Some (shown_filed (filed_kept k)) → (l : JournalLine) × (ls : List JournalLine) × (lines ≡ l ∷ ls)
          × (l.day ≡ k.row.day)
      go [] is = absurd (cc)
      go (l ∷ ls) is =
          (l, ls, refl, ap (λ f. (line_in f).day) (shown_once (filed_at (head_with begins l) l) (filed_kept k) (cc)))

  -- some are, or none
  pub some_up_to : (k : KeptRow) → slice_get rows 0 ≡ Some (shown_filed (filed_kept k))
      → (lines : List JournalLine) → rows ≡ page_above begins.number (journal_rows_in begins (Some lines))
      → DaysRise begins.day lines → nat_le k.row.day day ≡ are_lines (archived day lines)
  some_up_to k is lines shown days =
      let it = first_is k is lines (are_first lines shown) in
      subst (λ ls. nat_le k.row.day day ≡ are_lines (archived day ls)) (sym it.2)
      (subst (λ (n : ℕ). nat_le n day ≡ are_lines (archived day (it.0 ∷ it.1))) it.3
      (go it.0 it.1 (nat_le (it.0).day day) refl (subst (DaysRise begins.day) it.2 days)))
    where
      go : (l : JournalLine) (ls : List JournalLine) (b : Bool) → nat_le l.day day ≡ b → DaysRise begins.day (l ∷ ls)
          → nat_le l.day day ≡ are_lines (archived day (l ∷ ls))
      go l ls true up days = up ∙ sym (ap (λ b. are_lines (cond b (l ∷ archived day ls) (archived day ls))) up)
      go l ls false late days =
          let later : day < l.day = grind (arith, nat_tests, late) in
          late ∙ sym (ap are_lines (archived_are day begins.day [] (l ∷ ls) tt later days))

  -- by the first row
  pub has_some : (first : Option ℕ) → IsFirstDay rows first → (lines : List JournalLine)
      → rows ≡ page_above begins.number (journal_rows_in begins (Some lines)) → DaysRise begins.day lines
      → is_day_up_to day first ≡ are_lines (archived day lines)
  has_some None none lines shown days = sym (none_up_to lines shown none)
  has_some (Some n) is lines shown days =
      ap (λ (m : ℕ). nat_le m day) is.2 ∙ some_up_to is.0 is.1 lines shown days

-- ---- the journal that was read

module _ {S : Type 0} (g : Ghosts S) (h : Held S) (live : IsTrue (state g h).is_open) (journal : Journal)
    (i : Institution) (lines : List JournalLine) (t : IsTabled g (Some journal) h i) (are : i.journal ≡ Some lines)
  where
    pub can_be : CanBeLines journal.begins lines
    can_be = subst (CanBeLines journal.begins) (same_lines (t.keeps).0 lines (sym (t.keeps).1 ∙ are))
        (t.keeps).2.can_be

    stands : journal.head ≡ head_with_all journal.begins lines
    stands = (t.keeps).2.stands
        ∙ ap (head_with_all journal.begins) (same_lines (t.keeps).0 lines (sym (t.keeps).1 ∙ are))

    -- is the institution's
    pub same_journal : (found : Journal) → ((begins : Head) (ls : List JournalLine)
        → KeepsJournalFrom begins (state g h).now.trees ls → (found.begins ≡ begins)
        × (found.head ≡ head_with_all begins ls)) → found ≡ journal
    same_journal found only =
        let is = only journal.begins lines (record {
          lines_can_be = can_be;
          keeps = (keeps_lines g journal i lines are h t live).keeps;
        }) in
        ap₂ (λ (b e : Head). record { begins = b; head = e }) is.0 (is.1 ∙ sym stands)

-- what is found of it
module _ {S : Type 0} (g : Ghosts S) (old mid new : Held S)
    (kept : IsUnchangedUnder IsThird (state g old) (state g mid))
    (kept_too : IsUnchangedUnder IsThird (state g mid) (state g new)) (day today : ℕ) (found : Journal)
    (up : HasCleanDisk (state g mid) → IsTrue (state g mid).is_open)
    (only : HasCleanDisk (state g mid) → IsThird (state g old).now.schema → (begins : Head) (ls : List JournalLine)
    → KeepsJournalFrom begins (state g old).now.trees ls → (found.begins ≡ begins)
    × (found.head ≡ head_with_all begins ls)) where
  pub found_if : (has : Bool) (r : Result Journal Unmoved) → (HasCleanDisk (state g new)
      → (lines : List JournalLine) → KeepsLinesOf found.begins lines (state g mid) → DaysRise found.begins.day lines
      → has ≡ are_lines (archived day lines))
      → ((lines : List JournalLine) → has ≡ are_lines (archived day lines) → IsFoundFor day today found lines r)
      → HasCleanDisk (state g new) → (journal : Journal) (i : Institution) (lines : List JournalLine)
      → IsTabled g (Some journal) old i → i.journal ≡ Some lines → IsFoundFor day today journal lines r
  found_if has r reads finds clean journal i lines t are =
      let good = kept_too.premise clean in
      let live = kept.was_open good (up good) in
      let same = same_journal g old live journal i lines t are found
      (only good (has_third g journal i lines are old t live)) in
      let keeps = keeping_after (state g old) (state g mid) (journal_rows_in journal.begins (Some lines)) kept good
      (keeps_lines g journal i lines are old t) in
      subst (λ (j : Journal). IsFoundFor day today j lines r) same
      (finds lines (reads clean lines
      (subst (λ (j : Journal). KeepsLinesOf j.begins lines (state g mid)) (sym same) keeps)
      (subst (λ (j : Journal). DaysRise j.begins.day lines) (sym same) (days_rise g journal i lines are old t))))
