-- From an archive that was written, and lines that were taken out, to both files together.
use Rattle.std.proofs.Common.{◌≡◌, ◌∙◌, inl, inr, ℕ, List, ◌∷◌, ◌++◌, Option, Some, IsTrue, Ok, Err}
use Rattle.std.proofs.Common.{sym, ap, subst, Result}
use Rattle.sqlite.specs.Effect.{Database}
use Rattle.sqlite.specs.Held.{Held, state}
use Rattle.sqlite.specs.Tree.{Trees}
use Rattle.sqlite_trees.specs.declared.store.Store.{Ghosts}
use Rattle.mf_base.specs.declared.fault.Fault.{Fault}
use Rattle.mf_model.specs.Institution.{Institution, JournalLine}
use Rattle.mf_journal.specs.declared.following.Head.{Head}
use Rattle.mf_store_sql.specs.Trees.{AllHold}
use Rattle.mf_store_schema.specs.Schemas.{IsUnchangedUnder}
use Rattle.mf_store_schema.specs.Tables.{schema_keeping}
use Rattle.mf_store_schema.specs.Writes.{are_some, conditions, journal_conditions}
use Rattle.mf_store_journal.specs.Reading.{IsThird}
use Rattle.mf_store_journal.specs.Rows.{head_with_all, journal_rows_in}
use Rattle.mf_store_journal.specs.Written.{DaysRise}
use Rattle.mf_store_journal.specs.declared.journal.Journal.{Journal}
use Rattle.mf_store_noted.specs.Kept.{tables_kept}
use Rattle.mf_store_noted.specs.Tabled.{HasGoodDisk, IsTabled, LeavesTables}
use Rattle.mf_store_archive.specs.Archived.{IsCut, archived, staying, with_lines}
use Rattle.mf_store_archive.specs.Archiving.{Archives, IsBefore}
use Rattle.mf_store_archive.specs.Filing.{HoldsFiled, archive_rows}
use Rattle.mf_store_archive.specs.Taking.{TakesOut, begun_elsewhere}
use Rattle.mf_store_archive.specs.Writing.{KeepsLinesOf, WritesArchive}
use Rattle.mf_store_archive.proofs.ArchivedLemmas.{cut_by_day}
use Rattle.mf_store_archive.proofs.TakesLemmas.{same_lines}

-- ---- what the tables of an institution with a journal keep of it

module _ {S : Type 0} (f : Ghosts S) (journal : Journal) (i : Institution) (lines : List JournalLine)
    (are : i.journal ≡ Some lines) (h : Held S) (t : IsTabled f (Some journal) h i) where
  pub has_third : IsTrue (state f h).is_open → IsThird (state f h).now.schema
  has_third live = (t.kept.serves live).schema_is
      ∙ ap (λ (j : Option (List JournalLine)). schema_keeping (are_some (journal_rows_in journal.begins j))) are

  pub keeps_lines : KeepsLinesOf journal.begins lines (state f h)
  keeps_lines live =
      let all = subst (λ (j : Option (List JournalLine)). AllHold (state f h).now.trees
      (conditions (tables_kept (Some journal.begins) i) ++ journal_conditions (journal_rows_in journal.begins j)))
      are (t.kept.serves live).holds.all in
      record { schema_is = has_third live; keeps = all.1.1.1.1.1.1.1.1.1.1.1.0 }

  pub days_rise : DaysRise journal.begins.day lines
  days_rise = subst (DaysRise journal.begins.day) (same_lines (t.keeps).0 lines (sym (t.keeps).1 ∙ are))
      (t.keeps).2.can_be.days

-- ---- the file, as it stays while the archive is written

module _ {S : Type 0} (f : Ghosts S) (journal : Journal) (was mid : Held S)
    (kept : IsUnchangedUnder IsThird (state f was) (state f mid)) where
  pub still_tabled : HasGoodDisk f mid → (i : Institution) → IsTabled f (Some journal) was i
      → IsTabled f (Some journal) mid i
  still_tabled clean i t = record {
    kept = record {
      sound = t.kept.sound;
      serves = λ live.
          let up = kept.was_open clean live in
          let lines = (t.keeps).0 in
          rw (kept.same clean live (has_third f journal i lines (t.keeps).1 was t up)) (t.kept.serves up);
    };
    keeps = t.keeps;
  }

  pub still_leaves : (i : Institution) → IsTabled f (Some journal) was i → (left : List Institution)
      → LeavesTables f was left → LeavesTables f mid left
  still_leaves i t left l = record {
    ours = λ clean live.
        let up = kept.was_open clean live in
        let third = has_third f journal i (t.keeps).0 (t.keeps).1 was t up in
        let ours = l.ours (kept.premise clean) up in
        (ours.0, ap (λ (d : Database). d.schema) (kept.same clean live third) ∙ ours.1);
    whole = λ clean trees may. l.whole (kept.premise clean) trees (kept.stop clean (λ up.
        has_third f journal i (t.keeps).0 (t.keeps).1 was t up) trees may);
  }

-- ---- both files

module _ {S A : Type 0} (f : Ghosts S) (g : Ghosts A) (day : ℕ) (journal : Journal) where
  -- the archive could not be written
  pub unwritten : (was is : Held S) (old new : Held A) (fault : Fault)
      → WritesArchive f g day journal.begins was is old new (Err fault)
      → Archives f g day journal was is old new (Err fault)
  unwritten was is old new fault w = record {
    premise = w.kept.premise;
    premise_too = w.premise;
    gives_up = w.gives_up;
    is_open = λ clean. tt;
    begun = λ clean good i lines b. tt;
    stay = λ clean good i lines b. tt;
    moved = λ clean good i lines b. tt;
    left = λ clean good i lines b. tt;
    same = λ clean i t. still_tabled f journal was is w.kept clean i t;
    safe = λ clean good i lines b trees may. inl (w.kept.stop clean (λ up. has_third f journal i lines b.lines_are was
        b.tabled up) trees may);
    part = λ clean good i lines b. w.stop clean good lines (keeps_lines f journal i lines b.lines_are was b.tabled)
        b.empty;
    stop = λ clean good i lines b left l. more (with_lines (staying day lines) i) left
        (still_leaves f journal was is w.kept i b.tabled left l);
  }
    where
      -- one more may be left
      more : (j : Institution) (left : List Institution) → LeavesTables f is left → LeavesTables f is (j ∷ left)
      more j left l = record { ours = l.ours; whole = λ clean trees may. inr (l.whole clean trees may) }

  module _ (was mid is : Held S) (old new : Held A) (begins : Head)
      (w : WritesArchive f g day journal.begins was mid old new (Ok begins))
      (r : Result Journal Fault)
      (t : TakesOut f journal begins mid is r) where
    clean_before : HasGoodDisk f is → HasGoodDisk f mid
    clean_before clean = t.premise clean

    module _ (i : Institution) (lines : List JournalLine) (b : IsBefore f g journal i lines was old) where
      keeps : KeepsLinesOf journal.begins lines (state f was)
      keeps = keeps_lines f journal i lines b.lines_are was b.tabled

      days : DaysRise journal.begins.day lines
      days = days_rise f journal i lines b.lines_are was b.tabled

      ends : HasGoodDisk f is → HasGoodDisk g new → begins ≡ head_with_all journal.begins (archived day lines)
      ends clean good = w.head (clean_before clean) good lines keeps days b.empty

      cut : HasGoodDisk f is → HasGoodDisk g new
          → IsCut journal.begins begins i (archived day lines) (staying day lines)
      cut clean good = record {
        journal = b.lines_are ∙ ap Some (cut_by_day day journal.begins.day lines days);
        stands = ends clean good;
      }

      tabled_now : HasGoodDisk f is → IsTabled f (Some journal) mid i
      tabled_now clean = still_tabled f journal was mid w.kept (clean_before clean) i b.tabled

      safe_now : HasGoodDisk f is → HasGoodDisk g new → (rows : Trees) → (state g new).may_leave rows
          → HoldsFiled rows (archive_rows journal.begins (archived day lines))
      safe_now clean good = w.left (clean_before clean) good lines keeps days b.empty

      stop_now : HasGoodDisk f is → HasGoodDisk g new → (left : List Institution) → LeavesTables f was left
          → LeavesTables f is (with_lines (staying day lines) i ∷ left)
      stop_now clean good left l =
          t.stop clean i (archived day lines) (staying day lines) left (tabled_now clean) (cut clean good)
          (still_leaves f journal was mid w.kept i b.tabled left l)

  -- the lines were taken out
  archived_both : (was mid is : Held S) (old new : Held A) (begins : Head)
      → WritesArchive f g day journal.begins was mid old new (Ok begins) → (next : Journal)
      → TakesOut f journal begins mid is (Ok next) → Archives f g day journal was is old new (Ok next)
  archived_both was mid is old new begins w next t = record {
    premise = λ clean. w.kept.premise (t.premise clean);
    premise_too = w.premise;
    gives_up = tt;
    is_open = t.is_open;
    begun = λ clean good i lines b. t.begun
        ∙ ap (λ (h : Head). begun_elsewhere h journal) (ends was mid is old new begins w (Ok next) t i lines b clean
        good);
    stay = λ clean good i lines b. t.made clean i (archived day lines) (staying day lines)
        (tabled_now was mid is old new begins w (Ok next) t i lines b clean)
        (cut was mid is old new begins w (Ok next) t i lines b clean good);
    moved = λ clean good i lines b. w.written (t.premise clean) good lines
        (keeps was mid is old new begins w (Ok next) t i lines b)
        (days was mid is old new begins w (Ok next) t i lines b) b.empty;
    left = λ clean good i lines b. t.left clean i (archived day lines) (staying day lines)
        (tabled_now was mid is old new begins w (Ok next) t i lines b clean)
        (cut was mid is old new begins w (Ok next) t i lines b clean good);
    same = λ clean i s. tt;
    safe = λ clean good i lines b trees may. inr
        (safe_now was mid is old new begins w (Ok next) t i lines b clean good);
    part = λ clean good i lines b. w.stop (t.premise clean) good lines
        (keeps was mid is old new begins w (Ok next) t i lines b) b.empty;
    stop = λ clean good i lines b. stop_now was mid is old new begins w (Ok next) t i lines b clean good;
  }

  -- they could not be
  kept_both : (was mid is : Held S) (old new : Held A) (begins : Head)
      → WritesArchive f g day journal.begins was mid old new (Ok begins) → (fault : Fault)
      → TakesOut f journal begins mid is (Err fault) → Archives f g day journal was is old new (Err fault)
  kept_both was mid is old new begins w fault t = record {
    premise = λ clean. w.kept.premise (t.premise clean);
    premise_too = w.premise;
    gives_up = t.gives_up;
    is_open = λ clean. tt;
    begun = λ clean good i lines b. tt;
    stay = λ clean good i lines b. tt;
    moved = λ clean good i lines b. tt;
    left = λ clean good i lines b. tt;
    same = λ clean i s. t.same clean i (still_tabled f journal was mid w.kept (t.premise clean) i s);
    safe = λ clean good i lines b trees may. inr
        (safe_now was mid is old new begins w (Err fault) t i lines b clean good);
    part = λ clean good i lines b. w.stop (t.premise clean) good lines
        (keeps was mid is old new begins w (Err fault) t i lines b) b.empty;
    stop = λ clean good i lines b. stop_now was mid is old new begins w (Err fault) t i lines b clean good;
  }

  -- whichever of both
  pub taken_or_kept : (was mid is : Held S) (old new : Held A) (begins : Head)
      → WritesArchive f g day journal.begins was mid old new (Ok begins) → (r : Result Journal Fault)
      → TakesOut f journal begins mid is r → Archives f g day journal was is old new r
  taken_or_kept was mid is old new begins w (Ok next) t = archived_both was mid is old new begins w next t
  taken_or_kept was mid is old new begins w (Err fault) t = kept_both was mid is old new begins w fault t
