-- From a commit that takes out the first lines, or was given up, to the institution in the tables.
use Rattle.std.proofs.Common.{◌≡◌, ◌∙◌, List, [], ◌∷◌, ◌++◌, Option, Some, IsTrue, refl, sym, ap, subst, arith}
use Rattle.std.proofs.Common.{Ok, Err}
use Rattle.sqlite.specs.Effect.{Database}
use Rattle.sqlite.specs.Held.{Held, state}
use Rattle.sqlite.specs.State.{State, HasCleanDisk, Survives}
use Rattle.sqlite.specs.Tree.{Trees}
use Rattle.sqlite_trees.specs.declared.store.Store.{Ghosts}
use Rattle.mf_base.specs.declared.fault.Fault.TheVariants.{F20}
use Rattle.mf_model.specs.Institution.{Institution, JournalLine}
use Rattle.mf_model.specs.Sound.{IsSound}
use Rattle.mf_store_sql.specs.Writes.{Serves, AllFit, after_all, Turns, IsSettled, MayHold}
use Rattle.mf_store_schema.proofs.CallLemmas.{only_faults_shut}
use Rattle.mf_store_schema.specs.Tables.{IsPresent}
use Rattle.mf_store_schema.specs.Writes.{schema_of, Holds, are_some}
use Rattle.mf_journal.specs.declared.following.Head.{Head}
use Rattle.mf_store_journal.specs.Rows.{head_with_all}
use Rattle.mf_store_journal.specs.Written.{CanBeLines}
use Rattle.mf_store_journal.specs.declared.journal.Journal.{Journal}
use Rattle.mf_store_noted.specs.Kept.{IsBegun, IsJournalOf, rows_kept, tables_kept}
use Rattle.mf_store_noted.specs.Tabled.{HasGoodDisk, IsKeptIn, IsTabled, LeavesTables}
use Rattle.mf_store_noted.proofs.TurnedLemmas.{settled_leaves, turned_kept, turned_leaves}
use Rattle.mf_store_archive.specs.Archived.{IsCut, with_lines}
use Rattle.mf_store_archive.specs.Taking.{FitsTakeOut, TakesOut, after_take_out, begun_elsewhere}
use Rattle.mf_store_archive.specs.declared.taking.TakeOut.{TakeOut}
use Rattle.mf_store_archive.proofs.ArchivedLemmas.{heads_compose, rest_can}
use Rattle.mf_store_archive.proofs.TakingLemmas.{cut_becomes, cut_fits}

pub same_lines : (lines others : List JournalLine) → ◌≡◌ {A = Option (List JournalLine)} (Some lines) (Some others)
    → lines ≡ others
same_lines lines others same = cc

module _ (journal : Journal) (begins : Head) (i : Institution) (first rest : List JournalLine)
    (cut : IsCut journal.begins begins i first rest) (has : IsJournalOf (Some journal) i) where
  lines_are : has.0 ≡ first ++ rest
  lines_are = same_lines has.0 (first ++ rest) (sym has.1 ∙ cut.journal)

  can_stay : CanBeLines begins rest
  can_stay = subst (λ (h : Head). CanBeLines h rest) (sym cut.stands)
      (rest_can journal.begins first rest (subst (CanBeLines journal.begins) lines_are has.2.can_be))

  stands_still : journal.head ≡ head_with_all begins rest
  stands_still = has.2.stands ∙ ap (head_with_all journal.begins) lines_are ∙ heads_compose journal.begins first rest
      ∙ ap (λ (h : Head). head_with_all h rest) (sym cut.stands)

  -- the journal that begins elsewhere has the lines that stay
  pub has_rest : IsJournalOf (Some (begun_elsewhere begins journal)) (with_lines rest i)
  has_rest = (rest, refl, record { can_be = can_stay; stands = stands_still })

  pub rest_begun : IsBegun (Some begins) (with_lines rest i)
  rest_begun = (rest, refl, can_stay)

still_sound : (i : Institution) (lines : List JournalLine) → IsSound i → IsSound (with_lines lines i)
still_sound i lines s = record { catalogue = s.catalogue; tree = s.tree; each = s.each }

module _ (journal : Journal) (write : TakeOut) {S : Type 0} (g : Ghosts S) (old new : Held S)
    (was_open : HasGoodDisk g new → IsTrue (state g new).is_open → IsTrue (state g old).is_open)
    (survives : Survives (state g old) (state g new) (MayHold (Serves schema_of Holds) Holds
    (AllFit after_take_out FitsTakeOut (write ∷ [])) (after_all after_take_out (write ∷ [])) (state g old))) where
  abbrev was : State
  was = state g old

  abbrev is : State
  is = state g new

  abbrev begins : Head
  begins = write.begins

  abbrev Change : Type 0
  Change = Turns (Serves schema_of Holds) (AllFit after_take_out FitsTakeOut (write ∷ []))
      (after_all after_take_out (write ∷ [])) was.now is.now

  premise : HasGoodDisk g new → HasGoodDisk g old
  premise clean = omega (arith, survives.clean, clean)

  module _ (i : Institution) (first rest : List JournalLine) (t : IsTabled g (Some journal) old i)
      (cut : IsCut journal.begins begins i first rest) where
    kept : (IsTrue is.is_open → IsTrue was.is_open) → Change → IsKeptIn g (Some begins) new (with_lines rest i)
    kept opened turns =
        turned_kept after_take_out FitsTakeOut (write ∷ []) (Some (tables_kept (Some journal.begins) i)) (Some begins)
        (with_lines rest i) (cut_fits journal.begins begins i first rest cut, tt)
        (cut_becomes journal.begins begins i first rest cut) (rest_begun journal begins i first rest cut t.keeps)
        (still_sound i rest t.kept.sound) g old new t.kept.serves opened turns

    leaves : (HasCleanDisk is → IsTrue is.is_open → IsPresent is.now.schema) → (left : List Institution)
        → LeavesTables g old left → LeavesTables g new (with_lines rest i ∷ left)
    leaves ours left l =
        turned_leaves after_take_out FitsTakeOut (write ∷ []) (Some (tables_kept (Some journal.begins) i)) (Some begins)
        (with_lines rest i) (cut_fits journal.begins begins i first rest cut, tt)
        (cut_becomes journal.begins begins i first rest cut) (rest_begun journal begins i first rest cut t.keeps)
        (still_sound i rest t.kept.sound) g old new t.kept.serves ours survives left l

  pub taken : (HasGoodDisk g new → Change) → (HasGoodDisk g new → IsSettled is)
      → ((trees : Trees) → IsTrue is.is_open → is.may_leave trees → trees ≡ is.committed.trees)
      → TakesOut g journal begins old new (Ok (begun_elsewhere begins journal))
  taken turns rests settled = record {
    premise = premise;
    gives_up = tt;
    shuts = only_faults_shut was is survives;
    is_open = λ clean. (rests clean).is_open;
    begun = refl;
    made = λ clean i first rest t cut. record {
      kept = kept i first rest t cut (was_open clean) (turns clean);
      keeps = has_rest journal begins i first rest cut t.keeps;
    };
    left = λ clean i first rest t cut. settled_leaves g (Some begins) new settled (rests clean) (with_lines rest i)
        (rest_begun journal begins i first rest cut t.keeps) (kept i first rest t cut (was_open clean) (turns clean));
    same = λ clean. tt;
    stop = λ clean i first rest left t cut l. leaves i first rest t cut (λ good live. (
      are_some (rows_kept (Some begins) (with_lines rest i).journal),
      ((kept i first rest t cut (was_open good) (turns good)).serves live).schema_is,
    )) left l;
  }

  pub untaken : (HasGoodDisk g new → IsTrue is.is_open → is.now ≡ was.now)
      → TakesOut g journal begins old new (Err F20)
  untaken unmoved = record {
    premise = premise;
    gives_up = refl;
    shuts = only_faults_shut was is survives;
    is_open = λ clean. tt;
    begun = tt;
    made = λ clean. tt;
    left = λ clean. tt;
    same = λ clean i t. record {
      kept = record {
        sound = t.kept.sound;
        serves = λ live. rw (unmoved clean live) (t.kept.serves (was_open clean live));
      };
      keeps = t.keeps;
    };
    stop = λ clean i first rest left t cut l. leaves i first rest t cut (λ good live. let ours = l.ours (premise good)
        (was_open good live) in (ours.0, ap (λ (d : Database). d.schema) (unmoved good live) ∙ ours.1)) left l;
  }
