-- From writes that were applied, or not, to the change with its line.
use Rattle.std.proofs.Common.{◌≡◌, ◌∙◌, inr, List, ◌∷◌, Option, Some, IsTrue, refl, sym, ap, subst, arith}
use Rattle.std.proofs.Common.{Ok, Err}
use Rattle.sqlite.specs.Effect.{Database}
use Rattle.sqlite.specs.Held.{Held, state}
use Rattle.sqlite.specs.State.{State, HasCleanDisk, Survives}
use Rattle.sqlite.specs.Tree.{Trees}
use Rattle.sqlite_trees.specs.declared.store.Store.{Ghosts}
use Rattle.mf_base.specs.declared.fault.Fault.TheVariants.{F20}
use Rattle.mf_model.specs.Institution.{Institution, JournalLine}
use Rattle.mf_model.specs.Sound.{IsSound}
use Rattle.mf_store_sql.specs.Writes.{Serves, AllFit, after_all, Turns, IsSettled, MayHold}
use Rattle.mf_store_schema.proofs.CallLemmas.{only_faults_shut}
use Rattle.mf_store_schema.specs.Rows.{Lists}
use Rattle.mf_store_schema.specs.Tables.{IsPresent}
use Rattle.mf_store_schema.specs.Writes.{schema_of, Holds, are_some}
use Rattle.mf_store_schema.specs.declared.writes.StoreWrite.{StoreWrite}
use Rattle.mf_store_noted.specs.Becoming.{BecomesKept}
use Rattle.mf_store_noted.specs.Kept.{IsBegun, IsJournalOf, begins_of, rows_kept, tables_kept}
use Rattle.mf_store_noted.specs.Tabled.{HasGoodDisk, IsKeptIn, IsTabled, LeavesTables}
use Rattle.mf_store_noted.specs.Writing.{MakesWrites, with_line_after}
use Rattle.mf_store_journal.specs.declared.journal.Journal.{Journal}
use Rattle.mf_store_noted.proofs.TurnedLemmas.{settled_leaves, turned_kept, turned_leaves}

module _ {W : Type 0} (after : W → Option Lists → Option Lists) (Fits : W → Option Lists → Type 0) (ws : List W)
    (journal now : Option Journal) (writes : List StoreWrite) (line : JournalLine) where
  abbrev from : Institution → Option Lists
  from i = Some (tables_kept (begins_of journal) i)

  -- what the writes make of the tables of the one institution
  pub record Turn (i j : Institution) : Type 0 where
    pub fits : AllFit after Fits ws (from i)
    pub become : after_all after ws (from i) ≡ Some (tables_kept (begins_of journal) (with_line_after line i j))
    pub begun : IsBegun (begins_of journal) (with_line_after line i j)
    pub stands : IsJournalOf now (with_line_after line i j)

  module _ {S : Type 0} (g : Ghosts S) (old new : Held S)
      (turn : (i j : Institution) → IsTabled g journal old i → BecomesKept (begins_of journal) writes i j → Turn i j)
      (was_open : HasGoodDisk g new → IsTrue (state g new).is_open → IsTrue (state g old).is_open)
      (survives : Survives (state g old) (state g new) (MayHold (Serves schema_of Holds) Holds
      (AllFit after Fits ws) (after_all after ws) (state g old))) where
    abbrev was : State
    was = state g old

    abbrev is : State
    is = state g new

    abbrev Change : Type 0
    Change = Turns (Serves schema_of Holds) (AllFit after Fits ws) (after_all after ws) was.now is.now

    premise : HasGoodDisk g new → HasGoodDisk g old
    premise clean = omega (arith, survives.clean, clean)

    sound_with_line : (i j : Institution) → BecomesKept (begins_of journal) writes i j
        → IsSound (with_line_after line i j)
    sound_with_line i j b = record { catalogue = b.sound.catalogue; tree = b.sound.tree; each = b.sound.each }

    kept : (i j : Institution) → IsTabled g journal old i → BecomesKept (begins_of journal) writes i j
        → (IsTrue is.is_open → IsTrue was.is_open) → Change
        → IsKeptIn g (begins_of journal) new (with_line_after line i j)
    kept i j t b opened turns = let to = turn i j t b in
        turned_kept after Fits ws (from i) (begins_of journal) (with_line_after line i j) to.fits to.become to.begun
        (sound_with_line i j b) g old new t.kept.serves opened turns

    leaves : (HasCleanDisk is → IsTrue is.is_open → IsPresent is.now.schema) → (i j : Institution)
        (left : List Institution) → IsTabled g journal old i → BecomesKept (begins_of journal) writes i j
        → LeavesTables g old left → LeavesTables g new (with_line_after line i j ∷ left)
    leaves ours i j left t b l = let to = turn i j t b in
        turned_leaves after Fits ws (from i) (begins_of journal) (with_line_after line i j) to.fits to.become to.begun
        (sound_with_line i j b) g old new t.kept.serves ours survives left l

    pub made_writes : begins_of now ≡ begins_of journal → (HasGoodDisk g new → Change)
        → (HasGoodDisk g new → IsSettled is)
        → ((trees : Trees) → IsTrue is.is_open → is.may_leave trees → trees ≡ is.committed.trees)
        → MakesWrites g journal writes line old new (Ok now)
    made_writes same turns rests settled = record {
      premise = premise;
      gives_up = tt;
      shuts = only_faults_shut was is survives;
      is_open = λ clean. (rests clean).is_open;
      begins = same;
      made = λ clean i j t b. record {
        kept = subst (λ b. IsKeptIn g b new (with_line_after line i j)) (sym same)
            (kept i j t b (was_open clean) (turns clean));
        keeps = (turn i j t b).stands;
      };
      left = λ clean i j t b. settled_leaves g (begins_of journal) new settled (rests clean) (with_line_after line i j)
          (turn i j t b).begun (kept i j t b (was_open clean) (turns clean));
      same = λ clean. tt;
      stop = λ clean i j left t b l. leaves (λ good live. (
        are_some (rows_kept (begins_of journal) (with_line_after line
            i j).journal),
        ((kept i j t b (was_open good) (turns good)).serves live).schema_is,
      )) i j left t b l;
    }

    pub unmade_writes : (HasGoodDisk g new → IsTrue is.is_open → is.now ≡ was.now)
        → MakesWrites g journal writes line old new (Err F20)
    unmade_writes unmoved = record {
      premise = premise;
      gives_up = refl;
      shuts = only_faults_shut was is survives;
      is_open = λ clean. tt;
      begins = tt;
      made = λ clean. tt;
      left = λ clean. tt;
      same = λ clean i t. record {
        kept = record {
          sound = t.kept.sound;
          serves = λ live. rw (unmoved clean live) (t.kept.serves (was_open clean live));
        };
        keeps = t.keeps;
      };
      stop = λ clean i j left t b l. leaves (λ good live. let ours = l.ours (premise good) (was_open good live) in
          (ours.0, ap (λ (d : Database). d.schema) (unmoved good live) ∙ ours.1)) i j left t b l;
    }

-- where nothing was asked of the tables
pub untried : {S : Type 0} (g : Ghosts S) (journal : Option Journal) (writes : List StoreWrite) (line : JournalLine)
    (h : Held S) → MakesWrites g journal writes line h h (Err F20)
untried g journal writes line h = record {
  premise = λ clean. clean;
  gives_up = refl;
  shuts = λ faults few up_to. up_to;
  is_open = λ clean. tt;
  begins = tt;
  made = λ clean. tt;
  left = λ clean. tt;
  same = λ clean i t. t;
  stop = λ clean i j left t b l. record { ours = l.ours; whole = λ good trees may. inr (l.whole good trees may) };
}
