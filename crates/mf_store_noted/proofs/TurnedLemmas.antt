-- What writes make of tables, and what a stop leaves of them, whatever kind of writes they are.
use Rattle.std.proofs.Common.{◌≡◌, ◌∙◌, ◌⊎◌, inl, inr, List, [], ◌∷◌, Option, Some, IsTrue, ap, subst}
use Rattle.std.proofs.Common.{arith, Result, Ok, Err, OnOk, OnErr}
use Rattle.sqlite.specs.Effect.{Database}
use Rattle.sqlite.specs.Held.{Held, state}
use Rattle.sqlite.specs.State.{State, HasCleanDisk, Survives}
use Rattle.sqlite.specs.Tree.{Trees}
use Rattle.sqlite.specs.declared.error.Error.{Error}
use Rattle.sqlite_trees.specs.declared.store.Store.{Ghosts}
use Rattle.mf_model.specs.Institution.{Institution}
use Rattle.mf_model.specs.Sound.{IsSound}
use Rattle.mf_journal.specs.declared.following.Head.{Head}
use Rattle.mf_store_sql.specs.Writes.{Serves, AllFit, after_all, Turns, IsSettled, MayHold}
use Rattle.mf_store_schema.specs.Calls.{IsAsBefore}
use Rattle.mf_store_schema.specs.Rows.{Lists}
use Rattle.mf_store_schema.specs.Tables.{IsPresent}
use Rattle.mf_store_schema.specs.Writes.{schema_of, Holds, are_some}
use Rattle.mf_store_noted.specs.Kept.{IsBegun, rows_kept, tables_kept}
use Rattle.mf_store_noted.specs.Tabled.{HasGoodDisk, IsKeptIn, LeavesTables, StayTabled}

module _ {S : Type 0} (g : Ghosts S) where
  -- a call that leaves the tables as they are
  pub unchanged_stays : (old new : Held S) → IsAsBefore (state g old) (state g new) → StayTabled g old new
  unchanged_stays old new u = record {
    premise = u.premise;
    shuts = u.shuts;
    same = λ clean journal i s. record {
      sound = s.sound;
      serves = λ live. let before = s.serves (u.was_open clean live) in
          rw (u.same clean live (are_some (rows_kept journal i.journal), before.schema_is)) before;
    };
    stop = λ clean left l. record {
      ours = λ now live. let before = l.ours (u.premise now) (u.was_open now live) in
          (before.0, ap (λ (d : Database). d.schema) (u.same now live before) ∙ before.1);
      whole = λ now trees may. l.whole (u.premise now) trees (u.stop now (l.ours (u.premise now)) trees may);
    };
  }

  -- with nothing left to commit a stop leaves just what the tables hold
  pub settled_leaves : (journal : Option Head) (new : Held S) → ((trees : Trees) → IsTrue (state g new).is_open
      → (state g new).may_leave trees → trees ≡ (state g new).committed.trees) → IsSettled (state g new)
      → (j : Institution) → IsBegun journal j → IsKeptIn g journal new j → LeavesTables g new (j ∷ [])
  settled_leaves journal new settled rests j begun kept = record {
    ours = λ clean live. (are_some (rows_kept journal j.journal), (kept.serves live).schema_is);
    whole = λ clean trees may. inl (record {
      begins = journal;
      begun = begun;
      holds = rw (settled trees rests.is_open may ∙ ap (λ (d : Database). d.trees) rests.committed)
          (kept.serves rests.is_open).holds;
    });
  }

module _ {W : Type 0} (after : W → Option Lists → Option Lists) (Fits : W → Option Lists → Type 0) (writes : List W)
    (from : Option Lists) (journal : Option Head) (next : Institution)
    (fits : AllFit after Fits writes from)
    (become : after_all after writes from ≡ Some (tables_kept journal next))
    (begun : IsBegun journal next) (sound : IsSound next)
    {S : Type 0} (g : Ghosts S) (old new : Held S)
    (before : IsTrue (state g old).is_open → Serves schema_of Holds (state g old).now from) where
  abbrev was : State
  was = state g old

  abbrev is : State
  is = state g new

  abbrev Change : Database → Database → Type 0
  Change = Turns (Serves schema_of Holds) (AllFit after Fits writes) (after_all after writes)

  abbrev MayLeave : Trees → Type 0
  MayLeave = MayHold (Serves schema_of Holds) Holds (AllFit after Fits writes) (after_all after writes) was

  pub turned_kept : (IsTrue is.is_open → IsTrue was.is_open) → Change was.now is.now → IsKeptIn g journal new next
  turned_kept was_open turns = record {
    sound = sound;
    serves = λ live. subst (λ lists. Serves schema_of Holds is.now lists) become
        (turns from (before (was_open live)) fits);
  }

  -- whatever came of the call, the tables are this program's, where they were
  pub still_present : (IsTrue was.is_open → IsPresent was.now.schema) → {V : Type 0} (r : Result V Error)
      → (IsTrue is.is_open → IsTrue was.is_open) → OnOk r (Change was.now is.now)
      → (IsTrue is.is_open → OnErr r (is.now ≡ was.now)) → IsTrue is.is_open → IsPresent is.now.schema
  still_present were (Ok v) was_open turns same live =
      (are_some (rows_kept journal next.journal), ((turned_kept was_open turns).serves live).schema_is)
  still_present were (Err e) was_open turns same live =
      let ours = were (was_open live) in
      (ours.0, ap (λ (d : Database). d.schema) (same live) ∙ ours.1)

  -- a stop leaves what it could leave before, or what the writes make
  pub turned_stop : Survives was is MayLeave → HasGoodDisk g new → (trees : Trees) → is.may_leave trees
      → was.may_leave trees ⊎ Holds trees (Some (tables_kept journal next))
  turned_stop survives clean trees may = elim (survives.crash clean trees may) [
    | inl early ↦ inl early
    | inr wrote ↦ inr (subst (λ lists. Holds trees lists) become (wrote.holds from (before wrote.was_open) fits))
  ]

  pub turned_leaves : (HasCleanDisk is → IsTrue is.is_open → IsPresent is.now.schema) → Survives was is MayLeave
      → (left : List Institution) → LeavesTables g old left → LeavesTables g new (next ∷ left)
  turned_leaves ours survives left l = record {
    ours = ours;
    whole = λ clean trees may. elim (turned_stop survives clean trees may) [
      | inl early ↦ inr (l.whole (omega (arith, survives.clean, clean)) trees early)
      | inr wrote ↦ inl (record { begins = journal; begun = begun; holds = wrote })
    ];
  }
