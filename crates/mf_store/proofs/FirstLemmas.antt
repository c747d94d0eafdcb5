-- What stands after a new institution's writes.
use Rattle.std.proofs.Common.{◌≡◌, ◌⊎◌, ℕ, inl, inr, None, Some, refl, List, IsTrue, subst, arith}
use Rattle.sqlite.specs.State.{State, HasCleanDisk, Survives}
use Rattle.sqlite.specs.Held.{Held, state}
use Rattle.sqlite.specs.Steps.{IsEmpty}
use Rattle.sqlite_trees.specs.declared.store.Store.{Ghosts}
use Rattle.sqlite_catalog.specs.Listing.{IsSound as IsSoundListing}
use Rattle.mf_store_sql.specs.Writes.{Serves, AllFit, after_all, Turns, MayHold}
use Rattle.mf_model.specs.Institution.{newly_made}
use Rattle.mf_model.specs.Sound.{IsSound}
use Rattle.mf_store_schema.specs.Writes.{schema_of, Holds, after_write, FitsLists}
use Rattle.mf_store_schema.specs.declared.writes.StoreWrite.{StoreWrite}
use Rattle.mf_store_schema.proofs.CallLemmas.{only_faults_shut}
use Rattle.sqlite.specs.Tree.{Trees}
use Rattle.mf_journal.specs.Founding.{founding}
use Rattle.mf_journal.specs.declared.following.Head.{Head}
use Rattle.mf_store_schema.specs.Calls.{OnlyFaultsShut}
use Rattle.mf_store_noted.specs.Kept.{journaled, tables_kept}
use Rattle.mf_store_noted.specs.Tabled.{IsTabled, IsUnfounded, IsUnfoundedJournaled}
use Rattle.mf_store_commits.specs.Becoming.{Begins}

module _ {S : Type 0} (g : Ghosts S) (old new : Held S) (writes : List StoreWrite) (day : ℕ) where
  pub founded_stands : Begins writes day → IsSound (newly_made day) → Turns (Serves schema_of Holds)
      (AllFit after_write FitsLists writes) (after_all after_write writes) (state g old).now (state g new).now
      → Serves schema_of Holds (state g old).now None → IsTabled g None new (newly_made day)
  founded_stands b sound turns none = record {
    kept = record {
      sound = sound;
      serves = λ live. subst (λ lists. Serves schema_of Holds (state g new).now lists) b.is (turns None none b.fits);
    };
    keeps = refl;
  }

  -- the writes that failed may have been committed, all of them
  pub unfounded : Begins writes day → (HasCleanDisk (state g new) → IsTrue (state g new).is_open
      → IsTrue (state g old).is_open) → (HasCleanDisk (state g new) → IsTrue (state g new).is_open → (state g new).now
      ≡ (state g old).now)
      → Survives (state g old) (state g new)
      (MayHold (Serves schema_of Holds) Holds (AllFit after_write FitsLists writes)
      (after_all after_write writes) (state g old)) → IsUnfounded g day old new
  unfounded b was_open same survives = record {
    premise = λ clean. omega (arith, survives.clean, clean);
    was_open = was_open;
    same = same;
    shuts = only_faults_shut (state g old) (state g new) survives;
    stop = λ clean none trees may. elim (survives.crash clean trees may) [
      | inl before ↦ inl before
      | inr wrote ↦ inr (subst (λ lists. Holds trees lists) b.is (wrote.holds None none b.fits))
    ];
  }

-- the same of one that keeps a journal, which begins at its founding
module _ {S : Type 0} (g : Ghosts S) (old new : Held S) (day : ℕ) where
  pub unfounded_journaled : (begins : Head) → begins ≡ founding 3 day → (HasCleanDisk (state g new)
      → HasCleanDisk (state g old)) → (HasCleanDisk (state g new) → IsTrue (state g new).is_open
      → IsTrue (state g old).is_open) → (HasCleanDisk (state g new) → IsTrue (state g new).is_open
      → (state g new).now ≡ (state g old).now) → OnlyFaultsShut (state g old) (state g new)
      → (HasCleanDisk (state g new) → Serves schema_of Holds (state g old).now None → (trees : Trees)
      → (state g new).may_leave trees → (state g old).may_leave trees
      ⊎ Holds trees (Some (tables_kept (Some begins) (journaled (newly_made day)))))
      → IsUnfoundedJournaled g day old new
  unfounded_journaled begins founded premise was_open same shuts stop = record {
    premise = premise;
    was_open = was_open;
    same = same;
    shuts = shuts;
    stop = subst (λ (h : Head). HasCleanDisk (state g new) → Serves schema_of Holds (state g old).now None
        → (trees : Trees) → (state g new).may_leave trees → (state g old).may_leave trees
        ⊎ Holds trees (Some (tables_kept (Some h) (journaled (newly_made day))))) founded stop;
  }

-- a new connection in memory has no tables
pub empty_serves : (s : State) → IsEmpty s → Serves schema_of Holds s.now None
empty_serves s e = record { schema_is = e.2; holds = subst (λ k. IsSoundListing k s.now.trees) e.2 (e.1 e.0.is_open).0 }
