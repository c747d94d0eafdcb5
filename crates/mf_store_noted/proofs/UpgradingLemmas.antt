-- What a hasher takes in, and tables that are read one after the other.
use Rattle.std.proofs.Common.{◌≡◌, ◌++◌, ◌∷◌, [], ℕ, List, Result, Ok, Err, IsTrue, refl, sym, ap}
use Rattle.std.proofs.Common.{◌∙◌, subst, append_assoc, Some, filter, true}
use Rattle.std.proofs.Common.{false, None, inl, inr, ◌⊎◌}
use Rattle.std.proofs.lemmas.Result.{on_ok_weaker}
use Rattle.sha2.specs.Hashers.{Holds256}
use Rattle.sha2.specs.declared.Sha256.{Sha256}
use Rattle.sqlite.specs.Held.{Held, state}
use Rattle.sqlite.specs.State.{State, HasCleanDisk}
use Rattle.sqlite_trees.specs.declared.store.Store.{Ghosts}
use Rattle.sqlite.specs.Tree.{Trees}
use Rattle.mf_base.specs.declared.fault.Fault.{Fault}
use Rattle.mf_base.specs.declared.fault.Fault.TheVariants.{F20}
use Rattle.mf_model.specs.Institution.{Institution}
use Rattle.mf_journal.specs.declared.following.Head.{Head}
use Rattle.mf_store_sql.specs.Writes.{Serves}
use Rattle.mf_store_schema.specs.Calls.{IsAsBefore, IsKeeping, OnlyFaultsShut}
use Rattle.mf_store_schema.specs.Tables.{IsPresent}
use Rattle.mf_store_schema.specs.Rows.{Lists}
use Rattle.mf_store_schema.specs.Writes.{are_some, schema_of, Holds}
use Rattle.mf_store_journal.specs.Checking.{CanBegin}
use Rattle.mf_store_values.specs.Flat.{tables_of}
use Rattle.mf_store_noted.specs.Fitting.{FitsTables}
use Rattle.mf_store_noted.specs.Kept.{IsBegun, journaled, tables_kept}
use Rattle.mf_store_noted.specs.Tabled.{HasGoodDisk, IsKeptIn, IsTabled, LeavesTables, StayTabled}
use Rattle.mf_store_noted.specs.Upgrading.{GetsJournal, TakesIn, TakesInTables, upgrading}
use Rattle.mf_store_noted.proofs.CanBeLemmas.{can_be_none}
use Rattle.mf_store_noted.proofs.TurnedLemmas.{unchanged_stays}

-- one text and then another
pub takes_both : (a b c : Sha256) (s t : List ℕ) → TakesIn a b s → TakesIn b c t → TakesIn a c (s ++ t)
takes_both a b c s t first second m holds =
    subst (Holds256 c) (append_assoc m s t) (second (m ++ s) (first m holds))

-- the same where the text is told otherwise
pub takes_same : (a b : Sha256) (s t : List ℕ) → s ≡ t → TakesIn a b s → TakesIn a b t
takes_same a b s t same takes m holds = subst (λ l. Holds256 b (m ++ l)) same (takes m holds)

-- a test that each item passes
pub filter_true : {X : Type 0} (xs : List X) → filter (λ (x : X). true) xs ≡ xs
filter_true [] = refl
filter_true (x ∷ xs) = ap (λ l. x ∷ l) (filter_true xs)

module _ (a b c : State) (first : IsAsBefore a b) (second : IsAsBefore b c) where
  still : HasCleanDisk b → (IsTrue a.is_open → IsPresent a.now.schema) → IsTrue b.is_open → IsPresent b.now.schema
  still clean ours live =
      let was = first.was_open clean live in
      subst (λ d. IsPresent d.schema) (sym (first.same clean live (ours was))) (ours was)

  pub as_before_then : IsAsBefore a c
  as_before_then = record {
    premise = λ clean. first.premise (second.premise clean);
    was_open = λ clean live. first.was_open (second.premise clean) (second.was_open clean live);
    same = λ clean live ours.
        let mid = second.premise clean in
        let up = second.was_open clean live in
        let one = first.same mid up ours in
        second.same clean live (subst (λ d. IsPresent d.schema) (sym one) ours) ∙ one;
    shuts = λ faults few before. second.shuts faults few (first.shuts faults few before);
    stop = λ clean ours trees may. first.stop (second.premise clean) ours trees
        (second.stop clean (still (second.premise clean) ours) trees may);
  }

-- the tables keep what they kept
pub keeping_after : (a b : State) → IsAsBefore a b → HasCleanDisk b → (lists : Lists) → IsKeeping a lists
    → IsKeeping b lists
keeping_after a b same clean lists keeping live =
    let was = same.was_open clean live in
    let serves = keeping was in
    subst (λ d. Serves schema_of Holds d (Some lists))
    (sym (same.same clean live (are_some lists.journal, serves.schema_is))) serves

-- tables, and then others
module _ {S : Type 0} (g : Ghosts S) (s t : Lists → List ℕ) (F G : Lists → Type 0) (a b c : Held S)
    (was mid is : Sha256) (result : Result (Unit {0}) Fault) where
  pub tables_then : TakesInTables g s F a b was mid (Ok tt) → TakesInTables g t G b c mid is result
      → TakesInTables g (λ lists. s lists ++ t lists) (λ lists. F lists × G lists) a c was is result
  tables_then first second = record {
    kept = as_before_then (state g a) (state g b) (state g c) first.kept second.kept;
    gives_up = second.gives_up;
    is_open = second.is_open;
    takes_in = λ clean. let early = second.kept.premise clean in on_ok_weaker result
        (λ takes lists keeping. takes_both was mid is (s lists) (t lists) (first.takes_in early lists keeping)
        (takes lists (keeping_after (state g a) (state g b) first.kept early lists keeping))) (second.takes_in clean);
    fits = λ clean. let early = second.kept.premise clean in on_ok_weaker result
        (λ fit lists keeping. (
          first.fits early lists keeping,
          fit lists (keeping_after (state g a) (state g b) first.kept early lists keeping),
        )) (second.fits clean);
  }

-- ---- the journal begins

module _ {S : Type 0} (g : Ghosts S) where
  leaves_more : (h : Held S) (i : Institution) (is : List Institution) → LeavesTables g h is
      → LeavesTables g h (i ∷ is)
  leaves_more h i is l =
      record { ours = l.ours; whole = λ clean trees may. inr (l.whole clean trees may) }

  still_tabled : (old mid : Held S) → StayTabled g old mid → HasGoodDisk g mid → (i : Institution)
      → IsTabled g None old i → IsTabled g None mid i
  still_tabled old mid stay clean i t = record { kept = stay.same clean None i t.kept; keeps = t.keeps }

  -- no head was found
  pub headless : (day : ℕ) (old mid : Held S) (fault : Fault) → IsAsBefore (state g old) (state g mid) → fault ≡ F20
      → GetsJournal g day old mid (Err fault)
  headless day old mid fault as_before gives_up =
      let stay = unchanged_stays g old mid as_before in
      record {
        premise = stay.premise;
        gives_up = gives_up;
        shuts = stay.shuts;
        is_open = λ clean. tt;
        begins = λ clean. tt;
        fits = λ clean. tt;
        made = λ clean. tt;
        left = λ clean. tt;
        same = still_tabled old mid stay;
        stop = λ clean i is t today l. leaves_more mid (journaled i) is (stay.stop clean is l);
      }

  module _ (day : ℕ) (begins : Head) (can : CanBegin begins) (old mid new : Held S)
      (as_before : IsAsBefore (state g old) (state g mid))
      (premise : HasGoodDisk g new → HasGoodDisk g mid)
      (shuts : OnlyFaultsShut (state g mid) (state g new))
      (stop : HasGoodDisk g new → (i : Institution) → IsKeptIn g None mid i → i.catalogue.day ≡ day → (trees : Trees)
      → (state g new).may_leave trees → (state g mid).may_leave trees
      ⊎ Holds trees (Some (tables_kept (Some begins) (journaled i)))) where
    stay : StayTabled g old mid
    stay = unchanged_stays g old mid as_before

    kept_mid : HasGoodDisk g new → (i : Institution) → IsTabled g None old i → IsKeptIn g None mid i
    kept_mid clean i t = stay.same (premise clean) None i t.kept

    begun : (i : Institution) → IsBegun (Some begins) (journaled i)
    begun i = ([], refl, can_be_none begins can)

    stops : (i : Institution) → (HasGoodDisk g new → IsTrue (state g new).is_open → IsPresent (state g new).now.schema)
        → (is : List Institution) → IsTabled g None old i → i.catalogue.day ≡ day → LeavesTables g old is
        → LeavesTables g new (journaled i ∷ is)
    stops i ours is t today l = record {
      ours = ours;
      whole = λ clean trees may. elim (stop clean i (kept_mid clean i t) today trees may) [
        | inl early ↦ inr ((stay.stop (premise clean) is l).whole (premise clean) trees early)
        | inr wrote ↦ inl (record { begins = Some begins; begun = begun i; holds = wrote })
      ];
    }

    -- it began
    pub upgraded : (HasGoodDisk g new → IsTrue (state g new).is_open)
        → (HasGoodDisk g mid → (i : Institution) → IsKeptIn g None old i → begins ≡ upgrading day (tables_of i))
        → (HasGoodDisk g mid → (i : Institution) → IsKeptIn g None old i → FitsTables (tables_of i))
        → (HasGoodDisk g new → (i : Institution) → IsKeptIn g None mid i → i.catalogue.day ≡ day
        → IsKeptIn g (Some begins) new (journaled i))
        → (HasGoodDisk g new → (i : Institution) → IsKeptIn g None mid i → i.catalogue.day ≡ day
        → LeavesTables g new (journaled i ∷ []))
        → GetsJournal g day old new (Ok (record { begins = begins; head = begins }))
    upgraded is_open head fits made left = record {
      premise = λ clean. stay.premise (premise clean);
      gives_up = tt;
      shuts = λ n few o. shuts n few (stay.shuts n few o);
      is_open = is_open;
      begins = λ clean i t. head (premise clean) i t.kept;
      fits = λ clean i t. fits (premise clean) i t.kept;
      made = λ clean i t today. record {
        kept = made clean i (kept_mid clean i t) today;
        keeps = ([], refl, record { can_be = can_be_none begins can; stands = refl });
      };
      left = λ clean i t today. left clean i (kept_mid clean i t) today;
      same = λ clean. tt;
      stop = λ clean i is t today. stops i
          (λ good live. (true, ((made good i (kept_mid good i t) today).serves live).schema_is)) is t today;
    }

    -- it did not
    pub not_upgraded : (fault : Fault) → fault ≡ F20
        → (HasGoodDisk g new → (i : Institution) → IsKeptIn g None mid i → IsKeptIn g None new i)
        → GetsJournal g day old new (Err fault)
    not_upgraded fault gives_up same = record {
      premise = λ clean. stay.premise (premise clean);
      gives_up = gives_up;
      shuts = λ n few o. shuts n few (stay.shuts n few o);
      is_open = λ clean. tt;
      begins = λ clean. tt;
      fits = λ clean. tt;
      made = λ clean. tt;
      left = λ clean. tt;
      same = λ clean i t. record { kept = same clean i (kept_mid clean i t); keeps = t.keeps };
      stop = λ clean i is t today. stops i
          (λ good live. (false, ((same good i (kept_mid good i t)).serves live).schema_is)) is t today;
    }
