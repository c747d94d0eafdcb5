-- What a run over files leaves of these.
use Rattle.std.proofs.Common.{◌≡◌, ◌⊎◌, inl, inr, ℕ, List, [], ◌∷◌, ◌++◌, Option, Some, Result, Ok, Err, IsTrue, refl}
use Rattle.std.proofs.Common.{Bool, sym, subst, arith}
use Rattle.std.specs.Io.KnownBytes.{IsAtEnd}
use Rattle.std.proofs.Math.Logic.{∥∥₁_map}
use Rattle.mf_base.specs.declared.fault.Cause.{Cause}
use Rattle.mf_base.specs.declared.fault.Cause.TheVariants.{Read, Write, Memory}
use Rattle.mf_base.specs.declared.fault.StreamFault.{StreamFault}
use Rattle.mf_model.specs.Institution.{Institution, Change, after}
use Rattle.mf_model.specs.Desk.{outcome, change_in}
use Rattle.mf_model.specs.Calls.{Call}
use Rattle.mf_model.specs.Run.{Line, last}
use Rattle.mf_model.specs.Sound.{IsSound, IsInRange, AreInRange}
use Rattle.mf_model.specs.Store.{left_after}
use Rattle.mf_store.specs.Facts.{KnownStore}
use Rattle.mf_store.specs.Stands.{StandsFor, Leaves}
use Rattle.mf_store.specs.Stands as stores
use Rattle.mf_store_noted.specs.Tabled.{HasGoodDisk, HoldsOneOf}
use Rattle.mf_store_files.proofs.StopLemmas.{left_files}
use Rattle.mf_wire.specs.Runs.{RunsLines}
use Rattle.mf_wire_lines.specs.Cut.{ended_lines, request_lines}
use Rattle.mf_wire_lines.specs.Run.{Answered, Broken}
use Rattle.mf_wire_lines.specs.Streams.{Streams}
use Rattle.mf_wire_lines.specs.Ends.{Ends, EndsBy}
use Rattle.sqlite.specs.Files.{over_files}
use Rattle.sqlite_disk.specs.declared.Disk.{Ghosts}
use Rattle.sqlite_store.specs.FileStore.{view, faults, recovers, is_shielded}
use Rattle.sqlite_store.specs.declared.store.FileStore.{FileStore}
use Rattle.sqlite_trees.specs.Tree.{Trees}
use Rattle.sqlite_trees.specs.View.{IsClean, IsQuiet}
use Rattle.mf_lists_runs.specs.Choice.{Choice}
use Rattle.mf_lists_runs.specs.Runs.{ListsRuns}
use Rattle.microloan_files.specs.Beginnings.{LeaveBeginning, IsRunOver}
use Rattle.microloan_files.specs.Listed.{IsListsRunOver}

-- what each run between two states has, and what is so where these are one
module _ {S : Type 0} (P : S → List (List ℕ) → List (List ℕ) → S → Type 0) (old new : S) (streams : Streams)
    (X : Type 0)
    (of_run : (lines texts : List (List ℕ)) → P old lines texts new → X) (of_none : new ≡ old → X) where
  at : (cause : Cause) (n : ℕ) → EndsBy P old new streams cause n → X
  at Read n e = of_run _ _ e.answered.ran
  at Write n e = elim e.broken [ inl b ↦ of_run _ _ b.ran | inr b ↦ of_run _ _ b.1.ran ]
  at Memory n e = of_none e.same

  pub either_way : (r : Result ℕ StreamFault) → Ends P old new streams r → X
  either_way (Ok n) e = of_run _ _ e.answered.ran
  either_way (Err fault) e = at fault.cause fault.answered e

-- How a run between two states ended, told of the run itself: it begins empty.
module _ {S : Type 0} (P : S → List (List ℕ) → List (List ℕ) → S → Type 0) (Q : List (List ℕ) → List (List ℕ)
    → List Line → Type 0) (K : List Line → Type 0) (old new : S)
    (told : (lines texts : List (List ℕ)) → P old lines texts new → (run : List Line) × Q lines texts run × K run)
    (none : new ≡ old → K []) (streams : Streams) where
  abbrev Told : List Line → List (List ℕ) → List (List ℕ) → List Line → Type 0
  Told before lines texts run = Q lines texts run

  answered : (lines : List (List ℕ)) (before after : Option (List ℕ)) (n : ℕ) → Answered P old new lines before after n
      → (run : List Line) × Answered Told [] run lines before after n × K run
  answered lines before after n a = let t = told lines a.texts a.ran in (
    t.0,
    record {
      texts = a.texts;
      ran = t.1;
      written = a.written;
      counted = a.counted;
    },
    t.2,
  )

  broken : (lines : List (List ℕ)) (before after : Option (List ℕ)) (n : ℕ) → Broken P old new lines before after n
      → (run : List Line) × Broken Told [] run lines before after n × K run
  broken lines before after n b =
      let t = told (b.done ++ b.line ∷ []) (b.texts ++ b.text ∷ []) b.ran in (
        t.0,
        record {
          done = b.done;
          line = b.line;
          rest = b.rest;
          among = b.among;
          texts = b.texts;
          text = b.text;
          ran = t.1;
          part = b.part;
          short = b.short;
          written = b.written;
          counted = b.counted;
        },
        t.2,
      )

  -- how it ended, and what is so of the run
  abbrev TellsBy : Cause → ℕ → Type 0
  TellsBy cause n = (run : List Line) × EndsBy Told [] run streams cause n × K run

  by : (cause : Cause) (n : ℕ) → EndsBy P old new streams cause n → TellsBy cause n
  by Read n e = let a = answered _ _ _ n e.answered in (
    a.0,
    record {
      bytes = e.bytes;
      consumed = e.consumed;
      answered = a.1;
      failed = e.failed;
      sink = e.sink;
    },
    a.2,
  )
  by Write n e = either e.broken
    where
      either : Broken P old new (ended_lines e.bytes) streams.sink.before streams.sink.after n
          ⊎ (IsAtEnd streams.source.after × Broken P old new (request_lines e.bytes) streams.sink.before
          streams.sink.after n) → TellsBy Write n
      either (inl b) = let t = broken _ _ _ n b in (
        t.0,
        record {
          bytes = e.bytes;
          consumed = e.consumed;
          broken = inl t.1;
          source = e.source;
          sink = e.sink;
        },
        t.2,
      )
      either (inr b) = let t = broken _ _ _ n b.1 in (
        t.0,
        record {
          bytes = e.bytes;
          consumed = e.consumed;
          broken = inr (b.0, t.1);
          source = e.source;
          sink = e.sink;
        },
        t.2,
      )
  by Memory n e = ([], record { none = e.none; same = refl }, none e.same)

  pub told_of_run : (r : Result ℕ StreamFault) → Ends P old new streams r → (run : List Line)
      × Ends Told [] run streams r × K run
  told_of_run (Ok n) e =
      let a = answered _ _ _ n e.answered in (
        a.0,
        record {
          bytes = e.bytes;
          consumed = e.consumed;
          ended = e.ended;
          answered = a.1;
          source = e.source;
          sink = e.sink;
        },
        a.2,
      )
  told_of_run (Err fault) e = by fault.cause fault.answered e

-- the files of a store that is done with
module _
    (stays_sound : (i : Institution) (lines : List Line) → IsSound i → AreInRange lines → IsSound (last lines i))
    (change_sound : (call : Call) (i : Institution) (change : Change) → IsSound i → IsInRange call.request
    → change_in (outcome call i) ≡ Some change → IsSound (after change i))
    {D : Type 0} {g : Ghosts D} (final : KnownStore (FileStore D g)) (files : FileStore D g)
    (numbered : IsClean (view files) → IsTrue (view files).is_numbered)
    (before : FileStore D g) (same : before ≡ final.connection.store) (quiet : IsQuiet view faults recovers is_shielded
    before files)
    (clean : IsClean (view files)) where
  rolled_back : IsQuiet view faults recovers is_shielded final.connection.store files
  rolled_back = subst (λ (b : FileStore D g). IsQuiet view faults recovers is_shielded b files) same quiet

  -- the store was clean before
  was_clean : HasGoodDisk over_files final.connection
  was_clean = omega (arith, rolled_back.clean, clean)

  pub leave_beginning : (i : Institution) (run : List Line) → IsSound i → AreInRange run
      → Leaves over_files final (left_after run i (i ∷ [])) → LeaveBeginning i run files
  leave_beginning i run sound range after left may =
      let whole : (trees : Trees) → recovers files trees → HoldsOneOf (left_after run i (i ∷ [])) trees =
      λ trees there. after.whole was_clean trees (rolled_back.outcomes trees there) in
      ∥∥₁_map (left_files stays_sound change_sound files run i sound range (numbered clean) whole left may)
      (λ found. (
        found.2.0,
        found.2.1,
        record {
          trees = found.0;
          database = found.1;
          sound = found.2.2;
          rows = found.2.3;
        },
      ))

-- a run over a store of files, and what is so after it
module _ {D : Type 0} {g : Ghosts D} (told : Bool) (i : Institution) (first final : KnownStore (FileStore D g))
    (K : List Line
    → Type 0)
    (clean : HasGoodDisk over_files final.connection)
    (stood : StandsFor over_files first i) (leaves : Leaves over_files first (i ∷ []))
    (after_run : (run : List Line) → AreInRange run → StandsFor over_files final (last run i)
    → Leaves over_files final (left_after run i (i ∷ [])) → K run) where
  abbrev pub Runs : KnownStore (FileStore D g) → List (List ℕ) → List (List ℕ) → KnownStore (FileStore D g) → Type 0
  Runs = RunsLines (record {
    stands = StandsFor over_files;
    clean = stores.IsClean over_files;
    leaves = Leaves over_files;
  }) told

  ran_so : (lines texts : List (List ℕ)) → Runs first lines texts final → (run : List Line)
      × IsRunOver told i lines texts run × K run
  ran_so lines texts r =
      let o = r.ran clean i stood in (
        o.run,
        record { calls = o.calls; replied = o.replied; isolated = o.isolated; with_memory = o.with_memory },
        after_run o.run o.in_range o.follows (o.stop (i ∷ []) leaves),
      )

  -- nothing was run
  pub none_so : final ≡ first → K []
  none_so same =
      after_run [] tt (subst (λ (k : KnownStore (FileStore D g)). StandsFor over_files k i) (sym same) stood)
      (subst (λ (k : KnownStore (FileStore D g)). Leaves over_files k (i ∷ [])) (sym same) leaves)

  pub run_so : (streams : Streams) (result : Result ℕ StreamFault) → Ends Runs first final streams result
      → (run : List Line) × Ends (λ before lines texts after. IsRunOver told i lines texts after) [] run streams result
      × K run
  run_so = told_of_run Runs (IsRunOver told i) K first final ran_so none_so

  -- the same where lists may be asked for
  abbrev pub ListedRuns : Choice → KnownStore (FileStore D g) → List (List ℕ) → List (List ℕ)
      → KnownStore (FileStore D g) → Type 0
  ListedRuns choice = ListsRuns (record {
    stands = StandsFor over_files;
    clean = stores.IsClean over_files;
    leaves = Leaves over_files;
  }) choice told

  listed_so : (choice : Choice) (lines texts : List (List ℕ)) → ListedRuns choice first lines texts final
      → (run : List Line) × IsListsRunOver choice told i lines texts run × K run
  listed_so choice lines texts r =
      let o = r.ran clean i stood in
      let w = o.ran in (
        w.run,
        record {
          without = o.without;
          ran = record { calls = w.calls; replied = w.replied; isolated = w.isolated; with_memory = w.with_memory };
          replied = o.replied;
          by_views = o.by_views;
          texts_by_views = o.texts_by_views;
          with_memory = o.with_memory;
        },
        after_run w.run w.in_range w.follows (w.stop (i ∷ []) leaves),
      )

  pub listed_run_so : (choice : Choice) (streams : Streams) (result : Result ℕ StreamFault)
      → Ends (ListedRuns choice) first final streams result → (run : List Line)
      × Ends (λ before lines texts after. IsListsRunOver choice told i lines texts after) [] run streams result × K run
  listed_run_so choice =
      told_of_run (ListedRuns choice) (IsListsRunOver choice told i) K first final (listed_so choice) none_so
