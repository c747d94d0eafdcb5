-- What collecting a sheet over files leaves of these.
use Rattle.std.proofs.Common.{◌≡◌, ◌≢◌, ◌⊎◌, inl, inr, ℕ, List, [], ◌∷◌, ◌++◌, Result, Ok, Err, refl, sym, subst}
use Rattle.mf_base.specs.declared.fault.Cause.{Cause}
use Rattle.mf_base.specs.declared.fault.Cause.TheVariants.{Read, Write, Memory}
use Rattle.mf_base.specs.declared.fault.StreamFault.{StreamFault}
use Rattle.mf_office.specs.declared.caller.Caller.{Caller}
use Rattle.mf_model.specs.Institution.{Institution}
use Rattle.mf_model.specs.Run.{Line, last}
use Rattle.mf_model.specs.Sound.{AreInRange}
use Rattle.mf_model.specs.Store.{left_after}
use Rattle.mf_store.specs.Facts.{KnownStore}
use Rattle.mf_store.specs.Stands.{StandsFor, Leaves}
use Rattle.mf_store.specs.Stands as stores
use Rattle.mf_store_noted.specs.Tabled.{HasGoodDisk}
use Rattle.mf_sheet.specs.Ends.{SheetStreams, EndsWhole, NeverBegins, CutsHeading, CutsRecord, EndsBy, Ends}
use Rattle.mf_sheet.specs.Runs.{RunsRows}
use Rattle.mf_wire_lines.specs.Streams.{Streams}
use Rattle.mf_sheet_lines.specs.declared.results.SheetResult.{SheetResult}
use Rattle.sqlite.specs.Files.{over_files}
use Rattle.sqlite_disk.specs.declared.Disk.{Ghosts}
use Rattle.sqlite_store.specs.declared.store.FileStore.{FileStore}
use Rattle.microloan_commands.specs.Sheets as source
use Rattle.microloan_commands.specs.declared.sheets.SheetFault.{SheetFault}
use Rattle.microloan_commands.specs.declared.sheets.SheetFault.TheVariants.{TooLong, Stream}
use Rattle.microloan_files.specs.Sheets.{IsSheetRun}

abbrev Rows : Type 0
Rows = List (List (List ℕ))

-- what each run between two states has, and what is so where these are one
module _ {S : Type 0} (P : S → Rows → List SheetResult → S → Type 0) (old new : S) (streams : SheetStreams) (X : Type 0)
    (of_run : (rows : Rows) (results : List SheetResult) → P old rows results new → X) (of_none : new ≡ old → X) where
  at : (cause : Cause) (n : ℕ) → EndsBy P old new streams cause n → X
  at Read n e = absurd e
  at Write n e =
      elim e.1 [ inl h ↦ of_none h.same | inr r ↦ of_run (r.done ++ r.fields ∷ []) (r.results ++ r.result ∷ []) r.ran ]
  at Memory n e = of_none e.1.same

  pub sheet_either_way : (r : Result (Unit {0}) StreamFault) → Ends P old new streams r → X
  sheet_either_way (Ok u) e = of_run e.done e.results e.ran
  sheet_either_way (Err fault) e = at fault.cause fault.answered e

-- How collecting between two states ended, told of the run itself: it begins empty.
module _ {S : Type 0} (P : S → Rows → List SheetResult → S → Type 0) (Q : Rows → List SheetResult → List Line → Type 0)
    (K : List Line → Type 0) (old new : S)
    (told : (rows : Rows) (results : List SheetResult) → P old rows results new → (run : List Line) × Q rows results run
    × K run) (none : new ≡ old → K []) (streams : SheetStreams) where
  abbrev Told : List Line → Rows → List SheetResult → List Line → Type 0
  Told before rows results run = Q rows results run

  abbrev TellsBy : Cause → ℕ → Type 0
  TellsBy cause n = (run : List Line) × EndsBy Told [] run streams cause n × K run

  whole : EndsWhole P old new streams → (run : List Line) × EndsWhole Told [] run streams × K run
  whole e =
      let t = told e.done e.results e.ran in (
        t.0,
        record {
          done = e.done;
          rest = e.rest;
          among = e.among;
          results = e.results;
          each = e.each;
          ran = t.1;
          all = e.all;
          written = e.written;
          sink = e.sink;
        },
        t.2,
      )

  written : (n : ℕ) → streams.sink.faults_after ≢ streams.sink.faults_before → CutsHeading P old new streams n
      ⊎ CutsRecord P old new streams n → TellsBy Write n
  written n f (inl e) = (
    [],
    (
      f,
      inl (record {
        part = e.part;
        short = e.short;
        written = e.written;
        none = e.none;
        same = refl;
      }),
    ),
    none e.same,
  )
  written n f (inr e) =
      let t = told (e.done ++ e.fields ∷ []) (e.results ++ e.result ∷ []) e.ran in (
        t.0,
        (
          f,
          inr (record {
            done = e.done;
            fields = e.fields;
            rest = e.rest;
            among = e.among;
            results = e.results;
            result = e.result;
            each = e.each;
            ran = t.1;
            without_F20 = e.without_F20;
            part = e.part;
            short = e.short;
            written = e.written;
            counted = e.counted;
          }),
        ),
        t.2,
      )

  remembered : (n : ℕ) → streams.sink.faults_after ≡ streams.sink.faults_before → NeverBegins P old new streams n
      → TellsBy Memory n
  remembered n f e = ([], (f, record { none = e.none; same = refl; unwritten = e.unwritten }), none e.same)

  by : (cause : Cause) (n : ℕ) → EndsBy P old new streams cause n → TellsBy cause n
  by Read n e = absurd e
  by Write n e = written n e.0 e.1
  by Memory n e = remembered n e.0 e.1

  pub sheet_told_of_run : (r : Result (Unit {0}) StreamFault) → Ends P old new streams r → (run : List Line)
      × Ends Told [] run streams r × K run
  sheet_told_of_run (Ok u) e = whole e
  sheet_told_of_run (Err fault) e = by fault.cause fault.answered e

-- the same of a sheet that is read from a source
module _ {S : Type 0} (P : S → Rows → List SheetResult → S → Type 0) (old new : S) (streams : Streams) (X : Type 0)
    (of_run : (rows : Rows) (results : List SheetResult) → P old rows results new → X) (of_none : new ≡ old → X) where
  of_collected : (r : Result (Unit {0}) StreamFault) → source.Collected P old new streams r → X
  of_collected r e = sheet_either_way P old new _ X of_run of_none r e.ended

  from : (cause : Cause) (n : ℕ) → source.EndsBy P old new streams cause n → X
  from Read n e = of_none e.untouched.same
  from Write n e = of_collected _ e
  from Memory n e = elim e [ inl u ↦ of_none u.untouched.same | inr r ↦ of_collected _ r ]

  pub source_either_way : (r : Result (Unit {0}) SheetFault) → source.Ends P old new streams r → X
  source_either_way (Ok u) e = of_collected (Ok u) e
  source_either_way (Err TooLong) e = of_none e.untouched.same
  source_either_way (Err (Stream fault)) e = from fault.cause fault.answered e

module _ {S : Type 0} (P : S → Rows → List SheetResult → S → Type 0) (Q : Rows → List SheetResult → List Line → Type 0)
    (K : List Line → Type 0) (old new : S)
    (told : (rows : Rows) (results : List SheetResult) → P old rows results new → (run : List Line) × Q rows results run
    × K run) (none : new ≡ old → K []) (streams : Streams) where
  abbrev ToldSo : List Line → Rows → List SheetResult → List Line → Type 0
  ToldSo before rows results run = Q rows results run

  collected : (r : Result (Unit {0}) StreamFault) → source.Collected P old new streams r → (run : List Line)
      × source.Collected ToldSo [] run streams r × K run
  collected r e =
      let t = sheet_told_of_run P Q K old new told none _ r e.ended in
      (t.0, record { bytes = e.bytes; read = e.read; source = e.source; ended = t.1 }, t.2)

  untouched : source.Untouched P old new streams → source.Untouched ToldSo [] [] streams
  untouched u = record { same = refl; unwritten = u.unwritten; sink = u.sink }

  ended_by : (cause : Cause) (n : ℕ) → source.EndsBy P old new streams cause n → (run : List Line)
      × source.EndsBy ToldSo [] run streams cause n × K run
  ended_by Read n e = (
    [],
    record { none = e.none; source = e.source; untouched = untouched e.untouched },
    none e.untouched.same,
  )
  ended_by Write n e = collected _ e
  ended_by Memory n (inl e) = (
    [],
    inl (record { none = e.none; unread = e.unread; source = e.source; untouched = untouched e.untouched }),
    none e.untouched.same,
  )
  ended_by Memory n (inr e) = let t = collected _ e in (t.0, inr t.1, t.2)

  pub told_of_source : (r : Result (Unit {0}) SheetFault) → source.Ends P old new streams r → (run : List Line)
      × source.Ends ToldSo [] run streams r × K run
  told_of_source (Ok u) e = collected (Ok u) e
  told_of_source (Err TooLong) e = (
    [],
    record { long = e.long; source = e.source; untouched = untouched e.untouched },
    none e.untouched.same,
  )
  told_of_source (Err (Stream fault)) e = ended_by fault.cause fault.answered e

-- a sheet collected over a store of files, and what is so after it
module _ {D : Type 0} {g : Ghosts D} (told : List ℕ) (c : Caller) (i : Institution)
    (first final : KnownStore (FileStore D g))
    (K : List Line → Type 0)
    (clean : HasGoodDisk over_files final.connection)
    (stood : StandsFor over_files first i) (leaves : Leaves over_files first (i ∷ []))
    (after_run : (run : List Line) → AreInRange run → StandsFor over_files final (last run i)
    → Leaves over_files final (left_after run i (i ∷ [])) → K run) where
  abbrev Runs : KnownStore (FileStore D g) → Rows → List SheetResult → KnownStore (FileStore D g) → Type 0
  Runs = RunsRows (record {
    stands = StandsFor over_files;
    clean = stores.IsClean over_files;
    leaves = Leaves over_files;
  }) told c

  ran_so : (rows : Rows) (results : List SheetResult) → Runs first rows results final → (run : List Line)
      × IsSheetRun told c i rows results run × K run
  ran_so rows results r =
      let o = r.ran clean i stood in (
        o.run,
        record { calls = o.calls; replied = o.replied; given_up = o.given_up; with_memory = o.with_memory },
        after_run o.run o.in_range o.follows (o.stop (i ∷ []) leaves),
      )

  none_so : final ≡ first → K []
  none_so same =
      after_run [] tt (subst (λ (k : KnownStore (FileStore D g)). StandsFor over_files k i) (sym same) stood)
      (subst (λ (k : KnownStore (FileStore D g)). Leaves over_files k (i ∷ [])) (sym same) leaves)

  pub collect_so : (streams : SheetStreams) (result : Result (Unit {0}) StreamFault)
      → Ends Runs first final streams result
      → (run : List Line) × Ends (λ before rows results after. IsSheetRun told c i rows results after) [] run streams
      result
      × K run
  collect_so = sheet_told_of_run Runs (IsSheetRun told c i) K first final ran_so none_so

  pub source_so : (streams : Streams) (result : Result (Unit {0}) SheetFault) → source.Ends Runs first final streams
      result
      → (run : List Line) × source.Ends (λ before rows results after. IsSheetRun told c i rows results after) [] run
      streams
      result × K run
  source_so = told_of_source Runs (IsSheetRun told c i) K first final ran_so none_so
