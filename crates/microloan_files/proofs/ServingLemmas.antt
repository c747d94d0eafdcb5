-- What serving messages over a store of files leaves.
use Rattle.std.proofs.Common.{◌≡◌, ℕ, Bool, List, [], ◌∷◌, map, Option, Result, Ok, Err, IfOk, IfErr, sym, subst}
use Rattle.std.specs.Prelude.{OnErr}
use Rattle.mf_base.specs.declared.fault.Cause.TheVariants.{Memory}
use Rattle.mf_base.specs.declared.fault.StreamFault.{StreamFault}
use Rattle.mf_model.specs.Institution.{Institution}
use Rattle.mf_model.specs.Run.{Line, last}
use Rattle.mf_model.specs.Sound.{AreInRange}
use Rattle.mf_model.specs.Store.{left_after}
use Rattle.mf_model.specs.declared.store.InstitutionStore as model
use Rattle.mf_store.specs.Facts.{KnownStore}
use Rattle.mf_store.specs.Stands.{StandsFor, Leaves}
use Rattle.mf_store.specs.Stands as stores
use Rattle.mf_lists_runs.specs.Choice.{Choice}
use Rattle.mf_lists_runs.specs.Exchanges.{ListsAnswerAll, ListsServeOn}
use Rattle.mf_wire.specs.Exchanges.{Exchange, AreLinesOf, IsLineOfMessage}
use Rattle.sqlite.specs.Files.{over_files}
use Rattle.sqlite_disk.specs.declared.Disk.{Ghosts}
use Rattle.sqlite_store.specs.declared.store.FileStore.{FileStore}
use Rattle.microloan_commands.specs.Served.{ServesConnections}
use Rattle.microloan_commands.specs.Traffic.{Traffic}
use Rattle.microloan_files.specs.Serving.{IsServedRun, ServesSo}

-- a disk that is good in the end was so at the beginning
pub good_before : {S : Type 0} (store : model.Ghosts S) (choice : Choice) (told : Bool) (old : S) (es : List Exchange)
    (new : S)
    → ListsAnswerAll store choice told old es new → store.clean new → store.clean old
good_before store choice told old [] new same clean = subst store.clean same clean
good_before store choice told old (e ∷ es) new (mid, one, rest) clean =
    one.answered.premise (good_before store choice told mid es new rest clean)

-- streams of the same bytes are the lines of the same run
same_lines : (told : Bool) (es : List Exchange) (run : List Line) (to_heads : List Bool) (fs : List Exchange)
    → map (λ (e : Exchange). e.bytes) es ≡ map (λ (e : Exchange). e.bytes) fs → AreLinesOf told es run to_heads
    → AreLinesOf told fs run to_heads
same_lines told [] run to_heads [] e h = h
same_lines told [] run to_heads (f ∷ fs) e h = absurd (cc)
same_lines told (x ∷ es) [] to_heads fs e h = absurd h
same_lines told (x ∷ es) (l ∷ run) [] fs e h = absurd h
same_lines told (x ∷ es) (l ∷ run) (to_head ∷ others) [] e h = absurd (cc)
same_lines told (x ∷ es) (l ∷ run) (to_head ∷ others) (f ∷ fs) e h =
    let first : x.bytes ≡ f.bytes = cc in
    let rest : map (λ (y : Exchange). y.bytes) es ≡ map (λ (y : Exchange). y.bytes) fs = cc in
    (subst (λ bytes. IsLineOfMessage told bytes l to_head) first h.0, same_lines told es run others fs rest h.1)

-- why nothing was served
abbrev pub IsWithoutMemory : {S : Type 0} → S → S → StreamFault → Type 0
IsWithoutMemory old new fault = (fault ≡ record { answered = 0; cause = Memory }) × (new ≡ old)

pub served_good_before : {S : Type 0} (store : model.Ghosts S) (choice : Choice) (told : Bool) (connections : ℕ)
    (before after : Option (List Traffic)) (old new : S) (result : Result ℕ StreamFault)
    → IfOk result (ServesConnections store choice told connections before after old new)
    → IfErr result (IsWithoutMemory old new) → store.clean new → store.clean old
served_good_before store choice told connections before after old new (Ok count) served none clean =
    good_before store choice told old served.exchanges new served.answered clean
served_good_before store choice told connections before after old new (Err fault) served none clean =
    subst store.clean none.1 clean

module _ {D : Type 0} {g : Ghosts D} (choice : Choice) (told : Bool) (i : Institution)
    (before after : Option (List Traffic))
    (first final : KnownStore (FileStore D g))
    (K : List Line
    → Type 0)
    (stood : StandsFor over_files first i) (leaves : Leaves over_files first (i ∷ []))
    (after_run : (run : List Line) → AreInRange run → StandsFor over_files final (last run i)
    → Leaves over_files final (left_after run i (i ∷ [])) → K run) where
  abbrev pub over : model.Ghosts (KnownStore (FileStore D g))
  over = record { stands = StandsFor over_files; clean = stores.IsClean over_files; leaves = Leaves over_files }

  pub serve_so : (connections count : ℕ)
      (s : ServesConnections over choice told connections before after first final count)
      → ListsServeOn over choice told i s.exchanges first final
      → (run : List Line) × IsServedRun choice told i connections count before after run × K run
  serve_so connections count s o = let w = o.served in (
    w.run,
    record {
      exchanges = s.exchanges;
      to_heads = w.to_heads;
      each = s.each;
      counted = s.counted;
      traffic = s.traffic;
      taken = s.taken;
      ended = s.ended;
      by_connections = s.by_connections;
      calls = same_lines told o.without w.run w.to_heads s.exchanges o.same_bytes w.calls;
      replied = o.replied;
      views = w.views;
      replies = w.replies;
      own_replies = w.own_replies;
      by_views = o.by_views;
    },
    after_run w.run w.in_range w.follows (w.stop (i ∷ []) leaves),
  )

  none_so : final ≡ first → K []
  none_so same =
      after_run [] tt (subst (λ (k : KnownStore (FileStore D g)). StandsFor over_files k i) (sym same) stood)
      (subst (λ (k : KnownStore (FileStore D g)). Leaves over_files k (i ∷ [])) (sym same) leaves)

  pub serves_so : (connections : ℕ) (result : Result ℕ StreamFault)
      → IfOk result (ServesConnections over choice told connections before after first final)
      → IfErr result (IsWithoutMemory first final) → OnErr result (after ≡ before)
      → ((es : List Exchange) → ListsAnswerAll over choice told first es final
      → ListsServeOn over choice told i es first final)
      → ServesSo choice told i connections before after K result
  serves_so connections (Ok count) served none unheard law =
      serve_so connections count served (law served.exchanges served.answered)
  serves_so connections (Err fault) served none unheard law = (none.0, unheard, none_so none.1)
