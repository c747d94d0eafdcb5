-- Request lines that are answered over a new institution in memory.
use Rattle.std.specs.Prelude.{◌≡◌, ◌⊎◌, ℕ, false, [], ◌∷◌, Result, Err}
use Rattle.mf_base.specs.declared.fault.Cause.TheVariants.{Memory}
use Rattle.mf_base.specs.declared.fault.StreamFault.{StreamFault}
use Rattle.sqlite_trees.specs.declared.store.Store.{Ghosts}
use Rattle.mf_model.specs.Institution.{newly_made}
use Rattle.mf_store.specs.Facts.{KnownStore}
use Rattle.mf_store.specs.Stands.{StandsFor, IsClean, Leaves}
use Rattle.mf_wire.specs.Runs.{RunsLines}
use Rattle.mf_wire_lines.specs.Ends.{Ends}
use Rattle.mf_wire_lines.specs.Streams.{Streams}

-- A store stood for a new institution on this day, and a stop would have left that institution. The run over it,
-- in which nothing is told of lines, ended as its result says, and to its end the disk returned what was written.
pub record RunsOverNew {S : Type 0} (g : Ghosts S) (day : ℕ) (streams : Streams) (result : Result ℕ StreamFault) : Type
    0 where
  pub first : KnownStore S
  pub last : KnownStore S
  pub stood : StandsFor g first (newly_made day)
  pub left : Leaves g first (newly_made day ∷ [])
  pub clean : IsClean g last
  pub ended : Ends (RunsLines (record { stands = StandsFor g; clean = IsClean g; leaves = Leaves g }) false) first last
      streams result

-- There was no memory for a store, or request lines were answered over a new one.
abbrev pub AnswersFromNew : {S : Type 0} → Ghosts S → ℕ → Streams → Result ℕ StreamFault → Type 0
AnswersFromNew g day streams result = (result ≡ Err (record { answered = 0; cause = Memory }))
    ⊎ RunsOverNew g day streams result
