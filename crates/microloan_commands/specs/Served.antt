-- Connections that are served one after another.
use Rattle.std.specs.Prelude.{ℕ, ◌≤◌, Bool, true, false, List, length, Option, Result, Ok, Err}
use Rattle.mf_base.specs.declared.fault.StreamFault.{StreamFault}
use Rattle.mf_model.specs.declared.store.InstitutionStore.{Ghosts}
use Rattle.mf_wire.specs.Exchanges.{Exchange}
use Rattle.mf_lists_runs.specs.Choice.{Choice}
use Rattle.mf_lists_runs.specs.Exchanges.{ListsAnswerAll}
use Rattle.microloan_commands.specs.Traffic.{Traffic, Takes, GoTo}

-- The store answered messages one after another, by the desk or by the lists, and nothing else was done to it.
-- Something may be told of them or nothing is. They came by connections that were ended one after another, so many at
-- most, and the response to each went to its connection. So many responses were written whole.
pub record ServesConnections {S : Type 0} (store : Ghosts S) (choice : Choice) (told : Bool) (connections : ℕ)
    (before after : Option (List Traffic)) (old new : S) (count : ℕ) : Type 0 where
  pub exchanges : List Exchange
  pub answered : ListsAnswerAll store choice told old exchanges new
  pub each : length exchanges ≤ connections
  pub counted : count ≤ length exchanges
  pub traffic : List Traffic
  pub taken : Takes before after traffic
  pub ended : length traffic ≤ connections
  pub by_connections : GoTo traffic exchanges count

-- how many responses were written whole, by what serving one message answers
abbrev pub whole_of : Result Bool StreamFault → ℕ
whole_of (Ok true) = 1
whole_of (Ok false) = 0
whole_of (Err fault) = 0
