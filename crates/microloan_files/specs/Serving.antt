-- Messages that are answered over a file, and what a stop then leaves of the file.
use Rattle.std.specs.Prelude.{◌≡◌, ◌≤◌, ℕ, Bool, List, [], map, length, Option, Result, Ok, Err}
use Rattle.mf_base.specs.declared.fault.Cause.TheVariants.{Memory}
use Rattle.mf_base.specs.declared.fault.StreamFault.{StreamFault}
use Rattle.mf_model.specs.Institution.{Institution}
use Rattle.mf_model.specs.Run.{Line, ViewIsPlay, RepliesArePlay, OwnRepliesArePlay}
use Rattle.mf_wire.specs.Exchanges.{Exchange, AreLinesOf}
use Rattle.mf_lists_runs.specs.Choice.{Choice, IsReadByViews, all_told}
use Rattle.mf_lists_runs.specs.Exchanges.{told_responses}
use Rattle.microloan_commands.specs.Traffic.{Traffic, Takes, GoTo}

-- The messages of at most so many connections, of which something may be told or nothing is, are the lines of the run
-- on the institution, and the responses are those of what its lines are told, by the desk or by the lists; so many were
-- written whole. Where it is known what passes over connections, to each was written the response to the message that
-- came by it, or a beginning. What each office sees and is told is isolated.
pub record IsServedRun (choice : Choice) (told : Bool) (i : Institution) (connections count : ℕ)
    (before after : Option (List Traffic)) (run : List Line) : Type 0 where
  pub exchanges : List Exchange
  pub to_heads : List Bool
  pub each : length exchanges ≤ connections
  pub counted : count ≤ length exchanges
  pub traffic : List Traffic
  pub taken : Takes before after traffic
  pub ended : length traffic ≤ connections
  pub by_connections : GoTo traffic exchanges count
  pub calls : AreLinesOf told exchanges run to_heads
  pub replied : map (λ e. e.text) exchanges ≡ told_responses to_heads (all_told choice run i)
  pub views : ViewIsPlay i run
  pub replies : RepliesArePlay i run
  pub own_replies : OwnRepliesArePlay i run
  pub by_views : IsReadByViews choice i run

-- Messages were answered by one run on the institution, and a stop leaves this after it. Without memory to begin none
-- was answered, and no connection accepted.
abbrev pub ServesSo : Choice → Bool → Institution → ℕ → Option (List Traffic) → Option (List Traffic)
    → (List Line → Type 0) → Result ℕ StreamFault → Type 0
ServesSo choice told i connections before after Left (Ok count) = (run : List Line)
    × IsServedRun choice told i connections count before after run × Left run
ServesSo choice told i connections before after Left (Err fault) =
    (fault ≡ record { answered = 0; cause = Memory }) × (after ≡ before) × Left []
