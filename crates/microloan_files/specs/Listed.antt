-- A run of request lines over a file, where lists may be asked for or may not.
use Rattle.std.specs.Prelude.{◌≡◌, ℕ, Bool, List, map}
use Rattle.mf_lists_runs.specs.Choice.{Choice, IsReadByViews, all_told, told_line}
use Rattle.mf_lists_runs.specs.Runs.{AreTextsByViews}
use Rattle.mf_model.specs.Answering.{all_answered}
use Rattle.mf_model.specs.Institution.{Institution}
use Rattle.mf_model.specs.Run.{Line}
use Rattle.mf_wire.specs.Runs.{lines_in}
use Rattle.mf_wire.specs.Senders.{NoTextIsF20}
use Rattle.mf_wire_requests.specs.Requests.{call_in}
use Rattle.microloan_files.specs.Beginnings.{IsRunOver}

-- The run is that of the lines on the institution: what it is without lists is told of it with its own texts. These
-- texts are what its lines are told, lists too, and each office's texts are what the office's views answer. Where no
-- text is F20's, no line was given up.
pub record IsListsRunOver (choice : Choice) (told : Bool) (i : Institution) (lines texts : List (List ℕ))
    (run : List Line) : Type 0 where
  pub without : List (List ℕ)
  pub ran : IsRunOver told i lines without run
  pub replied : texts ≡ map told_line (all_told choice run i)
  pub by_views : IsReadByViews choice i run
  pub texts_by_views : AreTextsByViews choice i run (lines_in told lines) texts
  pub with_memory : NoTextIsF20 texts → run ≡ all_answered (map (call_in told) lines)
