use Rattle.std.proofs.Common.{map}
use Rattle.mf_journal.specs.Journal.{line_of_write, writes_of}
use Rattle.mf_model.specs.Run.{last}
use Rattle.mf_play.proofs.Runs.{run_plays}
use Rattle.mf_play.proofs.TellingLemmas.{all_told}
use Rattle.mf_play.proofs.laws.what_plays_tells_requests.Goals as goal

pub returns-clause-plays : goal.returns-clause-plays
returns-clause-plays c = λ i j lines plays. all_told i j lines plays

pub returns-clause-noted : goal.returns-clause-noted
returns-clause-noted c = λ i run are.
    all_told i (last run i) (map line_of_write (writes_of run i)) (run_plays run i are)
