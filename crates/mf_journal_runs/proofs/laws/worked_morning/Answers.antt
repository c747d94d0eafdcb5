use Rattle.std.proofs.Common.{refl}
use Rattle.mf_play.specs.WorkedPlay.{morning, after_morning}
use Rattle.mf_play.proofs.WorkedLemmas.{plays}
use Rattle.mf_journal_runs.specs.Journals.{IsPlayOfItsJournal, founded}
use Rattle.mf_journal_runs.proofs.Growing.{plays_read}
use Rattle.mf_journal_runs.proofs.laws.worked_morning.Goals as goal

pub returns : goal.returns
returns c = λ day.
    let played : IsPlayOfItsJournal (founded day) (after_morning day) = record {
      lines = morning day;
      journal = refl;
      plays = plays day;
      read = plays_read (founded day) (after_morning day) (morning day) (plays day);
    } in
    (played, refl)
