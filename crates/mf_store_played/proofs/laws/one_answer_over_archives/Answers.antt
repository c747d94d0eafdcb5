use Rattle.mf_store_played.proofs.ArchivedLemmas.{one_archived_answer}
use Rattle.mf_store_played.proofs.laws.one_answer_over_archives.Goals as goal

pub returns : goal.returns
returns c = one_archived_answer
