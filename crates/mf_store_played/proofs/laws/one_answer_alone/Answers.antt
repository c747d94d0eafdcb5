use Rattle.mf_store_played.proofs.OnceLemmas.{one_answer}
use Rattle.mf_store_played.proofs.laws.one_answer_alone.Goals as goal

pub returns : goal.returns
returns c = one_answer
