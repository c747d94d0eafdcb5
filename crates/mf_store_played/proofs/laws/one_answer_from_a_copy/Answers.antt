use Rattle.mf_store_played.proofs.OnceLemmas.{one_copy_answer}
use Rattle.mf_store_played.proofs.laws.one_answer_from_a_copy.Goals as goal

pub returns : goal.returns
returns c = one_copy_answer
