use Rattle.mf_store_files.proofs.TellingLemmas.{told_left}
use Rattle.mf_store_files.proofs.laws.what_is_left_tells_requests.Goals as goal

pub returns : goal.returns
returns c = told_left
