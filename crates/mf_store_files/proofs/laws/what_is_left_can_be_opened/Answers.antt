use Rattle.mf_store_files.proofs.StopLemmas.{rows_are_opened}
use Rattle.mf_store_files.proofs.laws.what_is_left_can_be_opened.Goals as goal

pub returns : goal.returns
returns c = rows_are_opened
