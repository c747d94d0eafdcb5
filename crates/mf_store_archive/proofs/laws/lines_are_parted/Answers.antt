use Rattle.mf_store_archive.proofs.ArchivedLemmas.{cut_by_day}
use Rattle.mf_store_archive.proofs.laws.lines_are_parted.Goals as goal

pub returns : goal.returns
returns c = cut_by_day
