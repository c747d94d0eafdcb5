use Rattle.mf_store_archive.proofs.ArchivedLemmas.{first_can, rest_can}
use Rattle.mf_store_archive.proofs.laws.both_can_be_journals.Goals as goal

pub returns-clause-first : goal.returns-clause-first
returns-clause-first c = first_can

pub returns-clause-rest : goal.returns-clause-rest
returns-clause-rest c = rest_can
