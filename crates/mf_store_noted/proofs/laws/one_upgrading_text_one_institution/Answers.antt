use Rattle.mf_store_noted.proofs.OneTextLemmas.{one_upgrading_text}
use Rattle.mf_store_noted.proofs.laws.one_upgrading_text_one_institution.Goals as goal

pub returns : goal.returns
returns c = one_upgrading_text
