use Rattle.mf_lists.proofs.PreviewLemmas.{charges-enough}
use Rattle.mf_lists.proofs.laws.named_charges_are_enough_for_a_preview.Goals as goal

pub returns : goal.returns
returns c = charges-enough
