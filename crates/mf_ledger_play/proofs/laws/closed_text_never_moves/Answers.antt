use Rattle.mf_ledger_play.proofs.RunLemmas.{closed_text}
use Rattle.mf_ledger_play.proofs.laws.closed_text_never_moves.Goals as goal

pub returns : goal.returns
returns c asked n i j lines more tree plays low = closed_text asked n i j lines more tree plays low
