use Rattle.mf_store_sound.proofs.ReceiptLemmas.{RisesTo}
use Rattle.mf_store_sound.proofs.receipts.is_ascending.Given as goal

abbrev pub invariant-loop-place : goal.invariant-loop-place
invariant-loop-place l = RisesTo l.rows l.place
