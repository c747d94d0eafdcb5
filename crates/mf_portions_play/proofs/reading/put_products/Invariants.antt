use Rattle.mf_portions_play.proofs.ReadingLemmas.{ProductsWritten}
use Rattle.mf_portions_play.proofs.reading.put_products.Given as goal

abbrev pub invariant-loop-place : goal.invariant-loop-place
invariant-loop-place l = ProductsWritten l.fn.office l.held l.place l.fn.lines.items l.lines.items
