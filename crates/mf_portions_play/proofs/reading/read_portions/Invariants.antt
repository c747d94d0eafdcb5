use Rattle.mf_portions_play.proofs.ReadingLemmas.{OfficesPut}
use Rattle.mf_portions_play.proofs.reading.read_portions.Given as goal

abbrev pub invariant-loop-place : goal.invariant-loop-place
invariant-loop-place g l =
    OfficesPut g.S.InstitutionStore l.listed l.counts.products l.place l.lines.items l.fn.store l.store
