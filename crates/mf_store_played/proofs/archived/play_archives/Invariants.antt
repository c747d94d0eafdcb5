use Rattle.mf_store_played.proofs.ArchivedLemmas.{Going}
use Rattle.mf_store_played.proofs.archived.play_archives.Given as goal

abbrev pub invariant-loop-k : goal.invariant-loop-k
invariant-loop-k g l = Going g.T.InstitutionStore l.archives l.places l.initial.store l.store l.k
