use Rattle.mf_store_archived.specs.Joining.{AreArchives}
use Rattle.mf_store_archived.proofs.JoinLemmas.{Going}
use Rattle.mf_store_archived.proofs.joining.join.Given as goal

abbrev pub invariant-back : goal.invariant-back
invariant-back l = AreArchives l.archives → Going l.archives l.fn.to l.begins l.places.items
