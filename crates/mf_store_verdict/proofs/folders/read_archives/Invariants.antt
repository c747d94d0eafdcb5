use Rattle.mf_store_archived.specs.Joining.{AreArchives}
use Rattle.mf_store_verdict.proofs.folders.read_archives.Given as goal

abbrev pub invariant-loop-name : goal.invariant-loop-name
invariant-loop-name l = AreArchives l.archives.items
