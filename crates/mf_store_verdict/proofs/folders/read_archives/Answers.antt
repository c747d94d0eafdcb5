use Rattle.std.proofs.Common.{◌≡◌, [], sym, subst, rules}
use Rattle.mf_store_archived.specs.Joining.{AreArchives}
use Rattle.mf_store_verdict.proofs.folders.read_archives.Goals as goal

pub loop-name-init : goal.loop-name-init
loop-name-init c =
    let none : c.new-archives.result.items ≡ [] = search rules in
    subst AreArchives (sym none) tt

pub loop-name-preserved : goal.loop-name-preserved
loop-name-preserved c = c.in-Ok-add_from.ensures c.loop-name.invariant
