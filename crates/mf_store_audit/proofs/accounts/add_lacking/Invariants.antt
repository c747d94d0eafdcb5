use Rattle.std.specs.Cmp.{IsTotalOrder}
use Rattle.mf_store_sound.specs.Held.{Rises}
use Rattle.mf_store_audit.proofs.DifferenceLemmas.{AreLacking}
use Rattle.mf_store_audit.proofs.accounts.add_lacking.Given as goal

abbrev pub invariant-loop-row : goal.invariant-loop-row
invariant-loop-row g l =
    AreLacking g.T.Keyed.key (IsTotalOrder g.T.Ranked.by × Rises g.T.Ranked.by l.others) l.rows l.others
    l.initial.keys.items l.keys.items l.row-index
