use Rattle.std.proofs.Common.{◌≡◌, ◌+◌, ◌-◌, drop, length}
use Rattle.mf_store_journal.specs.Index.{unsought}
use Rattle.mf_store_journal.proofs.index.next_sought.Given as goal

abbrev pub invariant-loop-at : goal.invariant-loop-at
invariant-loop-at l = l.from + unsought l.sought (drop l.from l.entries)
    ≡ l.at + unsought l.sought (drop l.at l.entries)

abbrev pub decreases-loop-at : goal.decreases-loop-at
decreases-loop-at l = length l.entries - l.at
