use Rattle.mf_store_lists.proofs.ChangeLemmas.{FoundSoFar}
use Rattle.mf_store_lists.proofs.changes.put_lines.Given as goal

abbrev pub invariant-loop-at : goal.invariant-loop-at
invariant-loop-at l = FoundSoFar l.asked l.rows l.at
    (record { place = l.initial.place; lines = l.initial.lines.items })
    (record { place = l.place; lines = l.lines.items })
