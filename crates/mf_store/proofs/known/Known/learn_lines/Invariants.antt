use Rattle.std.proofs.Common.{◌≡◌, ◌++◌, map, take}
use Rattle.mf_journal.specs.Chain.{line_of_row}
use Rattle.mf_store_journal.specs.Index.{index_entry}
use Rattle.mf_store.proofs.known.Known.learn_lines.Given as goal

abbrev pub invariant-loop-at : goal.invariant-loop-at
invariant-loop-at l = l.self ≡ record l.initial.self {
  index = l.initial.self.index ++ map index_entry (map line_of_row (take l.at l.rows));
}
