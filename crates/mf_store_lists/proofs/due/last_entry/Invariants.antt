use Rattle.std.proofs.Common.{◌≡◌, take}
use Rattle.mf_lists.specs.Lists.{last_entry}
use Rattle.mf_store_lists.proofs.due.last_entry.Given as goal

abbrev pub invariant-loop-entry : goal.invariant-loop-entry
invariant-loop-entry l = l.last ≡ last_entry (take l.entry-index l.entries)
