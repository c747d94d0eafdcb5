use Rattle.std.proofs.Common.{◌≡◌, ◌++◌, drop}
use Rattle.mf_ledger_play.specs.Opening.{moving}
use Rattle.mf_ledger_play.proofs.opening.push_moving.Given as goal

abbrev pub invariant-loop-posting : goal.invariant-loop-posting
invariant-loop-posting l =
    l.moved.items ++ moving (drop l.posting-index l.postings) ≡ l.initial.moved.items ++ moving l.postings
