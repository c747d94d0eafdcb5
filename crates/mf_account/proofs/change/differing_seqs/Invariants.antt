use Rattle.std.proofs.Common.{length, ◌+◌, ◌-◌, ℕ}
use Rattle.mf_account.proofs.DifferLemmas.{IsWalked}
use Rattle.mf_account.proofs.change.differing_seqs.Given as goal

abbrev pub invariant-loop-i : goal.invariant-loop-i
invariant-loop-i l = record {
  walked : (m : ℕ) × IsWalked l.before l.after l.i l.k l.changed.items m;
}

abbrev pub decreases-loop-i : goal.decreases-loop-i
decreases-loop-i l = (length l.before - l.i) + (length l.after - l.k)
