use Rattle.std.proofs.Common.{◌≡◌, ◌++◌, take}
use Rattle.mf_store_commits.specs.ChangeWrites.{shares_put}
use Rattle.mf_store_commits.proofs.changes.put_shares.Given as goal

abbrev pub invariant-loop-seq : goal.invariant-loop-seq
invariant-loop-seq l = l.writes.items ≡ l.initial.writes.items ++ shares_put l.office l.loan l.account.settled
    (take l.seq-index l.seqs)
