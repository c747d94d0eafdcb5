use Rattle.std.proofs.Common.{◌≤◌, length, ℕ}
use Rattle.mf_alloc.specs.declared.row.Cell.{Cell}
use Rattle.mf_account.specs.declared.entry.Entry.{Entry}
use Rattle.mf_account.specs.Account.{Orders}
use Rattle.mf_account.specs.Effect.{State}
use Rattle.mf_account.specs.Rewind.{IsRewindable, IsBack}
use Rattle.mf_account.proofs.rewind.rewind_book.Given as goal

abbrev pub invariant-loop-i : goal.invariant-loop-i
invariant-loop-i l = record {
  entries : l.i ≤ length l.tail;
  parts : l.k ≤ length l.settled;
  back : (orders : Orders) (places : Entry → Cell → ℕ) (from : State) → IsRewindable orders places from l.tail l.settled
      l.fn.book → IsBack orders from l.tail l.settled l.i l.k l.book;
}

abbrev pub decreases-loop-i : goal.decreases-loop-i
decreases-loop-i l = l.i
