use Rattle.std.proofs.Common.{◌≡◌, ◌≤◌, ◌+◌, ◌-◌, length, take, ℕ}
use Rattle.mf_alloc.specs.declared.row.Cell.{Cell}
use Rattle.mf_account.specs.declared.entry.Entry.{Entry}
use Rattle.mf_account.specs.Account.{Orders}
use Rattle.mf_account.specs.Effect.{State}
use Rattle.mf_account.specs.Standing.{entries_at}
use Rattle.mf_account.specs.Rewind.{IsRewindable, IsBack}
use Rattle.mf_account.specs.Safe.{IsBounded}
use Rattle.mf_account.specs.Told.{settled_amount}
use Rattle.mf_account.proofs.rewind.rewind_to.Given as goal

abbrev pub invariant-loop-i : goal.invariant-loop-i
invariant-loop-i l = record {
  place : l.place ≤ l.i;
  entries : l.i ≤ length l.order;
  parts : l.k ≤ length l.settled;
  size : length l.book.rows ≡ length l.fn.book.rows;
  money : l.book.overpaid + l.book.refunded + settled_amount (take l.k l.settled) ≤ l.fn.book.overpaid
      + l.fn.book.refunded + settled_amount l.settled;
  bounded : (n most : ℕ) → IsBounded n most l.fn.book
      → IsBounded n (most + (settled_amount l.settled - settled_amount (take l.k l.settled))) l.book;
  back : (orders : Orders) (places : Entry → Cell → ℕ) (from : State)
      → IsRewindable orders places from (entries_at l.entries l.order) l.settled l.fn.book
      → IsBack orders from (entries_at l.entries l.order) l.settled l.i l.k l.book;
}

abbrev pub decreases-loop-i : goal.decreases-loop-i
decreases-loop-i l = l.i
