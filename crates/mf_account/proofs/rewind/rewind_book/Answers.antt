use Rattle.std.proofs.Common.{◌≡◌, ◌-◌, ◌∙◌, arith, length, take, drop, map, ap}
use Rattle.mf_account.specs.Account.{part_of, after_entries}
use Rattle.mf_account.specs.Standing.{entry_at}
use Rattle.mf_account.proofs.RewindLemmas.{rewindable-cells, has_charge, back_step, read_entry, cells-part, charge-at}
use Rattle.mf_account.proofs.RewindLemmas.{within-at, back-after}
use Rattle.mf_account.proofs.rewind.rewind_book.Goals as goal

pub take_back-back-requires-clause-charge : goal.take_back-back-requires-clause-charge
take_back-back-requires-clause-charge c =
    let step = back_step c.requires.0 c.requires.1 c.requires.2 c.args.book.now c.loop-i.book c.args.tail.now
    c.args.settled.now c.loop-i.i c.loop-i.k c.own_start-start.result c.index-tail-i.result
    c.requires.3 (c.loop-i.invariant.back c.requires.0 c.requires.1 c.requires.2 c.requires.3) c.loop-i-test.true
    c.loop-i.invariant.entries c.loop-i.invariant.parts c.own_start-start.ensures.within
    c.index-tail-i.is c.own_start-start.ensures.own c.own_start-start.ensures.first in
    charge-at c.args.tail.now (c.loop-i.i - 1) (length c.requires.2.rows) (length c.loop-i.book.rows)
    c.index-tail-i-in-loop-i.result
    (has_charge (entry_at c.args.tail.now (c.loop-i.i - 1)).kind (entry_at c.args.tail.now (c.loop-i.i - 1))
    (length c.requires.2.rows) (c.requires.3.instalments (c.loop-i.i - 1)
    (omega (arith, c.loop-i-test.true, c.loop-i.invariant.entries))))
    (read_entry c.args.tail.now (c.loop-i.i - 1) c.index-tail-i-in-loop-i.result (omega (
      arith,
      c.loop-i-test.true,
      c.loop-i.invariant.entries,
    )) c.index-tail-i-in-loop-i.is)
    step.size

pub take_back-back-requires-clause-cells : goal.take_back-back-requires-clause-cells
take_back-back-requires-clause-cells c =
    let step = back_step c.requires.0 c.requires.1 c.requires.2 c.args.book.now c.loop-i.book c.args.tail.now
    c.args.settled.now c.loop-i.i c.loop-i.k c.own_start-start.result c.index-tail-i.result
    c.requires.3 (c.loop-i.invariant.back c.requires.0 c.requires.1 c.requires.2 c.requires.3) c.loop-i-test.true
    c.loop-i.invariant.entries c.loop-i.invariant.parts c.own_start-start.ensures.within
    c.index-tail-i.is c.own_start-start.ensures.own c.own_start-start.ensures.first in
    cells-part (length c.requires.2.rows) (length c.loop-i.book.rows) c.args.settled.now c.loop-i.k
    c.own_start-start.result (rewindable-cells c.requires.0 c.requires.1 c.requires.2 c.args.tail.now
    c.args.settled.now c.args.book.now c.requires.3) step.size

pub take_back-back-requires-clause-money : goal.take_back-back-requires-clause-money
take_back-back-requires-clause-money c =
    let step = back_step c.requires.0 c.requires.1 c.requires.2 c.args.book.now c.loop-i.book c.args.tail.now
    c.args.settled.now c.loop-i.i c.loop-i.k c.own_start-start.result c.index-tail-i.result
    c.requires.3 (c.loop-i.invariant.back c.requires.0 c.requires.1 c.requires.2 c.requires.3) c.loop-i-test.true
    c.loop-i.invariant.entries c.loop-i.invariant.parts c.own_start-start.ensures.within
    c.index-tail-i.is c.own_start-start.ensures.own c.own_start-start.ensures.first in
    omega (arith, step.money)

pub loop-i-preserved : goal.loop-i-preserved
loop-i-preserved c = record {
  entries = omega (arith, c.loop-i.invariant.entries);
  parts = omega (arith, c.loop-i.invariant.parts, c.own_start-start.ensures.within);
  back = λ orders places from is.
      let step = back_step orders places from c.args.book.now c.loop-i.book c.args.tail.now c.args.settled.now
      c.loop-i.i c.loop-i.k c.own_start-start.result c.index-tail-i.result
      is (c.loop-i.invariant.back orders places from is) c.loop-i-test.true c.loop-i.invariant.entries
      c.loop-i.invariant.parts c.own_start-start.ensures.within
      c.index-tail-i.is c.own_start-start.ensures.own c.own_start-start.ensures.first in
      back-after orders from c.loop-i.book c.take_back-back.new.book c.args.tail.now c.args.settled.now
      (take (c.loop-i.k - c.own_start-start.result) (drop c.own_start-start.result c.args.settled.now))
      (c.loop-i.i - 1) c.loop-i.k c.own_start-start.result c.index-tail-i-in-loop-i.result
      step (read_entry c.args.tail.now (c.loop-i.i - 1) c.index-tail-i-in-loop-i.result
      (omega (arith, c.loop-i-test.true, c.loop-i.invariant.entries)) c.index-tail-i-in-loop-i.is)
      (c.take_back-back.ensures.back (c.take_back-back.ensures.whether
      (within-at c.args.tail.now (c.loop-i.i - 1) c.index-tail-i-in-loop-i.result c.loop-i.book (map part_of
      (take (c.loop-i.k - c.own_start-start.result) (drop c.own_start-start.result c.args.settled.now)))
      (read_entry c.args.tail.now (c.loop-i.i - 1) c.index-tail-i-in-loop-i.result (omega (
        arith,
        c.loop-i-test.true,
        c.loop-i.invariant.entries,
      )) c.index-tail-i-in-loop-i.is)
      step.within)));
}

pub returns : goal.returns
returns c = λ orders places from is.
    let none : c.loop-i.i ≡ 0 = omega (arith, c.loop-i-test.false) in
    (c.loop-i.invariant.back orders places from is).state ∙ ap (λ n. after_entries orders (take n c.args.tail.now) from)
    none
