use Rattle.std.proofs.Common.{◌≡◌, ◌+◌, ◌-◌, ◌<◌, ℕ, List, arith, length, take, drop, get_or, map, ap, sym, subst}
use Rattle.std.proofs.Common.{true≢false, ◌∙◌}
use Rattle.std.proofs.lemmas.List.{length-map}
use Rattle.mf_account.specs.declared.entry.Entry.{Entry}
use Rattle.mf_account.specs.declared.settled.SettledPart.{SettledPart}
use Rattle.mf_account.specs.Account.{part_of}
use Rattle.mf_account.specs.Effect.{State}
use Rattle.mf_account.specs.Rewind.{IsBack}
use Rattle.mf_account.specs.Standing.{no_entry, entries_at}
use Rattle.mf_account.specs.Told.{settled_amount}
use Rattle.mf_account.proofs.BoundLemmas.{amount-upto, paid-amount, length-before_entry, bounded-weaker, step-money}
use Rattle.mf_account.proofs.BoundLemmas.{step-bounded}
use Rattle.mf_account.proofs.RewindLemmas.{back_step_to, cells-part, charge-at, within-at, back-after}
use Rattle.mf_account.proofs.rewind.rewind_to.Goals as goal

pub take_back-requires-clause-charge : goal.take_back-requires-clause-charge
take_back-requires-clause-charge c =
    let tail : List Entry = entries_at c.args.entries.now c.args.order.now in
    let size : length tail ≡ length c.args.order.now =
    length-map c.args.order.now (λ i. get_or c.args.entries.now i no_entry) in
    charge-at tail (c.loop-i.i - 1) (length c.args.book.now.rows) (length c.loop-i.book.rows)
    c.entry_in-entry.result.now
    (c.requires.charges (c.loop-i.i - 1) no_entry (omega (arith, size, c.loop-i-test.true, c.loop-i.invariant.entries)))
    (sym c.entry_in-entry.ensures) c.loop-i.invariant.size

pub take_back-requires-clause-cells : goal.take_back-requires-clause-cells
take_back-requires-clause-cells c =
    cells-part (length c.args.book.now.rows) (length c.loop-i.book.rows) c.args.settled.now c.loop-i.k
    c.own_start-start.result c.requires.cells c.loop-i.invariant.size

pub take_back-requires-clause-money : goal.take_back-requires-clause-money
take_back-requires-clause-money c =
    let upto = amount-upto c.args.settled.now c.own_start-start.result c.loop-i.k c.own_start-start.ensures.within
    c.loop-i.invariant.parts in
    let paid = paid-amount (take (c.loop-i.k - c.own_start-start.result)
    (drop c.own_start-start.result c.args.settled.now)) in
    omega (arith, upto, paid, c.loop-i.invariant.money, c.requires.money)

pub loop-i-preserved : goal.loop-i-preserved
loop-i-preserved c =
    let tail : List Entry = entries_at c.args.entries.now c.args.order.now in
    let size : length tail ≡ length c.args.order.now =
    length-map c.args.order.now (λ i. get_or c.args.entries.now i no_entry) in
    let some : 0 < c.loop-i.i = omega (arith, c.loop-i-test.true) in
    let start : ℕ = c.own_start-start.result in
    let own : List SettledPart = take (c.loop-i.k - start) (drop start c.args.settled.now) in
    let back = c.take_back.ensures.back c.if-not-take_back.false in
    let apart = c.take_back.ensures.apart c.if-not-take_back.false in
    record {
      place = omega (arith, c.loop-i-test.true);
      entries = omega (arith, c.loop-i.invariant.entries);
      parts = omega (arith, c.loop-i.invariant.parts, c.own_start-start.ensures.within);
      size = ap (λ (x : State). length x.rows) back ∙ length-before_entry c.entry_in-entry.result.now (map part_of own)
          c.loop-i.book ∙ c.loop-i.invariant.size;
      money = step-money c.args.settled.now start c.loop-i.k _ c.entry_in-entry.result.now c.loop-i.book
          c.take_back.new.book c.own_start-start.ensures.within c.loop-i.invariant.parts c.loop-i.invariant.money back;
      bounded = λ n most is.
          let was = c.loop-i.invariant.bounded n most is in
          step-bounded c.args.settled.now start c.loop-i.k n most c.entry_in-entry.result.now c.loop-i.book
          c.take_back.new.book c.own_start-start.ensures.within c.loop-i.invariant.parts was (apart was.within)
          back;
      back = λ orders places from is.
          let step = back_step_to orders places from c.args.book.now c.loop-i.book tail c.args.settled.now c.loop-i.i
          c.loop-i.k start c.entry_in-entry.result.now.seq
          is (c.loop-i.invariant.back orders places from is) some (omega (arith, size, c.loop-i.invariant.entries))
          c.loop-i.invariant.parts c.own_start-start.ensures.within
          (ap (λ (x : Entry). x.seq) c.entry_in-entry.ensures) c.own_start-start.ensures.own
          c.own_start-start.ensures.first in
          back-after orders from c.loop-i.book c.take_back.new.book tail c.args.settled.now own (c.loop-i.i - 1)
          c.loop-i.k start c.entry_in-entry.result.now
          step (sym c.entry_in-entry.ensures) back;
    }

pub returns-then-not-take_back-clause-some : goal.returns-then-not-take_back-clause-some
returns-then-not-take_back-clause-some c orders places from is =
    let tail : List Entry = entries_at c.args.entries.now c.args.order.now in
    let size : length tail ≡ length c.args.order.now =
    length-map c.args.order.now (λ i. get_or c.args.entries.now i no_entry) in
    let some : 0 < c.loop-i.i = omega (arith, c.loop-i-test.true) in
    let start : ℕ = c.own_start-start.result in
    let step = back_step_to orders places from c.args.book.now c.loop-i.book tail c.args.settled.now c.loop-i.i
    c.loop-i.k start c.entry_in-entry.result.now.seq
    is (c.loop-i.invariant.back orders places from is) some (omega (arith, size, c.loop-i.invariant.entries))
    c.loop-i.invariant.parts c.own_start-start.ensures.within
    (ap (λ (x : Entry). x.seq) c.entry_in-entry.ensures) c.own_start-start.ensures.own
    c.own_start-start.ensures.first in
    let whether = c.take_back.ensures.whether
    (within-at tail (c.loop-i.i - 1) c.entry_in-entry.result.now c.loop-i.book (map part_of (take (c.loop-i.k - start)
    (drop start c.args.settled.now))) (sym c.entry_in-entry.ensures) step.within) in
    absurd (true≢false (sym whether ∙ c.if-not-take_back.true))

pub returns-clause-bounded : goal.returns-clause-bounded
returns-clause-bounded c n most is =
    bounded-weaker n _ (most + settled_amount c.args.settled.now) c.loop-i.book (omega arith)
    (c.loop-i.invariant.bounded n most is)

pub returns-clause-back : goal.returns-clause-back
returns-clause-back c orders places from is =
    let end : c.loop-i.i ≡ c.args.place = omega (arith, c.loop-i-test.false, c.loop-i.invariant.place) in
    subst (λ (n : ℕ). IsBack orders from (entries_at c.args.entries.now c.args.order.now) c.args.settled.now n
    c.loop-i.k c.loop-i.book) end (c.loop-i.invariant.back orders places from is)
