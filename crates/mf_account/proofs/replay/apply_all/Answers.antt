use Rattle.std.proofs.Common.{ℕ, ◌+◌, ◌∙◌, ap, List, drop, ◌++◌, refl, get_or}
use Rattle.std.proofs.lemmas.List.{get_or_default}
use Rattle.mf_alloc.specs.declared.row.Cell.{Cell}
use Rattle.mf_account.specs.declared.entry.Entry.{Entry}
use Rattle.mf_account.specs.Effect.{State, after_entry, parts_of}
use Rattle.mf_account.specs.Account.{Orders, orders_by, parts_numbered}
use Rattle.mf_account.specs.Standing.{entries_at}
use Rattle.mf_account.proofs.ReplayLemmas.{rest-cons}
use Rattle.mf_account.proofs.ApplyLemmas.{applied-none, applied-more}
use Rattle.mf_account.proofs.DueLemmas.{order-same}
use Rattle.mf_account.proofs.replay.apply_all.Goals as goal

pub loop-k-init : goal.loop-k-init
loop-k-init g c =
    let orders : Orders = orders_by (g.T.Strategy.cell_at c.args.strategy.now) c.args.book.now.rows in
    applied-none orders c.args.book.now (entries_at c.args.entries.now c.args.order.now)
    (entries_at c.args.entries.now (drop 0 c.args.order.now)) c.args.book.now c.new-settled.result.items
    refl refl c.new-settled.ensures.items c.requires.fits

pub loop-k-preserved : goal.loop-k-preserved
loop-k-preserved g c =
    let cells = g.T.Strategy.cell_at c.args.strategy.now in
    let base : State = c.args.book.now in
    let orders : Orders = orders_by cells base.rows in
    let entries : List Entry = c.args.entries.now in
    let order : List ℕ = c.args.order.now in
    let entry : Entry = c.index-entries-order.result in
    let before : State = c.loop-k.book in
    let same = order-same cells before.rows base.rows entry.day c.loop-k.invariant.dues in
    applied-more orders base (entries_at entries order) (entries_at entries (drop c.loop-k.k order))
    (entries_at entries (drop (c.loop-k.k + 1) order)) entry before
    c.apply_entry.new.book c.loop-k.settled.items c.in_ok-parts.parts.items c.extend_from_slice.new.self.items
    c.loop-k.invariant
    (rest-cons entries order c.loop-k.k (get_or order c.loop-k.k 0) entry c.loop-k-test.true
    (get_or_default order c.loop-k.k 0 (get_or order c.loop-k.k 0) c.loop-k-test.true)
    (c.requires.within c.loop-k.k 0 c.loop-k-test.true) c.index-entries-order.is)
    (c.in_ok-parts.ensures.state ∙ ap (λ (o : ℕ → Cell). after_entry o entry before) same)
    (c.in_ok-parts.ensures.parts ∙ ap (λ (o : ℕ → Cell). parts_numbered entry.seq 1 (parts_of o entry before)) same)
    (c.in_ok-extend_from_slice.ensures.items ∙ ap (λ x. c.loop-k.settled.items ++ x) c.deref.ensures.value)
