use Rattle.std.proofs.Common.{drop}
use Rattle.mf_account.specs.Account.{Orders, orders_by}
use Rattle.mf_account.specs.Standing.{entries_at}
use Rattle.mf_account.proofs.ApplyLemmas.{IsApplied}
use Rattle.mf_account.proofs.replay.apply_all.Given as goal

abbrev pub invariant-loop-k : goal.invariant-loop-k
invariant-loop-k g l =
    let orders : Orders = orders_by (g.T.Strategy.cell_at l.strategy) l.fn.book.rows in
    IsApplied orders l.fn.book (entries_at l.entries l.order) (entries_at l.entries (drop l.k l.order)) l.book
    l.settled.items
