use Rattle.std.proofs.Common.{sym}
use Rattle.mf_store_values.specs.Ledgers.{IsReadable}
use Rattle.mf_store_values.specs.Flat.{entry_in}
use Rattle.mf_store_sound.proofs.SealLemmas.{is_in_order_of, tested}
use Rattle.mf_store_sound.proofs.seals.are_seals_last.Goals as goal

pub returns-then-not-is_in_order : goal.returns-then-not-is_in_order
returns-then-not-is_in_order c x m entries p are =
    sym (tested (entry_in x m) (is_in_order_of entries) IsReadable entries _ _ are _ (c.loop-row.invariant x m entries p
    are) _ _ _ p c.loop-row-test.true c.row-item.is (λ e q its. c.is_in_order.ensures x m entries e p are q its)
    c.if-not-is_in_order.true)

pub loop-row-preserved : goal.loop-row-preserved
loop-row-preserved c x m entries p are =
    tested (entry_in x m) (is_in_order_of entries) IsReadable entries _ _ are _ (c.loop-row.invariant x m entries p are)
    _ _ _ p c.loop-row-test.true c.row-item.is (λ e q its. c.is_in_order.ensures x m entries e p are q its)
    c.if-not-is_in_order.false
