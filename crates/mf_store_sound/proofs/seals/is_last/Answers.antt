use Rattle.std.proofs.Common.{sym}
use Rattle.mf_store_values.specs.Ledgers.{IsReadable}
use Rattle.mf_store_values.specs.Flat.{entry_in}
use Rattle.mf_store_sound.proofs.SealLemmas.{is_past_of, tested}
use Rattle.mf_store_sound.proofs.seals.is_last.Goals as goal

pub returns-then-not-is_past : goal.returns-then-not-is_past
returns-then-not-is_past c x m entries e p are r own =
    sym (tested (entry_in x m) (is_past_of e) IsReadable entries _ _ are _ (c.loop-row.invariant x m entries e p are r
    own) _ _ _ p c.loop-row-test.true c.row-item.is (λ f q its. c.is_past.ensures x m f e q its r own)
    c.if-not-is_past.true)

pub loop-row-preserved : goal.loop-row-preserved
loop-row-preserved c x m entries e p are r own =
    tested (entry_in x m) (is_past_of e) IsReadable entries _ _ are _ (c.loop-row.invariant x m entries e p are r own)
    _ _ _ p c.loop-row-test.true c.row-item.is (λ f q its. c.is_past.ensures x m f e q its r own)
    c.if-not-is_past.false
