use Rattle.std.proofs.Common.{◌≡◌, IsTrue, ap, is_lt, rules}
use Rattle.std.proofs.lemmas.List.Sorted.{ranks_by, answers_always}
use Rattle.mf_store_schema.specs.Rows.{by_receipt}
use Rattle.mf_store_schema.specs.declared.receipts.ReceiptRow.{ReceiptRow}
use Rattle.mf_store_schema.proofs.OrderLemmas.{by_receipt_total}
use Rattle.mf_store_sound.proofs.ReceiptLemmas.{receipts_are}
use Rattle.mf_store_sound.proofs.receipts.are_receipts.Goals as goal

pub returns-clause-exact : goal.returns-clause-exact
returns-clause-exact c =
    let rows = (c.in_ok-rows.ensures {u = tt}).rows in
    receipts_are c.args.entries.now c.sort_unstable_by.new.self.items c.args.receipts.now
    (IsTrue c.are_same-same.result) (c.is_ascending.ensures.0 c.if-not-is_ascending.false)
    (rw rows at c.sort_unstable_by.ensures.permutation)
    (c.sort_unstable_by.ensures.sorted (λ row other. is_lt (by_receipt row other))
    (ranks_by by_receipt_total (λ (r : ReceiptRow). r)) (answers_always _ _ _ (λ f a r g called.
    ap is_lt (let is : r ≡ by_receipt a.0.now a.1.0.now = search rules in is))))
    (rw c.deref.ensures.value at c.are_same-same.ensures)
