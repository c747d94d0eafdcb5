use Rattle.std.proofs.Common.{◌↔◌, IsTrue, false, refl, sym, true≢false, rules}
use Rattle.std.specs.List.{Contains}
use Rattle.mf_store_values.specs.ReceiptRows.{receipt_of}
use Rattle.mf_store_values.proofs.AnswerLemmas.{no_answer}
use Rattle.mf_store_audit.proofs.receipts.is_carried.Goals as goal

pub returns-in-None : goal.returns-in-None
returns-in-None c =
    no_answer (λ carried.
    let called = c.in-None.ensures.none refl carried.0 carried.1 in
    let refused : IsTrue false ↔ Contains (receipt_of carried.0 carried.0.receipt) c.args.row.now = search rules in
    true≢false (sym (refused.1 carried.2)))
