use Rattle.std.proofs.Common.{◌≡◌, ◌↔◌, IsTrue, false, refl, sym, true≢false, rules}
use Rattle.mf_store_values.proofs.AnswerLemmas.{no_answer}
use Rattle.mf_store_schema.specs.declared.receipts.ReceiptRow.{ReceiptRow}
use Rattle.mf_store_audit.proofs.receipts.is_there.Goals as goal

pub returns-in-None : goal.returns-in-None
returns-in-None c =
    no_answer (λ there.
    let row : ReceiptRow = record {
      office = c.args.entry.now.office;
      receipt = c.args.receipt.now;
      loan = c.args.entry.now.loan;
      seq = c.args.entry.now.seq;
    } in
    let called = c.in-None.ensures.none refl row there in
    let refused : IsTrue false ↔ (row ≡ row) = search rules in
    true≢false (sym (refused.1 refl)))
