use Rattle.std.proofs.Common.{sym}
use Rattle.mf_account.proofs.ReceiptLemmas.{receipt_is_text}
use Rattle.mf_sheet_lines.proofs.fields.receipt.Goals as goal

pub unreachable-requires : goal.unreachable-requires
unreachable-requires c = c.in-Err.ensures.cases.0 (receipt_is_text c.args.text.now (sym c.if-not-is_receipt.ensures))
