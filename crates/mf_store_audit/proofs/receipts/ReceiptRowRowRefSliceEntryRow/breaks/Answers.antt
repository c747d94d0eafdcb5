use Rattle.std.proofs.Common.{◌↔◌, Bool, true, false, not, IsTrue, refl, subst}
use Rattle.std.specs.Prelude.{option_copied}
use Rattle.mf_store_audit.specs.Entries.{BreaksReceipt}
use Rattle.mf_store_audit.specs.declared.finding.ReceiptFlaw.{ReceiptFlaw}
use Rattle.mf_store_audit.proofs.receipts.ReceiptRowRowRefSliceEntryRow.breaks.Goals as goal

-- a test of what the condition rules out said no
refused : {P Q : Type 0} (b : Bool) → (IsTrue b ↔ P) → (Q → P → ⊥) → Q → IsTrue (not b)
refused true h apart q = absurd (apart q (h.0 refl))
refused false h apart q = refl

pub returns-in-Entry-clause-every : goal.returns-in-Entry-clause-every
returns-in-Entry-clause-every c decided broken =
    refused c.is_carried.result c.is_carried.ensures (λ never carried. never carried.0 carried.1 carried.2)
    (subst (λ (flaw : ReceiptFlaw). BreaksReceipt c.args.entries.now flaw (option_copied c.args.before)
    c.args.self.now) c.in-Entry.is broken)
