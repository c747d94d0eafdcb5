-- Receipts in the order of offices and bytes.
use Rattle.std.proofs.Common.{◌≡◌, ℕ, true, ◌&&◌, ◌==◌, List, refl, sym, ap, ap₂, ◌∙◌, arith, Ordering, Less, Equal}
use Rattle.std.proofs.Common.{Greater, is_eq, is_lt, nat_cmp, true≢false}
use Rattle.std.specs.Str.{bytes_eq}
use Rattle.std.proofs.lemmas.Bool.Decides.{nat_tests}
use Rattle.std.proofs.lemmas.Map.Text.{is_eq-slice_cmp}
use Rattle.mf_store_sql.proofs.CompareLemmas.{eq_then}
use Rattle.mf_store_schema.specs.Rows.{is_row_of_receipt, is_receipt_before}
use Rattle.mf_store_schema.specs.declared.receipts.ReceiptRow.{ReceiptRow}
use Rattle.mf_store_schema.proofs.OrderLemmas.{by_receipt_total}

pub less : (o : Ordering) → is_lt o ≡ true → o ≡ Less
less Less h = refl
less Equal h = absurd (true≢false (sym h))
less Greater h = absurd (true≢false (sym h))

pub before_later : (x y z : ReceiptRow) → is_receipt_before x y ≡ true → is_receipt_before y z ≡ true
    → is_receipt_before x z ≡ true
before_later x y z h k = ap is_lt (by_receipt_total.trans x y z (less _ h) (less _ k))

same_number : (a b : ℕ) → is_eq (nat_cmp a b) ≡ (a == b)
same_number a b = grind (arith, nat_tests)

-- the receipt that is found has the office and the very bytes
pub is_receipt-bytes : (office : ℕ) (receipt : List ℕ) (x : ReceiptRow) → is_row_of_receipt office receipt x
    ≡ ((office == x.office) && bytes_eq receipt x.receipt)
is_receipt-bytes office receipt x = eq_then (nat_cmp office x.office) _ ∙ ap₂ ◌&&◌ (same_number office x.office)
    (is_eq-slice_cmp receipt x.receipt)
