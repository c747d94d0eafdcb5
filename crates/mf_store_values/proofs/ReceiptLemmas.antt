-- The keys of receipts: which rows have another, and that in no office one comes twice.
use Rattle.std.proofs.Common.{◌≡◌, ◌≢◌, ◌<◌, ℕ, false, List, [], ◌∷◌, map, sym, ap, ◌∙◌, arith}
use Rattle.std.proofs.Common.{Ordering, is_eq, nat_cmp, ◌==◌}
use Rattle.std.specs.List.{AllByRecursion}
use Rattle.std.specs.Cmp.Lexicographic.{slice_cmp}
use Rattle.std.specs.Ordering.{ordering_then}
use Rattle.std.specs.Str.{bytes_eq}
use Rattle.std.proofs.lemmas.Bool.{false_from_ne_true}
use Rattle.std.proofs.lemmas.Bool.Decides.{nat_tests, same_from_decides, Decides-like}
use Rattle.std.proofs.lemmas.Map.Text.{is_eq-slice_cmp}
use Rattle.std.proofs.lemmas.Slice.Eq.{bytes_eq-Decides}
use Rattle.sqlite_keyed.proofs.ListLemmas.{all-append, all-map, all_weaker}
use Rattle.mf_model.specs.Institution.{Institution, Office}
use Rattle.mf_model.specs.Receipts.{Use, uses_from, AreApart}
use Rattle.mf_model.specs.Sound.{IsSound, IsSoundOffice, is_staff}
use Rattle.mf_model.specs.Tree.{Above}
use Rattle.mf_store_schema.specs.Rows.{is_row_of_receipt}
use Rattle.mf_store_schema.specs.declared.receipts.ReceiptRow.{ReceiptRow}
use Rattle.mf_store_values.specs.ReceiptRows.{receipt_in, receipts_carried}

same_office : (x : ℕ) (o : Ordering) → ordering_then (nat_cmp x x) o ≡ o
same_office x o = grind (arith, nat_tests)

apart_office : (x y : ℕ) (o : Ordering) → (y == x) ≡ false → is_eq (ordering_then (nat_cmp x y) o) ≡ false
apart_office x y o h = grind (arith, nat_tests)

turned : (xs ys : List ℕ) → bytes_eq xs ys ≡ bytes_eq ys xs
turned xs ys = same_from_decides (bytes_eq xs ys) (bytes_eq ys xs) (bytes_eq-Decides xs ys)
    (Decides-like (bytes_eq ys xs) sym sym (bytes_eq-Decides ys xs))

-- within its office a receipt is found by its bytes
pub own_key : (x : ℕ) (r : List ℕ) (u : Use) → is_row_of_receipt x r (receipt_in x u) ≡ bytes_eq u.receipt r
own_key x r u = ap is_eq (same_office x (slice_cmp nat_cmp r u.receipt)) ∙ is_eq-slice_cmp r u.receipt
    ∙ turned r u.receipt

pub other_key : (x y : ℕ) (r : List ℕ) (u : Use) → (y == x) ≡ false → is_row_of_receipt x r (receipt_in y u) ≡ false
other_key x y r u h = apart_office x y (slice_cmp nat_cmp r u.receipt) h

-- no row of these uses has the key
abbrev pub AreOthers : ℕ → List ℕ → List ReceiptRow → Type 0
AreOthers x r rows = AllByRecursion (λ (row : ReceiptRow). is_row_of_receipt x r row ≡ false) rows

pub others_in : (x y : ℕ) (r : List ℕ) (us : List Use) → (y == x) ≡ false → AreOthers x r (map (receipt_in y) us)
others_in x y r us h = all-map _ (receipt_in y) (λ u. other_key x y r u h) us

pub others_above : (x : ℕ) (r : List ℕ) (fs : List Office) → Above x fs → AreOthers x r (receipts_carried fs)
others_above x r [] up = tt
others_above x r (f ∷ fs) up =
    let low : x < f.number = up.0 in
    let apart : (f.number == x) ≡ false = grind (arith, nat_tests) in
    all-append (λ (row : ReceiptRow). is_row_of_receipt x r row ≡ false)
    (map (receipt_in f.number) (uses_from 1 f.rows.loans))
    (receipts_carried fs) (others_in x f.number r (uses_from 1 f.rows.loans) apart) (others_above x r fs up.1)

pub apart_bytes : (xs ys : List ℕ) → xs ≢ ys → bytes_eq xs ys ≡ false
apart_bytes xs ys h = false_from_ne_true (bytes_eq xs ys) (λ e. h ((bytes_eq-Decides xs ys).0 e))

pub others_of : (x : ℕ) (r : List ℕ) (u : Use) (us : List Use) → u.receipt ≡ r → AllByRecursion (λ (v : Use). u.receipt
    ≢ v.receipt) us → AreOthers x r (map (receipt_in x) us)
others_of x r u [] is a = tt
others_of x r u (v ∷ us) is a =
    (own_key x r v ∙ apart_bytes v.receipt r (λ same. a.0 (is ∙ sym same)), others_of x r u us is a.1)

-- the receipts of each office are apart
abbrev pub AreAllApart : List Office → Type 0
AreAllApart fs = AllByRecursion (λ (f : Office). AreApart (uses_from 1 f.rows.loans)) fs

pub receipts_apart : (i : Institution) → IsSound i → AreAllApart i.offices
receipts_apart i sound = all_weaker (IsSoundOffice i.catalogue (is_staff i.offices))
    (λ (f : Office). AreApart (uses_from 1 f.rows.loans)) (λ f is. is.rows.receipts) i.offices sound.each
