-- The receipts that entries carry, and their rows in the order of their key, where no key comes twice.
use Rattle.std.proofs.Common.{◌≡◌, ◌↔◌, ◌<◌, ◌≤◌, ◌+◌, ◌-◌, ◌∙◌, ◌&&◌, ℕ, suc, true, false, List, [], ◌∷◌}
use Rattle.std.proofs.Common.{◌++◌, map, length, get_or, Option, Some, None, refl, sym, ap, subst, arith, Ordering}
use Rattle.std.proofs.Common.{Less, Equal, Greater, is_eq, is_lt, true≢false, IsPermutation, IsSorted}
use Rattle.std.specs.Cmp.{IsTotalOrder}
use Rattle.std.specs.Ordering.{ordering_reverse}
use Rattle.std.proofs.lemmas.Bool.{eq-eqb}
use Rattle.std.proofs.lemmas.List.{get_or_default, map-append}
use Rattle.std.proofs.lemmas.List.Concat.{flat_map-append}
use Rattle.std.proofs.lemmas.List.Sorted.{IsPermutation-refl, IsPermutation-sym, IsPermutation-trans}
use Rattle.std.proofs.lemmas.List.Sorted.{IsPermutation-cons, IsPermutation-append_left, IsPermutation-append_comm}
use Rattle.std.proofs.lemmas.Slice.Eq.{bytes_eq-Decides}
use Rattle.sqlite_keyed.proofs.ListLemmas.{all_weaker, ascending_weaker, along_permutation, ascending-append}
use Rattle.sqlite_keyed.proofs.ListLemmas.{ascending-map, ascending_from_map, all_of, all_map}
use Rattle.sqlite_keyed.proofs.SortLemmas.{sorted_unique, sorted_is-sort_by, IsPermutation-sort_by}
use Rattle.sqlite_keyed.specs.Lists.{sort_by}
use Rattle.sqlite_trees.specs.Tree.{IsAscending}
use Rattle.sqlite_trees.proofs.ListLemmas.{all-permutation, ascending-get_or}
use Rattle.mf_account.specs.declared.entry.Entry.{Entry}
use Rattle.mf_model.specs.Institution.{Ledger, Office}
use Rattle.mf_model.specs.Receipts.{Use, use_of, uses_in, uses_from}
use Rattle.mf_model.specs.Tree.{Ascending}
use Rattle.mf_store_schema.specs.Rows.{by_receipt, is_row_of_receipt, is_receipt_before, AreReceiptsInOrder}
use Rattle.mf_store_schema.specs.declared.entries.EntryRow.{EntryRow}
use Rattle.mf_store_schema.specs.declared.receipts.ReceiptRow.{ReceiptRow}
use Rattle.mf_store_schema.proofs.ReceiptLemmas.{less, before_later, is_receipt-bytes}
use Rattle.mf_store_schema.proofs.OrderLemmas.{by_receipt_total}
use Rattle.mf_store_values.specs.Flat.{entry_in, own_entries, rows_of_loans, entry_rows}
use Rattle.mf_store_values.specs.ReceiptRows.{receipt_in, receipts_carried, receipt_rows, receipt_of, carried_by}
use Rattle.mf_store_values.specs.ReceiptRows.{AreReceiptsOf}
use Rattle.mf_store_values.proofs.ReceiptLemmas.{apart_bytes, own_key, others_above, AreAllApart}
use Rattle.mf_store_values.proofs.SortedLemmas.{rises_sorted}
use Rattle.mf_store_sound.proofs.SearchLemmas.{rising_is_sorted}
use Rattle.mf_store_sound.proofs.StoredLemmas.{ascending_parts}

-- ---- the receipts that rows of entries carry

carried_append : (xs ys : List EntryRow) → carried_by (xs ++ ys) ≡ carried_by xs ++ carried_by ys
carried_append xs ys = flat_map-append (λ (r : EntryRow). receipt_of r r.receipt) xs ys

carried_in : (x n : ℕ) (es : List Entry) → carried_by (map (entry_in x n) es) ≡ map (receipt_in x) (uses_in n es)
carried_in x n [] = refl
carried_in x n (e ∷ es) =
    elim e.receipt as (λ (o : Option (List ℕ)). receipt_of (entry_in x n e) o ++ carried_by (map (entry_in x n) es)
    ≡ map (receipt_in x) (use_of o n e ++ uses_in n es)) [
      | None ↦ carried_in x n es
      | Some r ↦ ap (λ rest. record { office = x; receipt = r; loan = n; seq = e.seq } ∷ rest) (carried_in x n es)
    ]

carried_from : (x n : ℕ) (ls : List Ledger) → carried_by (rows_of_loans entry_in own_entries x n ls)
    ≡ map (receipt_in x) (uses_from n ls)
carried_from x n [] = refl
carried_from x n (l ∷ ls) =
    carried_append (map (entry_in x n) l.entries) _
    ∙ (λ t. carried_in x n l.entries t ++ carried_from x (n + 1) ls t) ∙ sym (map-append (receipt_in x) _ _)

-- the receipts of the offices' entries are those that the rows of these entries carry
pub carried_is : (fs : List Office) → receipts_carried fs ≡ carried_by (entry_rows fs)
carried_is [] = refl
carried_is (f ∷ fs) = (λ t. sym (carried_from f.number 1 f.rows.loans) t ++ carried_is fs t)
    ∙ sym (carried_append (rows_of_loans entry_in own_entries f.number 1 f.rows.loans) (entry_rows fs))

-- ---- lists with no ties

reversed_eq : (o : Ordering) → is_eq (ordering_reverse o) ≡ is_eq o
reversed_eq Less = refl
reversed_eq Equal = refl
reversed_eq Greater = refl

module _ {X : Type 0} (cmp : X → X → Ordering) (total : IsTotalOrder cmp) where
  abbrev pub Rises : List X → Type 0
  Rises = IsAscending (λ a b. cmp a b ≡ Less)

  abbrev pub NoTies : List X → Type 0
  NoTies = IsAscending (λ a b. is_eq (cmp a b) ≡ false)

  -- no order of a list has ties where one has none
  no_ties_permuted : (xs ys : List X) → IsPermutation xs ys → NoTies xs → NoTies ys
  no_ties_permuted xs ys same = (along_permutation (λ us vs. IsPermutation us vs × (NoTies us → NoTies vs))
      (λ us. (IsPermutation-refl us, λ up. up))
      (λ x us vs h. (
        IsPermutation-cons x us vs h.0,
        λ up. (all-permutation (λ y. is_eq (cmp x y) ≡ false) us vs h.0 up.0, h.1 up.1),
      ))
      (λ x y us. (
        IsPermutation-append_left us (x ∷ y ∷ []) (y ∷ x ∷ []) (IsPermutation-append_comm (x ∷ []) (y ∷ [])),
        λ up. ((ap is_eq (total.antisymm y x) ∙ reversed_eq (cmp x y) ∙ up.0.0, up.1.0), (up.0.1, up.1.1)),
      ))
      (λ us vs ws h k. (IsPermutation-trans us vs ws h.0 k.0, λ up. k.1 (h.1 up))) xs ys same).1

  no_ties : (xs : List X) → Rises xs → NoTies xs
  no_ties xs up = ascending_weaker _ _ (λ a b h. ap is_eq h) xs up

  -- what rises is what a list is sorted to
  pub sorts_to : (xs ys : List X) → Rises ys → IsPermutation xs ys → sort_by cmp xs ≡ ys
  sorts_to xs ys up same = sym (sorted_is-sort_by cmp total xs ys (no_ties_permuted ys xs (IsPermutation-sym xs ys same)
      (no_ties ys up)) same (rising_is_sorted cmp total ys up))

  -- where the sorted list rises there are no ties
  pub none_tied : (xs : List X) → Rises (sort_by cmp xs) → NoTies xs
  none_tied xs up =
      no_ties_permuted (sort_by cmp xs) xs (IsPermutation-sort_by cmp total xs) (no_ties (sort_by cmp xs) up)

rises_in_order : (rows : List ReceiptRow) → AreReceiptsInOrder rows → Rises by_receipt by_receipt_total rows
rises_in_order rows up = ascending_weaker _ _ (λ a b h. less (by_receipt a b) h) rows up

-- ---- the rows sorted, and those that are stored

pub receipts_are : (entries : List EntryRow) (sorted receipts : List ReceiptRow) (B : Type 0)
    → AreReceiptsInOrder receipts → IsPermutation (carried_by entries) sorted → IsSorted by_receipt sorted
    → (B ↔ (sorted ≡ receipts)) → B ↔ AreReceiptsOf receipts entries
receipts_are entries sorted receipts B up same order h = (
  λ yes. record {
    in_order = up;
    rows_are = sorts_to by_receipt by_receipt_total (carried_by entries) receipts
        (rises_in_order receipts up) (subst (IsPermutation (carried_by entries)) (h.0 yes) same);
  },
  λ of. h.1 (
      sorted_unique by_receipt by_receipt_total receipts sorted (rises_in_order receipts up)
      (subst (λ rows. IsPermutation rows sorted) of.rows_are (IsPermutation-trans _ _ _
      (IsPermutation-sort_by by_receipt by_receipt_total (carried_by entries)) same)) order
      ),
)

-- ---- rows that rise, one beside the next

abbrev pub RisesTo : List ReceiptRow → ℕ → Type 0
RisesTo rows i = (k : ℕ) (d : ReceiptRow) → suc k < i → is_receipt_before (get_or rows k d) (get_or rows (suc k) d)
    ≡ true

rise_all : (rows : List ReceiptRow) → RisesTo rows (length rows) → AreReceiptsInOrder rows
rise_all [] h = tt
rise_all (x ∷ []) h = (tt, tt)
rise_all (x ∷ y ∷ ys) h =
    let more = rise_all (y ∷ ys) (λ k d below. h (suc k) d (omega arith)) in
    let first : is_receipt_before x y ≡ true = h 0 x (omega arith) in (
      (
        first,
        all_weaker (λ z. is_receipt_before y z ≡ true) (λ z. is_receipt_before x z ≡ true)
            (λ z later. before_later x y z first later) ys more.0,
      ),
      more,
    )

pub rose : (rows : List ReceiptRow) (i : ℕ) → length rows ≤ i → RisesTo rows i → AreReceiptsInOrder rows
rose rows i h all = rise_all rows (λ k d below. all k d (omega arith))

pub rises_not : (rows : List ReceiptRow) (i : ℕ) (x y : ReceiptRow) → 1 ≤ i → i < length rows
    → x ≡ get_or rows (i - 1) x → y ≡ get_or rows i y → is_receipt_before x y ≡ false → AreReceiptsInOrder rows → ⊥
rises_not rows i x y some inside is_x is_y before up =
    true≢false (sym (ascending-get_or (λ a b. is_receipt_before a b ≡ true) rows (i - 1) i x up (omega arith) inside)
    ∙ (λ t. is_receipt_before (sym is_x t) ((get_or_default rows i x y inside ∙ sym is_y) t)) ∙ before)

-- ---- the receipts of offices

receipt_itself : (x : ℕ) (u v : Use) → u.receipt ≡ v.receipt → is_row_of_receipt x u.receipt (receipt_in x v) ≡ true
receipt_itself x u v is = is_receipt-bytes x u.receipt (receipt_in x v)
    ∙ (λ t. eq-eqb x x refl t && (bytes_eq-Decides u.receipt v.receipt).1 is t)

-- no key comes twice
pub no_ties_of : (fs : List Office) → Ascending fs → AreAllApart fs → NoTies by_receipt by_receipt_total
    (receipts_carried fs)
no_ties_of [] up apart = tt
no_ties_of (f ∷ fs) up apart =
    let us = uses_from 1 f.rows.loans in
    ascending-append _ (map (receipt_in f.number) us) (receipts_carried fs)
    (ascending-map _ (receipt_in f.number) us (ascending_weaker _ _ (λ u v other. own_key f.number u.receipt v
    ∙ apart_bytes v.receipt u.receipt (λ same. other (sym same))) us apart.0))
    (no_ties_of fs up.1 apart.1)
    (all_map _ (receipt_in f.number) us (all_of _ (λ u. others_above f.number u.receipt fs up.0) us))

apart_of : (fs : List Office) → NoTies by_receipt by_receipt_total (receipts_carried fs) → AreAllApart fs
apart_of [] none = tt
apart_of (f ∷ fs) none =
    let us = uses_from 1 f.rows.loans in
    let both = ascending_parts (λ a b. is_eq (by_receipt a b) ≡ false) (map (receipt_in f.number) us) _ none in (
      ascending_weaker _ _ (λ u v other is. true≢false (sym (receipt_itself f.number u v is) ∙ other)) us
          (ascending_from_map _ (receipt_in f.number) us both.0),
      apart_of fs both.1,
    )

-- no office has a receipt twice just where their rows rise
pub in_order_apart : (fs : List Office) → Ascending fs → AreAllApart fs → AreReceiptsInOrder (receipt_rows fs)
in_order_apart fs up apart = ascending_weaker _ _ (λ a b h. ap is_lt h) (receipt_rows fs)
    (rises_sorted by_receipt by_receipt_total (receipts_carried fs) (no_ties_of fs up apart))

pub apart_in_order : (fs : List Office) → AreReceiptsInOrder (receipt_rows fs) → AreAllApart fs
apart_in_order fs up =
    apart_of fs (none_tied by_receipt by_receipt_total (receipts_carried fs) (rises_in_order (receipt_rows fs) up))
