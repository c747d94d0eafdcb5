-- The rows of receipts: one found by its key, and what becomes of them when the institution changes.
use Rattle.std.proofs.Common.{◌≡◌, ◌≢◌, ◌≤◌, ◌+◌, ℕ, Bool, true, false, List, [], ◌∷◌, ◌++◌, map, find, filter, length}
use Rattle.std.proofs.Common.{slice_get, None, Some, inl, inr, refl, sym, ap, ◌∙◌, subst, arith, true≢false}
use Rattle.std.proofs.Common.{append_assoc, Ordering, Less, Equal, Greater, is_eq, is_gt, IsPermutation}
use Rattle.std.proofs.lemmas.Bool.{cases_Bool, true_from_ne_false, both_ways}
use Rattle.std.proofs.lemmas.Cmp.{upto}
use Rattle.std.proofs.lemmas.List.Elements.{recursion_from_All, All-from_recursion}
use Rattle.std.proofs.lemmas.List.Sorted.{length_permutation, All-permutation}
use Rattle.std.proofs.lemmas.Slice.Eq.{bytes_eq-Decides}
use Rattle.std.specs.Cmp.{IsTotalOrder}
use Rattle.std.specs.List.{AllByRecursion}
use Rattle.std.specs.Option.{option_map}
use Rattle.std.specs.Ordering.{ordering_reverse}
use Rattle.std.specs.Str.{bytes_eq}
use Rattle.sqlite_keyed.proofs.ListLemmas.{all_of, slice_get-filter, filter_none, IsPermutation-filter}
use Rattle.sqlite_keyed.proofs.SortLemmas.{IsPermutation-sort_by}
use Rattle.sqlite_keyed.specs.Lists.{insert_sorted, sort_by}
use Rattle.mf_account.specs.declared.entry.Entry.{Entry}
use Rattle.mf_model.proofs.ReceiptLemmas.{IsPut, uses_in_push}
use Rattle.mf_model.specs.Institution.{Institution, Ledger, Office, Rows, office_at, with_rows, with_office, no_rows}
use Rattle.mf_model.specs.Institution.{item_numbered, with_numbered}
use Rattle.mf_model.specs.Loans.{with_entries}
use Rattle.mf_model.specs.Receipts.{Use, use_by, use_of, uses_in, uses_from, first_use, AreApart}
use Rattle.mf_model.specs.Sound.{IsSound, is_staff}
use Rattle.mf_model.specs.Store.{rows_of, use_at}
use Rattle.mf_model.specs.Tree.{Ascending}
use Rattle.mf_store_sql.specs.Keep.{put_item}
use Rattle.mf_store_schema.proofs.OrderLemmas.{by_receipt_total}
use Rattle.mf_store_schema.specs.Rows.{by_receipt, is_row_of_receipt}
use Rattle.mf_store_schema.specs.declared.receipts.ReceiptRow.{ReceiptRow}
use Rattle.mf_store_values.proofs.BlockLemmas.{Around, in_blocks, blocks_from, numbered_around, office_around}
use Rattle.mf_store_values.proofs.BlockLemmas.{around_mapped, within, blocks_same, blocks_new, filter_office, seen}
use Rattle.mf_store_values.proofs.PutLemmas.{none_dropped}
use Rattle.mf_store_values.proofs.ReceiptLemmas.{apart_bytes, own_key, AreOthers, others_in, others_of}
use Rattle.mf_store_values.proofs.SortedLemmas.{all_sorted}
use Rattle.mf_store_values.proofs.SoundLemmas.{office_sound}
use Rattle.mf_store_values.specs.ReceiptRows.{receipt_in, receipts_carried, receipt_rows}

-- ---- rows in the order of their key

-- one thing alone has one order
alone : {X : Type 0} (xs ys : List X) → IsPermutation xs ys → length ys ≤ 1 → xs ≡ ys
alone [] [] same few = refl
alone (x ∷ []) (y ∷ []) same few = ap (λ z. z ∷ []) (recursion_from_All (λ z. x ≡ z) (y ∷ []) (All-permutation
    (λ z. x ≡ z) (x ∷ []) (y ∷ []) same (All-from_recursion (λ z. x ≡ z) (x ∷ []) (refl, tt)))).0
alone xs ys same few = let long = length_permutation xs ys same in absurd (omega (arith, long, few))

module _ {X : Type 0} (cmp : X → X → Ordering) (total : IsTotalOrder cmp) where
  -- where one row at most passes, it is found wherever it stands
  find_sorted : (p : X → Bool) (xs : List X) → length (filter p xs) ≤ 1 → find p (sort_by cmp xs) ≡ find p xs
  find_sorted p xs few = sym (slice_get-filter p (sort_by cmp xs)) ∙ ap (λ l. slice_get l 0)
      (alone (filter p (sort_by cmp xs)) (filter p xs) (IsPermutation-filter p (sort_by cmp xs) xs
      (IsPermutation-sort_by cmp total xs)) few) ∙ slice_get-filter p xs

  turned : (r s : X) → cmp r s ≡ Less → cmp s r ≡ Greater
  turned r s h = total.antisymm s r ∙ ap ordering_reverse h

  -- what is above a row is above what that row is above
  still_above : (r s x : X) → cmp r s ≡ Less → is_gt (cmp r x) ≡ true → is_gt (cmp s x) ≡ true
  still_above r s x h k = true_from_ne_false (is_gt (cmp s x))
      (λ low. both_ways (is_gt (cmp r x)) (upto total r s x (ap is_gt h) low) k)

  -- two rows are put in either order
  in_order : (r s : X) (xs : List X) → cmp r s ≡ Less → insert_sorted cmp r (insert_sorted cmp s xs)
      ≡ insert_sorted cmp s (insert_sorted cmp r xs)
  in_order r s [] h = rw (h, turned r s h)
  in_order r s (x ∷ xs) h = elim (cases_Bool (is_gt (cmp r x))) [
    | inl e ↦ rw (still_above r s x h e, e, still_above r s x h e) (ap (λ l. x ∷ l) (in_order r s xs h))
    | inr e ↦ elim (cases_Bool (is_gt (cmp s x))) [
      | inl k ↦ rw (k, e, turned r s h, k)
      | inr k ↦ rw (k, h, e, turned r s h, k)
    ]
  ]

  inserted_twice : (r s : X) (xs : List X) → is_eq (cmp r s) ≡ false → insert_sorted cmp r (insert_sorted cmp s xs)
      ≡ insert_sorted cmp s (insert_sorted cmp r xs)
  inserted_twice r s xs h = go (cmp r s) refl h
    where
      go : (o : Ordering) → cmp r s ≡ o → is_eq o ≡ false → insert_sorted cmp r (insert_sorted cmp s xs)
          ≡ insert_sorted cmp s (insert_sorted cmp r xs)
      go Less e h = in_order r s xs e
      go Equal e h = absurd (true≢false h)
      go Greater e h = sym (in_order s r xs (total.antisymm s r ∙ ap ordering_reverse e))

  moved : (r : X) (xs ys : List X) → AllByRecursion (λ y. is_eq (cmp r y) ≡ false) (xs ++ ys)
      → sort_by cmp (r ∷ (xs ++ ys)) ≡ sort_by cmp (xs ++ r ∷ ys)
  moved r [] ys all = refl
  moved r (x ∷ xs) ys all = inserted_twice r x (sort_by cmp (xs ++ ys)) all.0 ∙ ap (insert_sorted cmp x)
      (moved r xs ys all.1)

  -- one row more in the list that is sorted, with a new key
  put_among : (r : X) (xs ys : List X) → AllByRecursion (λ y. is_eq (cmp r y) ≡ false) (xs ++ ys)
      → put_item cmp r (sort_by cmp (xs ++ ys)) ≡ sort_by cmp (xs ++ r ∷ ys)
  put_among r xs ys all = ap (insert_sorted cmp r) (none_dropped cmp r (sort_by cmp (xs ++ ys))
      (all_sorted cmp (λ y. is_eq (cmp r y) ≡ false) (xs ++ ys) all)) ∙ moved r xs ys all

-- ---- one receipt found

-- the rows of one office's receipts, before all are sorted
abbrev block : ℕ → Rows → List ReceiptRow
block x rows = map (receipt_in x) (uses_from 1 rows.loans)

in_carried : (fs : List Office) → receipts_carried fs ≡ in_blocks block fs
in_carried [] = refl
in_carried (f ∷ fs) = ap (λ l. block f.number f.rows ++ l) (in_carried fs)

module _ (x : ℕ) (r : List ℕ) where
  found_in_office : (us : List Use) → find (is_row_of_receipt x r) (map (receipt_in x) us)
      ≡ option_map (receipt_in x) (first_use r us)
  found_in_office [] = refl
  found_in_office (u ∷ us) = elim (cases_Bool (bytes_eq u.receipt r)) [
    | inl e ↦ rw (own_key x r u, e)
    | inr e ↦ rw (own_key x r u, e) (found_in_office us)
  ]

  -- no key comes twice
  once_in_office : (us : List Use) → AreApart us → length (filter (is_row_of_receipt x r) (map (receipt_in x) us)) ≤ 1
  once_in_office [] apart = omega arith
  once_in_office (u ∷ us) apart = elim (cases_Bool (bytes_eq u.receipt r)) [
    | inl e ↦ rw (own_key x r u, e) (rw (filter_none (is_row_of_receipt x r) (map (receipt_in x) us)
        (others_of x r u us ((bytes_eq-Decides u.receipt r).0 e) apart.0)) (omega arith))
    | inr e ↦ rw (own_key x r u, e) (once_in_office us apart.1)
  ]

  -- only rows of the office have the key
  in_office : (fs : List Office) → Ascending fs → filter (is_row_of_receipt x r) (receipts_carried fs)
      ≡ filter (is_row_of_receipt x r) (block x (rows_of (office_at x fs)))
  in_office fs up = ap (filter (is_row_of_receipt x r)) (in_carried fs) ∙ filter_office block (is_row_of_receipt x r) x
      (λ y rows other. others_in x y r (uses_from 1 rows.loans) other) refl fs up

  found : (fs : List Office) → Ascending fs → find (is_row_of_receipt x r) (receipts_carried fs)
      ≡ option_map (receipt_in x) (first_use r (uses_from 1 (rows_of (office_at x fs)).loans))
  found fs up = sym (slice_get-filter (is_row_of_receipt x r) (receipts_carried fs)) ∙ ap (λ l. slice_get l 0)
      (in_office fs up) ∙ slice_get-filter (is_row_of_receipt x r) (block x (rows_of (office_at x fs)))
      ∙ found_in_office (uses_from 1 (rows_of (office_at x fs)).loans)

-- the row of a receipt is the one of the entry that carries it
pub receipt_found : (x : ℕ) (r : List ℕ) (i : Institution) → IsSound i
    → find (is_row_of_receipt x r) (receipt_rows i.offices)
    ≡ option_map (receipt_in x) (use_at x r i)
receipt_found x r i sound =
    let up = sound.tree.ascending in
    let own = office_sound i.catalogue (is_staff i.offices) x i.offices sound.each in
    find_sorted by_receipt by_receipt_total (is_row_of_receipt x r) (receipts_carried i.offices)
    (subst (λ l. length l ≤ 1) (sym (in_office x r i.offices up)) (once_in_office x r _ own.receipts))
    ∙ found x r i.offices up

-- ---- where no entry changes

-- the same receipts of an office
pub same_receipts_of : (x : ℕ) (new : Rows) (fs : List Office) → Ascending fs → uses_from 1 new.loans
    ≡ uses_from 1 (rows_of (office_at x fs)).loans → receipt_rows fs ≡ receipt_rows (with_rows x new fs)
same_receipts_of x new fs up is = ap (sort_by by_receipt) (in_carried fs
    ∙ blocks_same block x new fs up (ap (map (receipt_in x)) is) ∙ sym (in_carried (with_rows x new fs)))

-- a new office has none
pub no_receipts_in : (new : Office) (fs : List Office) → new.rows ≡ no_rows → receipt_rows fs
    ≡ receipt_rows (with_office new fs)
no_receipts_in new fs is = ap (sort_by by_receipt) (in_carried fs
    ∙ blocks_new block new fs (ap (block new.number) is) ∙ sym (in_carried (with_office new fs)))

-- ---- one entry more

abbrev Any : {A : Type 0} → A → Type 0
Any a = Unit {0}

-- what stands apart from the others was not used among them
not_used : (r : List ℕ) (xs ys : List Use) (u : Use) → u.receipt ≡ r → AreApart (xs ++ u ∷ ys) → first_use r (xs ++ ys)
    ≡ None
not_used r [] [] u is a = refl
not_used r [] (v ∷ ys) u is a =
    rw (apart_bytes v.receipt r (λ same. a.0.0 (is ∙ sym same))) (not_used r [] ys u is (a.0.1, a.1.1))
not_used r (v ∷ xs) ys u is a =
    rw (apart_bytes v.receipt r (λ same. other xs a.0 (same ∙ sym is))) (not_used r xs ys u is a.1)
  where
    other : (xs : List Use) → AllByRecursion (λ (w : Use). v.receipt ≢ w.receipt) (xs ++ u ∷ ys) → v.receipt ≢ u.receipt
    other [] a = a.0
    other (x ∷ xs) a = other xs a.1

others_found : (x : ℕ) (r : List ℕ) (rows : List ReceiptRow) → find (is_row_of_receipt x r) rows ≡ None
    → AreOthers x r rows
others_found x r [] h = tt
others_found x r (row ∷ rows) h = elim (cases_Bool (is_row_of_receipt x r row)) [
  | inl e ↦ absurd (let k = rw e at h in cc)
  | inr e ↦ (e, others_found x r rows (rw e at h))
]

module _ (x n : ℕ) (e : Entry) (es : List Entry) (l : Ledger) (new : Rows) (fs : List Office) (up : Ascending fs)
    (at : item_numbered (rows_of (office_at x fs)).loans n ≡ Some l)
    (is : new.loans ≡ with_numbered n (with_entries es) (rows_of (office_at x fs)).loans)
    (are : es ≡ l.entries ++ e ∷ [])
  where
    -- a receipt of one loan more: where it stands among those of its office
    entered : IsPut (uses_from 1 (rows_of (office_at x fs)).loans) (uses_from 1 new.loans) (use_of e.receipt n e)
    entered =
        let ls = (rows_of (office_at x fs)).loans in
        let w = numbered_around uses Any Any n (λ m k low. all_of Any (λ u. tt) (uses m k))
        (λ m k high. all_of Any (λ u. tt) (uses m k)) (with_entries es) l ls at in
        record {
          before = w.first ++ uses_in n l.entries;
          after = w.last;
          old_is = in_uses 1 ls ∙ w.old_is ∙ simp append_assoc;
          new_is = ap (uses_from 1) is ∙ in_uses 1 (with_numbered n (with_entries es) ls) ∙ w.new_is
              ∙ rw (are, uses_in_push n e l.entries) (simp append_assoc);
        }
      where
        uses : ℕ → Ledger → List Use
        uses m k = uses_in m k.entries

        in_uses : (m : ℕ) (ls : List Ledger) → uses_from m ls ≡ blocks_from uses m ls
        in_uses m [] = refl
        in_uses m (k ∷ ls) = ap (λ us. uses m k ++ us) (in_uses (m + 1) ls)

    -- an entry that carries none leaves the rows as they are
    pub no_receipt_put : e.receipt ≡ None → receipt_rows fs ≡ receipt_rows (with_rows x new fs)
    no_receipt_put none = same_receipts_of x new fs up (entered.new_is
        ∙ ap (λ o. entered.before ++ (use_of o n e ++ entered.after)) none ∙ sym entered.old_is)

    module _ (r : List ℕ) (some : e.receipt ≡ Some r) (apart : AreApart (uses_from 1 new.loans)) where
      abbrev used : Use
      used = record { receipt = r; by = use_by n e }

      new_is : uses_from 1 new.loans ≡ entered.before ++ used ∷ entered.after
      new_is = entered.new_is ∙ ap (λ o. entered.before ++ (use_of o n e ++ entered.after)) some

      -- no entry of its office carried the receipt before
      pub receipt_free : first_use r (uses_from 1 (rows_of (office_at x fs)).loans) ≡ None
      receipt_free = ap (first_use r) entered.old_is
          ∙ not_used r entered.before entered.after used refl (subst AreApart new_is apart)

      at_rows : Around Any Any (receipts_carried fs) (receipts_carried (with_rows x new fs)) [] (receipt_in x used ∷ [])
      at_rows =
          let there = seen (λ rows. rows.loans) refl (λ y m k. uses_in m k.entries) x n l fs at in
          rw (in_carried fs, in_carried (with_rows x new fs)) (within Any Any (office_around block Any Any x
          (λ y rows low. all_of Any (λ s. tt) (block y rows)) (λ y rows high. all_of Any (λ s. tt) (block y rows)) new
          fs up there) (around_mapped (receipt_in x) {block = []} {changed = used ∷ []} (record {
            first = entered.before;
            last = entered.after;
            old_is = entered.old_is;
            new_is = new_is;
            before = all_of Any (λ u. tt) entered.before;
            after = all_of Any (λ u. tt) entered.after;
          })))

      -- one that carries a receipt puts its row
      pub receipt_put : put_item by_receipt (receipt_in x used) (receipt_rows fs) ≡ receipt_rows (with_rows x new fs)
      receipt_put =
          let others = others_found x r (receipts_carried fs) (found x r fs up ∙ ap (option_map (receipt_in x))
          receipt_free) in
          rw (at_rows.old_is, at_rows.new_is) (put_among by_receipt by_receipt_total (receipt_in x used) at_rows.first
          at_rows.last (subst (AreOthers x r) at_rows.old_is others))
