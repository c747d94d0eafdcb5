-- Staff by office and number, in rows in this order.
use Rattle.std.proofs.Common.{◌≡◌, ◌<◌, ◌≤◌, ◌+◌, ◌-◌, ◌∙◌, ◌||◌, ℕ, zero, suc, Bool, true, false, cond, List, [], ◌∷◌}
use Rattle.std.proofs.Common.{length, slice_get, None, Some, Ok, Err, refl, sym, ap, subst, arith}
use Rattle.std.proofs.Common.{Ordering, Less, is_eq, nat_cmp, ◌==◌}
use Rattle.std.proofs.Math.Bool.{or-false}
use Rattle.std.specs.List.{list_any}
use Rattle.std.specs.List.Sorted.{IsBinarySearchResult}
use Rattle.std.specs.Option.{is_some}
use Rattle.std.specs.Ordering.{ordering_then}
use Rattle.std.specs.Cmp.{IsTotalOrder}
use Rattle.std.proofs.lemmas.Bool.{ne_eqb}
use Rattle.std.proofs.lemmas.Bool.Decides.{nat_tests}
use Rattle.std.proofs.lemmas.Cmp.{on_total, then_total, nat_cmp_total}
use Rattle.std.proofs.lemmas.List.Folds.{list_any-append, list_any_at, list_any_none}
use Rattle.sqlite_trees.specs.Tree.{IsAscending}
use Rattle.mf_model.specs.Institution.{Office, Staff, office_at, item_numbered}
use Rattle.mf_model.specs.Sound.{is_staff}
use Rattle.mf_model.specs.Tree.{Above, Ascending}
use Rattle.mf_store_schema.specs.Rows.{by_staff}
use Rattle.mf_store_schema.specs.declared.staff.StaffRow.{StaffRow}
use Rattle.mf_store_values.specs.Flat.{numbered_from, all_rows, staff_in}
use Rattle.mf_store_sound.proofs.RisingLemmas.{rows_rise}
use Rattle.mf_store_sound.proofs.SearchLemmas.{absent}

-- ---- one row by its key

abbrev by_pair : ℕ × ℕ → ℕ × ℕ → Ordering
by_pair a b = ordering_then (nat_cmp a.0 b.0) (nat_cmp a.1 b.1)

by_pair_total : IsTotalOrder by_pair
by_pair_total = then_total (on_total (λ (t : ℕ × ℕ). t.0) nat_cmp_total) (on_total (λ (t : ℕ × ℕ). t.1) nat_cmp_total)

abbrev staff_rows : List Office → List StaffRow
staff_rows fs = all_rows staff_in (λ own. own.staff) fs

module _ (x n : ℕ) where
  abbrev key_cmp : StaffRow → Ordering
  key_cmp r = ordering_then (nat_cmp r.office x) (nat_cmp r.number n)

  abbrev is_key : StaffRow → Bool
  is_key r = is_eq (key_cmp r)

  -- no row of this office from this number on
  none_of : (y m : ℕ) (xs : List Staff) → ((k : ℕ) → m ≤ k → is_eq (ordering_then (nat_cmp y x) (nat_cmp k n)) ≡ false)
      → list_any is_key (numbered_from (staff_in y) m xs) ≡ false
  none_of y m [] other = refl
  none_of y m (s ∷ xs) other = rw (other m (omega arith)) (none_of y (m + 1) xs (λ k le. other k (omega arith)))

  none_in : (f : Office) → (f.number == x) ≡ false → list_any is_key (numbered_from (staff_in f.number) 1 f.rows.staff)
      ≡ false
  none_in f apart = none_of f.number 1 f.rows.staff (λ k le. grind (arith, nat_tests))

  none_above : (fs : List Office) → Above x fs → list_any is_key (staff_rows fs) ≡ false
  none_above [] up = refl
  none_above (f ∷ fs) up =
      let low : x < f.number = up.0 in
      list_any-append is_key _ (staff_rows fs) ∙ (λ t. none_in f (ne_eqb f.number x (λ same. omega arith)) t
      || none_above fs up.1 t)

  at_place : (m d : ℕ) (xs : List Staff) → n ≡ m + d → list_any is_key (numbered_from (staff_in x) m xs)
      ≡ is_some (slice_get xs d)
  at_place m d [] e = refl
  at_place m zero (s ∷ xs) e =
      rw (let here : is_eq (ordering_then (nat_cmp x x) (nat_cmp m n)) ≡ true = grind (arith, nat_tests) in here)
  at_place m (suc d) (s ∷ xs) e = rw (let other : is_eq (ordering_then (nat_cmp x x) (nat_cmp m n))
      ≡ false = grind (arith, nat_tests) in other) (at_place (m + 1) d xs (omega arith))

  in_office : (xs : List Staff) → list_any is_key (numbered_from (staff_in x) 1 xs) ≡ is_some (item_numbered xs n)
  in_office xs = go (n == 0) refl
    where
      go : (b : Bool) → (n == 0) ≡ b → list_any is_key (numbered_from (staff_in x) 1 xs)
          ≡ is_some (cond b None (slice_get xs (n - 1)))
      go true e = none_of x 1 xs (λ k le. grind (arith, nat_tests))
      go false e = let some : n ≡ 1 + (n - 1) = grind (arith, nat_tests) in at_place 1 (n - 1) xs some

  -- a row has the key where there is such a member of staff
  has_key : (fs : List Office) → Ascending fs → list_any is_key (staff_rows fs)
      ≡ is_staff fs (record { office = x; staff = n })
  has_key [] up = refl
  has_key (f ∷ fs) up =
      list_any-append is_key _ (staff_rows fs) ∙ go (f.number == x) refl (has_key fs up.1)
    where
      go : (b : Bool) → (f.number == x) ≡ b → list_any is_key (staff_rows fs)
          ≡ is_staff fs (record { office = x; staff = n }) → (list_any is_key (numbered_from
          (staff_in f.number) 1 f.rows.staff)
          || list_any is_key (staff_rows fs)) ≡ is_some (elim (cond b (Some f) (office_at x fs))
          [ None ↦ None | Some g ↦ item_numbered g.rows.staff n ])
      go true e more =
          let same : f.number ≡ x = grind (arith, nat_tests) in
          let none = none_above fs (subst (λ k. Above k fs) same up.0) in
          (λ t. list_any is_key (numbered_from (staff_in (same t)) 1 f.rows.staff) || none t)
          ∙ or-false (list_any is_key (numbered_from (staff_in x) 1 f.rows.staff)) ∙ in_office f.rows.staff
      go false e more = (λ t. none_in f e t || list_any is_key (staff_rows fs)) ∙ more

  module _ (fs : List Office) (up : Ascending fs) (rows : List StaffRow) (are : staff_rows fs ≡ rows) where
    known : list_any is_key rows ≡ is_staff fs (record { office = x; staff = n })
    known = ap (list_any is_key) (sym are) ∙ has_key fs up

    pub found_staff : (at : ℕ) → at < length rows → IsBinarySearchResult key_cmp rows (Ok at)
        → true ≡ is_staff fs (record { office = x; staff = n })
    found_staff at h equal =
        let no_row : StaffRow = record { office = 0; number = 0; name = []; role = 0 } in
        sym (list_any_at is_key rows at no_row h (ap is_eq (equal no_row))) ∙ known

    pub absent_staff : (at : ℕ) → at ≤ length rows → IsBinarySearchResult key_cmp rows (Err at)
        → false ≡ is_staff fs (record { office = x; staff = n })
    absent_staff at h parted = sym (list_any_none is_key rows (absent by_pair by_pair_total
        (λ (r : StaffRow). (r.office, r.number)) rows (x, n) (subst (IsAscending (λ a b. by_staff a b ≡ Less)) are
        (rows_rise staff_in (λ own. own.staff) by_staff (λ y k z m a b. refl) fs up)) at h parted)) ∙ known
