-- What one entry more leaves of an office's receipts and loans.
use Rattle.std.proofs.Common.{◌≡◌, ◌≢◌, ℕ, zero, suc, ◌+◌, ◌-◌, true, false, cond, List, [], ◌∷◌, ◌++◌, Option, Some}
use Rattle.std.proofs.Common.{None, inl, inr, refl, sym, ap, ◌∙◌, arith, append_assoc}
use Rattle.std.specs.Prelude.{◌==◌, slice_get}
use Rattle.std.specs.Option.{option_or}
use Rattle.std.specs.Str.{bytes_eq}
use Rattle.std.proofs.lemmas.Bool.Decides.{nat_tests}
use Rattle.std.proofs.lemmas.List.Folds.{find-append}
use Rattle.std.proofs.lemmas.Slice.Eq.{bytes_eq-Decides}
use Rattle.mf_account.specs.declared.entry.Entry.{Entry}
use Rattle.mf_model.specs.Institution.{Ledger, item_numbered, with_numbered}
use Rattle.mf_model.specs.Receipts.{Use, use_by, use_of, uses_in, uses_from, first_use}
use Rattle.mf_model.specs.Loans.{with_new_entry}
use Rattle.mf_model.proofs.Growing.{numbered_suc}
use Rattle.mf_model.proofs.ReceiptLemmas.{uses_in_push, uses_entered}

-- the thing of a number, changed
below_first : {X : Type 0} (i : ℕ) (change : X → X) (x : X) (xs : List X) → with_numbered (suc (suc i)) change (x ∷ xs)
    ≡ x ∷ with_numbered (suc i) change xs
below_first i change x xs =
    let other : (suc (suc i) == 1) ≡ false = grind (arith, nat_tests) in
    let less : suc (suc i) - 1 ≡ suc i = omega arith in
    ap (λ b. cond b (change x ∷ xs) (x ∷ with_numbered (suc (suc i) - 1) change xs)) other
    ∙ ap (λ n. x ∷ with_numbered n change xs) less

changed_at : {X : Type 0} (i : ℕ) (change : X → X) (xs : List X) (x : X) → slice_get xs i ≡ Some x
    → slice_get (with_numbered (suc i) change xs) i ≡ Some (change x)
changed_at i change [] x h = absurd (cc)
changed_at zero change (y ∷ ys) x h = let same : y ≡ x = cc in ap (λ z. Some (change z)) same
changed_at (suc i) change (y ∷ ys) x h = ap (λ l. slice_get l (suc i)) (below_first i change y ys)
    ∙ changed_at i change ys x h

others_kept : {X : Type 0} (i j : ℕ) (change : X → X) (xs : List X) → j ≢ i
    → slice_get (with_numbered (suc i) change xs) j ≡ slice_get xs j
others_kept i j change [] other = refl
others_kept zero zero change (y ∷ ys) other = absurd (other refl)
others_kept zero (suc j) change (y ∷ ys) other = refl
others_kept (suc i) zero change (y ∷ ys) other = ap (λ l. slice_get l zero) (below_first i change y ys)
others_kept (suc i) (suc j) change (y ∷ ys) other = ap (λ l. slice_get l (suc j)) (below_first i change y ys)
    ∙ others_kept i j change ys (λ e. other (ap suc e))

pub numbered_at : {X : Type 0} (xs : List X) (n : ℕ) (x : X) → slice_get xs n ≡ Some x → item_numbered xs (suc n)
    ≡ Some x
numbered_at xs n x h = numbered_suc xs n ∙ h

pub numbered_changed : {X : Type 0} (n : ℕ) (change : X → X) (xs : List X) (x : X) → item_numbered xs n ≡ Some x
    → item_numbered (with_numbered n change xs) n ≡ Some (change x)
numbered_changed zero change xs x h = absurd (cc)
numbered_changed (suc i) change xs x h = numbered_suc (with_numbered (suc i) change xs) i
    ∙ changed_at i change xs x (sym (numbered_suc xs i) ∙ h)

pub numbered_kept : {X : Type 0} (n m : ℕ) (change : X → X) (xs : List X) (x : X) → item_numbered xs n ≡ Some x → m ≢ n
    → item_numbered (with_numbered n change xs) m ≡ item_numbered xs m
numbered_kept zero m change xs x h other = absurd (cc)
numbered_kept (suc i) zero change xs x h other = refl
numbered_kept (suc i) (suc j) change xs x h other =
    numbered_suc (with_numbered (suc i) change xs) j ∙ others_kept i j change xs (λ e. other (ap suc e))
    ∙ sym (numbered_suc xs j)

-- a receipt among some uses and then others
none_of_both : (a b : Option Use) → option_or a b ≡ None → (a ≡ None) × (b ≡ None)
none_of_both None b h = (refl, h)
none_of_both (Some u) b h = absurd (cc)

used_both : (r : List ℕ) (xs ys : List Use) → first_use r (xs ++ ys) ≡ option_or (first_use r xs) (first_use r ys)
used_both r xs ys = find-append (λ (u : Use). bytes_eq u.receipt r) xs ys

none_used : (r : List ℕ) (xs ys : List Use) → first_use r (xs ++ ys) ≡ None → (first_use r xs ≡ None)
    × (first_use r ys ≡ None)
none_used r xs ys h = none_of_both (first_use r xs) (first_use r ys) (sym (used_both r xs ys) ∙ h)

behind_none : (r : List ℕ) (xs ys : List Use) → first_use r xs ≡ None → first_use r (xs ++ ys) ≡ first_use r ys
behind_none r xs ys h = used_both r xs ys ∙ ap (λ a. option_or a (first_use r ys)) h

same_text : (r : List ℕ) → bytes_eq r r ≡ true
same_text r = (bytes_eq-Decides r r).1 refl

used_first : (r : List ℕ) (u : Use) (us : List Use) → u.receipt ≡ r → first_use r (u ∷ us) ≡ Some u
used_first r u us is = ap (λ b. cond b (Some u) (first_use r us)) (ap (λ t. bytes_eq t r) is ∙ same_text r)

abbrev use_now : List ℕ → ℕ → Entry → Use
use_now r n e = record { receipt = r; by = use_by n e }

-- the receipt of the entry is used by it
used_at : (i m : ℕ) (e : Entry) (r : List ℕ) (ls : List Ledger) (l : Ledger) → e.receipt ≡ Some r
    → first_use r (uses_from m ls) ≡ None → slice_get ls i ≡ Some l
    → first_use r (uses_from m (with_numbered (suc i) (with_new_entry e) ls)) ≡ Some (use_now r (m + i) e)
used_at i m e r [] l has free h = absurd (cc)
used_at zero m e r (k ∷ ls) l has free h =
    let before = none_used r (uses_in m k.entries) (uses_from (m + 1) ls) free in
    let same : m + zero ≡ m = omega arith in
    ap (λ us. first_use r (us ++ uses_from (m + 1) ls)) (uses_in_push m e k.entries
    ∙ ap (λ o. uses_in m k.entries ++ use_of o m e) has)
    ∙ ap (first_use r) (append_assoc (uses_in m k.entries) (use_now r m e ∷ []) (uses_from (m + 1) ls))
    ∙ behind_none r (uses_in m k.entries) (use_now r m e ∷ uses_from (m + 1) ls) before.0
    ∙ used_first r (use_now r m e) (uses_from (m + 1) ls) refl
    ∙ ap (λ n. Some (use_now r n e)) (sym same)
used_at (suc i) m e r (k ∷ ls) l has free h =
    let before = none_used r (uses_in m k.entries) (uses_from (m + 1) ls) free in
    let same : (m + 1) + i ≡ m + suc i = omega arith in
    ap (λ all. first_use r (uses_from m all)) (below_first i (with_new_entry e) k ls)
    ∙ behind_none r (uses_in m k.entries) (uses_from (m + 1) (with_numbered (suc i) (with_new_entry e) ls)) before.0
    ∙ used_at i (m + 1) e r ls l has before.1 h
    ∙ ap (λ n. Some (use_now r n e)) same

pub used_now : (n : ℕ) (e : Entry) (r : List ℕ) (ls : List Ledger) (l : Ledger) → e.receipt ≡ Some r
    → first_use r (uses_from 1 ls) ≡ None → item_numbered ls n ≡ Some l
    → first_use r (uses_from 1 (with_numbered n (with_new_entry e) ls)) ≡ Some (record { receipt = r; by = use_by n e })
used_now zero e r ls l has free h = absurd (cc)
used_now (suc i) e r ls l has free h =
    let same : 1 + i ≡ suc i = omega arith in
    used_at i 1 e r ls l has free (sym (numbered_suc ls i) ∙ h) ∙ ap (λ n. Some (use_now r n e)) same

-- every other receipt is used where it was
skipped : (r : List ℕ) (more after : List Use) → first_use r more ≡ None → (before : List Use)
    → first_use r (before ++ (more ++ after)) ≡ first_use r (before ++ after)
skipped r more after none before =
    used_both r before (more ++ after) ∙ ap (option_or (first_use r before)) (behind_none r more after none)
    ∙ sym (used_both r before after)

pub used_as_before : (n : ℕ) (e : Entry) (r t : List ℕ) (ls : List Ledger) → e.receipt ≡ Some t → bytes_eq t r ≡ false
    → first_use r (uses_from 1 (with_numbered n (with_new_entry e) ls)) ≡ first_use r (uses_from 1 ls)
used_as_before n e r t ls has other =
    let s = uses_entered n 1 e ls in
    let none : first_use r s.more ≡ None =
    elim s.more_is [
      | inl is ↦ ap (first_use r) is
      | inr is ↦ ap (first_use r) is ∙ ap (λ o. first_use r (use_of o s.number e)) has
          ∙ ap (λ b. cond b (Some (use_now t s.number e)) None) other
    ]
    in
    ap (first_use r) s.put.new_is ∙ skipped r s.more s.put.after none s.put.before ∙ sym (ap (first_use r) s.put.old_is)
