-- What entries settle, sorted by the numbers of the entries.
use Rattle.std.proofs.Common.{◌≡◌, ◌<◌, ◌≤◌, ◌+◌, ◌∙◌, ◌==◌, ℕ, zero, suc, List, [], ◌∷◌, ◌++◌, refl, sym, ap, arith}
use Rattle.std.proofs.Common.{inl, inr, is_lt, nat_cmp, IsPermutation}
use Rattle.std.specs.List.{AllByRecursion}
use Rattle.std.specs.List.Sorted.{IsSortedByKey, IsStableByKey, IsNonDecreasingBy, ties}
use Rattle.std.proofs.lemmas.Bool.{eq-eqb, ne_eqb, cases_eq}
use Rattle.std.proofs.lemmas.Bool.Decides.{nat_tests}
use Rattle.std.proofs.lemmas.List.Elements.{recursion_from_All, All-from_get_or}
use Rattle.std.proofs.lemmas.List.Sorted.{IsNonDecreasingBy-from_sort, All-permutation}
use Rattle.sqlite_keyed.proofs.ListLemmas.{filter_same, filter_none, all_weaker, all_both}
use Rattle.sqlite_trees.specs.Tree.{IsAscending}
use Rattle.mf_alloc.specs.declared.row.Portion.TheVariants.{Principal}
use Rattle.mf_account.specs.Change.{settled_in}
use Rattle.mf_account.specs.Told.{AreNumberedTo, IsNumberedTo}
use Rattle.mf_account.specs.declared.settled.How.TheVariants.{Paid}
use Rattle.mf_account.specs.declared.settled.SettledPart.{SettledPart}
use Rattle.mf_store_values.specs.Flat.{numbered_from, placed_parts, parts_from}
use Rattle.mf_store_values.specs.Kept.{next_place, placed_from}

-- ---- parts of one entry stay in their order

abbrev of_entry : ℕ → SettledPart
of_entry seq = record {
  seq = seq;
  place = 0;
  cell = record { instalment = 0; portion = Principal };
  how = Paid;
  amount = 0;
}

tied : (seq : ℕ) (y : SettledPart) → ties (λ (a b : SettledPart). is_lt (nat_cmp a.seq b.seq)) (of_entry seq) y
    ≡ (y.seq == seq)
tied seq y = grind (arith, nat_tests)

pub same_entries : (xs ys : List SettledPart) → IsStableByKey (λ (p : SettledPart). p.seq) nat_cmp xs ys → (seq : ℕ)
    → settled_in seq ys ≡ settled_in seq xs
same_entries xs ys stable seq =
    sym (filter_same (ties (λ (a b : SettledPart). is_lt (nat_cmp a.seq b.seq)) (of_entry seq))
    (λ (y : SettledPart). y.seq == seq) (tied seq) ys) ∙ stable (of_entry seq)
    ∙ filter_same (ties (λ (a b : SettledPart). is_lt (nat_cmp a.seq b.seq)) (of_entry seq))
    (λ (y : SettledPart). y.seq == seq)
    (tied seq) xs

-- ---- entry by entry

abbrev Up : List SettledPart → Type 0
Up = IsAscending (λ (a b : SettledPart). a.seq ≤ b.seq)

abbrev From : ℕ → ℕ → List SettledPart → Type 0
From s count = AllByRecursion (λ (p : SettledPart). (s ≤ p.seq) × (p.seq ≤ s + count))

same_parts : (f g : ℕ → List SettledPart) (s count : ℕ) → ((q : ℕ) → s ≤ q → f q ≡ g q) → parts_from f s count
    ≡ parts_from g s count
same_parts f g s zero h = refl
same_parts f g s (suc count) h = (λ t. placed_parts s (h s (omega arith) t)
    ++ same_parts f g (s + 1) count (λ q low. h q (omega (arith, low))) t)

no_parts : (s count : ℕ) → parts_from (λ q. []) s count ≡ []
no_parts s zero = refl
no_parts s (suc count) = no_parts (s + 1) count

-- the parts of an entry from a place on, and then those of the later entries
abbrev StandsBy : ℕ → ℕ → ℕ → List SettledPart → Type 0
StandsBy s place count ys = placed_from s place ys ≡ numbered_from (λ k p. (s, (k, p))) (place + 1) (settled_in s ys)
    ++ parts_from (λ q. settled_in q ys) (s + 1) count

-- one part more of the entry
own_part : (s place count : ℕ) (p : SettledPart) (ys : List SettledPart) → p.seq ≡ s → StandsBy s (place + 1) count ys
    → StandsBy s place count (p ∷ ys)
own_part s place count p ys same more = rw (eq-eqb p.seq s same) ((λ t. (same t, (place + 1, p))
    ∷ placed_from (same t) (place + 1) ys) ∙ ap (λ l. (s, (place + 1, p)) ∷ l) (more
    ∙ ap (λ l. numbered_from (λ k r. (s, (k, r))) (place + 1 + 1) (settled_in s ys) ++ l)
    (same_parts (λ q. settled_in q ys) (λ q. settled_in q (p ∷ ys)) (s + 1) count (λ q low.
    rw (ne_eqb p.seq q (λ is. omega (arith, low, same, is)))))))

-- a part of a later entry has the first place, whatever came before
first_place : (s place : ℕ) (p : SettledPart) → s < p.seq → next_place s place p ≡ next_place (s + 1) 0 p
first_place s place p low = grind (arith, nat_tests)

later_first : (s place count : ℕ) (p : SettledPart) (ys : List SettledPart) → s < p.seq → settled_in s (p ∷ ys) ≡ []
    → StandsBy (s + 1) 0 count (p ∷ ys) → StandsBy s place (suc count) (p ∷ ys)
later_first s place count p ys low none more =
    (λ t. (p.seq, (first_place s place p low t, p)) ∷ placed_from p.seq (first_place s place p low t) ys) ∙ more
    ∙ (λ t. numbered_from (λ k r. (s, (k, r))) (place + 1) (sym none t) ++ parts_from (λ q. settled_in q (p ∷ ys))
    (s + 1) (suc count))

-- parts of later entries, in ascending order
above : (s : ℕ) (p : SettledPart) (ys : List SettledPart) → s < p.seq → Up (p ∷ ys)
    → AllByRecursion (λ (q : SettledPart). s < q.seq) (p ∷ ys)
above s p ys low up = (low, all_weaker (λ (q : SettledPart). p.seq ≤ q.seq) _ (λ q le. omega (arith, low, le)) ys up.0)

none_of : (s : ℕ) (ys : List SettledPart) → AllByRecursion (λ (p : SettledPart). s < p.seq) ys → settled_in s ys ≡ []
none_of s ys all = filter_none (λ (p : SettledPart). p.seq == s) ys (all_weaker (λ (p : SettledPart). s < p.seq) _
    (λ p low. ne_eqb p.seq s (λ same. omega (arith, low, same))) ys all)

stands : (ys : List SettledPart) (count s place : ℕ) → Up ys → From s count ys → StandsBy s place count ys
stands [] count s place up all = sym (no_parts (s + 1) count)
stands (p ∷ ys) zero s place up all =
    let same : p.seq ≡ s = omega (arith, all.0) in
    own_part s place zero p ys same (stands ys zero s (place + 1) up.1 all.1)
stands (p ∷ ys) (suc count) s place up all = elim (cases_eq p.seq s) [
  | inl same ↦ own_part s place (suc count) p ys same (stands ys (suc count) s (place + 1) up.1 all.1)
  | inr apart ↦
      let low : s < p.seq = omega (arith, all.0, apart) in
      let later = above s p ys low up in
      later_first s place count p ys low (none_of s (p ∷ ys) later) (stands (p ∷ ys) count (s + 1) 0 up (all_both
      (λ (q : SettledPart). s < q.seq) (λ (q : SettledPart). (s ≤ q.seq) × (q.seq ≤ s + suc count)) _
      (λ q least within. (omega (arith, least), omega (arith, within))) (p ∷ ys) later all))
]

up_from : (ys : List SettledPart) → IsNonDecreasingBy (λ (p : SettledPart). p.seq) ys → Up ys
up_from [] h = tt
up_from (p ∷ ys) h = (
  recursion_from_All _ ys (All-from_get_or (λ (q : SettledPart). p.seq ≤ q.seq) ys p
      (λ k below. h 0 (suc k) p (omega arith)
      (omega (arith, below)))),
  up_from ys (λ i j d le below. h (suc i) (suc j) d (omega (arith, le)) (omega (arith, below))),
)

-- parts that are sorted by entry, with their places, are those of one entry after another
pub placed_is : (n : ℕ) (parts sorted : List SettledPart) → AreNumberedTo n parts → IsPermutation parts sorted
    → IsSortedByKey (λ (p : SettledPart). p.seq) nat_cmp sorted
    → ((seq : ℕ) → settled_in seq sorted ≡ settled_in seq parts)
    → placed_from 0 0 sorted ≡ parts_from (λ seq. settled_in seq parts) 1 n
placed_is n parts sorted numbers perm order same =
    let all = recursion_from_All (IsNumberedTo n) sorted (All-permutation (IsNumberedTo n) parts sorted perm numbers) in
    let none = none_of 0 sorted (all_weaker (IsNumberedTo n) _ (λ p is. omega (arith, is)) sorted all) in
    stands sorted n 0 0 (up_from sorted (IsNonDecreasingBy-from_sort (λ (p : SettledPart). p.seq) sorted order))
    (all_weaker (IsNumberedTo n) _ (λ p is. (omega arith, omega (arith, is))) sorted all)
    ∙ (λ t. numbered_from (λ k p. (0, (k, p))) 1 (none t) ++ same_parts (λ q. settled_in q sorted) (λ q.
    settled_in q parts) 1 n (λ q low. same q) t)
