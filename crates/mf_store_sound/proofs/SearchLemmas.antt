-- Rows that rise by a key: they are sorted, and a search that fails found that none has the key.
use Rattle.std.proofs.Common.{◌≡◌, ◌<◌, ◌≤◌, ◌+◌, ◌∙◌, ℕ, false, List, length, get_or, Err, ap, arith, Ordering, Less}
use Rattle.std.proofs.Common.{is_eq, is_lt}
use Rattle.std.specs.List.{All}
use Rattle.std.specs.List.Sorted.{IsBinarySearchResult, IsNonDecreasingBy, IsSortedBy}
use Rattle.std.specs.Ordering.{ordering_index, ordering_reverse}
use Rattle.std.specs.Cmp.{IsTotalOrder}
use Rattle.std.proofs.lemmas.Cmp.{on_total}
use Rattle.std.proofs.lemmas.List.Sorted.{searchable_from_sorted}
use Rattle.sqlite_trees.specs.Tree.{IsAscending}
use Rattle.sqlite_trees.proofs.ListLemmas.{ascending-get_or}

-- what rises is sorted
pub rising_is_sorted : {X : Type 0} (cmp : X → X → Ordering) (total : IsTotalOrder cmp) (xs : List X)
    → IsAscending (λ a b. cmp a b ≡ Less) xs → IsSortedBy (λ a b. is_lt (cmp a b)) xs
rising_is_sorted cmp total xs up k d low high =
    ap is_lt (total.antisymm (get_or xs (k + 1) d) (get_or xs k d) ∙ ap ordering_reverse
    (ascending-get_or (λ a b. cmp a b ≡ Less) xs k (k + 1) d up (omega arith) high))

-- no row has the key
pub absent : {X K : Type 0} (cmp : K → K → Ordering) (total : IsTotalOrder cmp) (key : X → K) (rows : List X) (x : K)
    → IsAscending (λ a b. cmp (key a) (key b) ≡ Less) rows → (at : ℕ) → at ≤ length rows
    → IsBinarySearchResult (λ r. cmp (key r) x) rows (Err at) → All (λ r. is_eq (cmp (key r) x) ≡ false) rows
absent cmp total key rows x up at h parted k d inside =
    let rise : IsNonDecreasingBy (λ r. ordering_index (cmp (key r) x)) rows =
    searchable_from_sorted total key rows x (rising_is_sorted (λ a b. cmp (key a) (key b)) (on_total key total) rows up)
    in
    grind (
      arith,
      λ (below : k < at). ap is_eq ((parted rise).0 k d (omega arith) below),
      λ (past : at ≤ k). ap is_eq ((parted rise).1 k d past inside),
    )
