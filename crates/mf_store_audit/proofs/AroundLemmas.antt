-- The rows of one loan among rows that rise.
use Rattle.std.proofs.Common.{◌≡◌, ◌≢◌, ◌<◌, ◌≤◌, ◌+◌, ◌-◌, ◌∙◌, ◌==◌, ℕ, Bool, true, false, List, length, get_or}
use Rattle.std.proofs.Common.{refl, sym, subst, arith, Ordering, Less, is_lt, nat_cmp, true≢false}
use Rattle.std.specs.List.{Contains}
use Rattle.std.specs.List.Sorted.{IsPartitionPoint, IsPartitionedBy}
use Rattle.std.specs.Ordering.{is_le, ordering_then}
use Rattle.std.proofs.Math.ListN.{drop, take}
use Rattle.std.proofs.lemmas.Bool.Decides.{nat_tests}
use Rattle.std.proofs.lemmas.List.{get_or-drop, get_or-take, length-drop, length-take-le}
use Rattle.sqlite_trees.proofs.ListLemmas.{ascending-get_or}
use Rattle.mf_store_schema.specs.Rows.{by_entry}
use Rattle.mf_store_schema.specs.declared.entries.EntryRow.{EntryRow}
use Rattle.mf_store_sound.specs.Held.{Rises}

-- an item at a place between two others is in what lies between them
in_between : {X : Type 0} (xs : List X) (first last k : ℕ) (x : X) → first ≤ k → k < last → last ≤ length xs
    → get_or xs k x ≡ x → Contains (take (last - first) (drop first xs)) x
in_between xs first last k x low high bound is =
    let dropped : length (drop first xs) ≡ length xs - first = length-drop first xs in
    let taken : length (take (last - first) (drop first xs)) ≡ last - first =
    length-take-le (last - first) (drop first xs) (omega (arith, bound, dropped)) in
    let back : first + (k - first) ≡ k = omega (arith, low) in (
      k - first,
      omega (arith, taken, low, high),
      get_or-take (last - first) (drop first xs) (k - first) x (omega (arith, low, high))
          ∙ get_or-drop first xs (k - first) x ∙ (λ t. get_or xs (back t) x) ∙ is,
    )

module _ (o l : ℕ) where
  -- where the loan of a row stands to one
  abbrev pub by_loan : EntryRow → Ordering
  by_loan y = ordering_then (nat_cmp y.office o) (nat_cmp y.loan l)

  lower : (a b : EntryRow) → by_entry a b ≡ Less → is_lt (by_loan b) ≡ true → is_lt (by_loan a) ≡ true
  lower a b up is = grind (arith, nat_tests)

  no_higher : (a b : EntryRow) → by_entry a b ≡ Less → is_le (by_loan b) ≡ true → is_le (by_loan a) ≡ true
  no_higher a b up is = grind (arith, nat_tests)

  own : (y : EntryRow) → y.office ≡ o → y.loan ≡ l → (is_lt (by_loan y) ≡ false) × (is_le (by_loan y) ≡ true)
  own y office loan = (grind (arith, nat_tests), grind (arith, nat_tests))

  parted : (p : EntryRow → Bool) → ((a b : EntryRow) → by_entry a b ≡ Less → p b ≡ true → p a ≡ true)
      → (rows : List EntryRow) → Rises by_entry rows → IsPartitionedBy p rows
  parted p steps rows up i j d low inside is = go (i == j) refl
    where
      go : (e : Bool) → (i == j) ≡ e → p (get_or rows i d) ≡ true
      go true e =
          let same : i ≡ j = grind (arith, nat_tests) in
          subst (λ k. p (get_or rows k d) ≡ true) (sym same) is
      go false e =
          let apart : i ≢ j = grind (arith, nat_tests) in
          steps (get_or rows i d) (get_or rows j d)
          (ascending-get_or (λ a b. by_entry a b ≡ Less) rows i j d up (omega (arith, low, apart)) inside) is

  -- where each search of the ends of a loan's rows answers as it must, its rows lie between them
  pub own_between : (rows : List EntryRow) (first last : ℕ) → Rises by_entry rows → last ≤ length rows
      → (IsPartitionedBy (λ y. is_lt (by_loan y)) rows
      → IsPartitionPoint (λ y. is_lt (by_loan y) ≡ true) (λ y. is_lt (by_loan y) ≡ false) rows first)
      → (IsPartitionedBy (λ y. is_le (by_loan y)) rows
      → IsPartitionPoint (λ y. is_le (by_loan y) ≡ true) (λ y. is_le (by_loan y) ≡ false) rows last)
      → (other : EntryRow) → Contains rows other → other.office ≡ o → other.loan ≡ l
      → Contains (take (last - first) (drop first rows)) other
  own_between rows first last up bound at_first at_last other there office loan =
      let its = own other office loan in
      let starts = at_first (parted (λ y. is_lt (by_loan y)) lower rows up) in
      let ends = at_last (parted (λ y. is_le (by_loan y)) no_higher rows up) in
      let low : first ≤ there.0 = grind (
        arith,
        λ (early : there.0 < first). true≢false (sym (starts.0 there.0 other (omega arith) early)
            ∙ (λ t. is_lt (by_loan (there.2 t))) ∙ its.0),
      ) in
      let high : there.0 < last = grind (
        arith,
        λ (late : last ≤ there.0). true≢false (sym its.1 ∙ (λ t. is_le (by_loan (sym there.2 t)))
            ∙ ends.1 there.0 other late there.1),
      ) in
      in_between rows first last there.0 other low high bound there.2
