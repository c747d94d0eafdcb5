-- A table that keeps a list of items: one row for each, in any order, under rowids that are apart.
use Rattle.std.proofs.Common.{◌≡◌, inl, inr, ℤ, Bool, true, false, not, ◌||◌, cond, List, [], ◌∷◌, map, filter, refl}
use Rattle.std.proofs.Common.{sym, ap, ◌∙◌, subst, Ordering, Less, Equal, Greater, is_eq, is_gt, true≢false}
use Rattle.std.proofs.Common.{IsPermutation}
use Rattle.std.specs.List.{AllByRecursion, list_any}
use Rattle.std.specs.Cmp.{IsTotalOrder}
use Rattle.std.specs.Ordering.{ordering_reverse}
use Rattle.std.proofs.lemmas.Cmp.{tied_itself}
use Rattle.std.proofs.lemmas.Bool.{not-true}
use Rattle.std.proofs.lemmas.List.Sorted.{IsPermutation-refl, IsPermutation-cons, IsPermutation-trans}
use Rattle.std.proofs.lemmas.List.Sorted.{IsPermutation-middle, IsPermutation-map, IsPermutation-sym}
use Rattle.std.proofs.lemmas.List.Sorted.{list_any-IsPermutation}
use Rattle.sqlite.specs.declared.types.Value.TheVariants.{Int}
use Rattle.sqlite.specs.Order.{Row, value_cmp}
use Rattle.sqlite_value.proofs.OrderLemmas.{value_cmp_total}
use Rattle.sqlite_trees.specs.Tree.{IsAscending, has_rowid, put_row, without_rowid, rowid}
use Rattle.sqlite_rules.specs.Edit.{without_all, is_taken}
use Rattle.sqlite_rules.specs.Lists.{Has}
use Rattle.sqlite_rules.proofs.ListLemmas.{all_has, all_from, has_filtered}
use Rattle.sqlite_keyed.specs.Lists.{insert_sorted, delete_where}
use Rattle.sqlite_keyed.proofs.ListLemmas.{filter-map, filter_same, filter_all, filter_none, IsPermutation-filter}
use Rattle.sqlite_keyed.proofs.ListLemmas.{ascending-filter, all_of, all_weaker, all_unmap, none_from_any}
use Rattle.mf_store_sql.specs.Keep.{row_with_id, same_id, Keeps, KeepsWhole, drop_item}
use Rattle.mf_store_sql.proofs.CompareLemmas.{tied_back, or_false}

-- ---- lists and tests

-- where R tells x from what is before and after it, x alone passes
pub only : {A : Type 0} (R : A → A → Type 0) (p : A → Bool) (x : A) → p x ≡ true → ((y : A) → R x y → p y ≡ false)
    → ((y : A) → R y x → p y ≡ false) → (xs : List A) → IsAscending R xs → Has xs x → filter p xs ≡ x ∷ []
only R p x passes after before [] up h = absurd h
only R p x passes after before (y ∷ xs) up (inl is) =
    let none = filter_none p xs (all_weaker (R x) (λ z. p z ≡ false) after xs (subst (λ z. AllByRecursion (R z) xs)
    (sym is) up.0)) in
    subst (λ z. filter p (z ∷ xs) ≡ x ∷ []) is (rw (passes, none) refl)
only R p x passes after before (y ∷ xs) up (inr later) =
    rw (before y (all_has (R y) xs x up.0 later)) (only R p x passes after before xs up.1 later)

any_swapped : {A : Type 0} (p q : A → Bool) (xs : List A) → list_any p (filter q xs) ≡ list_any q (filter p xs)
any_swapped p q [] = refl
any_swapped p q (x ∷ xs) = go (p x) (q x) refl refl (any_swapped p q xs)
  where
    go : (a b : Bool) → p x ≡ a → q x ≡ b → list_any p (filter q xs) ≡ list_any q (filter p xs)
        → list_any p (filter q (x ∷ xs)) ≡ list_any q (filter p (x ∷ xs))
    go true true h k more = simp (h, k)
    go true false h k more = simp (h, k) more
    go false true h k more = simp (h, k) more
    go false false h k more = simp (h, k) more

filter_alike : {A : Type 0} (p q : A → Bool) (xs : List A) → ((x : A) → Has xs x → p x ≡ q x)
    → filter p xs ≡ filter q xs
filter_alike p q [] same = refl
filter_alike p q (x ∷ xs) same = rw (same x (inl refl), filter_alike p q xs (λ y h. same y (inr h))) refl

filter_neither : {A : Type 0} (p q : A → Bool) (xs : List A)
    → filter (λ x. not (q x)) (filter (λ x. not (p x)) xs) ≡ filter (λ x. not (p x || q x)) xs
filter_neither p q [] = refl
filter_neither p q (x ∷ xs) = go (p x) (q x) refl refl (filter_neither p q xs)
  where
    go : (a b : Bool) → p x ≡ a → q x ≡ b
        → filter (λ y. not (q y)) (filter (λ y. not (p y)) xs) ≡ filter (λ y. not (p y || q y)) xs
        → filter (λ y. not (q y)) (filter (λ y. not (p y)) (x ∷ xs)) ≡ filter (λ y. not (p y || q y)) (x ∷ xs)
    go true b h k more = simp h more
    go false true h k more = simp (h, k) more
    go false false h k more = simp (h, k) (ap (λ l. x ∷ l) more)

list_any-map : {A B : Type 0} (p : B → Bool) (f : A → B) (xs : List A) → list_any p (map f xs) ≡ list_any (λ x. p (f x))
    xs
list_any-map p f [] = refl
list_any-map p f (x ∷ xs) = ap (λ b. p (f x) || b) (list_any-map p f xs)

-- the rows that a list of rowids leaves
without_all-filter : (rows : List Row) (ids : List ℤ) → without_all rows ids
    ≡ filter (λ r. not (list_any (λ id. has_rowid id r) ids)) rows
without_all-filter rows [] = sym (filter_all (λ r. true) rows (all_of _ (λ r. refl) rows))
without_all-filter rows (id ∷ ids) = without_all-filter (without_rowid id rows) ids
    ∙ filter_neither (has_rowid id) (λ r. list_any (λ i. has_rowid i r) ids) rows

-- ---- entries, which are items with their rowids

module _ {X : Type 0} where
  abbrev pub Apart : ℤ × X → ℤ × X → Type 0
  Apart a b = same_id a.0 b.0 ≡ false

  -- the entries whose rowid is that of an entry that passes are those that pass
  among : (p : ℤ × X → Bool) (es : List (ℤ × X)) → IsAscending Apart es → (e : ℤ × X) → Has es e
      → list_any (λ (f : ℤ × X). same_id e.0 f.0) (filter p es) ≡ p e
  among p es apart e h =
      any_swapped (λ (f : ℤ × X). same_id e.0 f.0) p es
      ∙ ap (list_any p) (only Apart (λ (f : ℤ × X). same_id e.0 f.0) e (ap is_eq (tied_itself value_cmp_total
      (Int e.0))) (λ f k. k) (λ f k. tied_back (Int e.0) (Int f.0) ∙ k) es apart h) ∙ or_false (p e)

-- ---- an item that is put in its place

module _ {X : Type 0} (cmp : X → X → Ordering) where
  all-insert_sorted : (P : X → Type 0) (new : X) (xs : List X) → P new → AllByRecursion P xs
      → AllByRecursion P (insert_sorted cmp new xs)
  all-insert_sorted P new [] h all = (h, tt)
  all-insert_sorted P new (x ∷ xs) h all =
      elim (is_gt (cmp new x)) as (λ b. AllByRecursion P (cond b (x ∷ insert_sorted cmp new xs) (new ∷ x ∷ xs)))
      [ true ↦ (all.0, all-insert_sorted P new xs h all.1) | false ↦ (h, all) ]

  IsPermutation-insert_sorted : (new : X) (xs : List X) → IsPermutation (new ∷ xs) (insert_sorted cmp new xs)
  IsPermutation-insert_sorted new [] = IsPermutation-refl _
  IsPermutation-insert_sorted new (x ∷ xs) =
      elim (is_gt (cmp new x)) as (λ b. IsPermutation (new ∷ x ∷ xs) (cond b (x ∷ insert_sorted cmp new xs)
      (new ∷ x ∷ xs))) [
        | true ↦ IsPermutation-trans _ _ _ (IsPermutation-sym _ _ (IsPermutation-middle (x ∷ []) new xs))
            (IsPermutation-cons x _ _ (IsPermutation-insert_sorted new xs))
        | false ↦ IsPermutation-refl _
      ]

module _ {X : Type 0} (stored : X → Row) (n : ℤ × X) where
  abbrev by_id : ℤ × X → ℤ × X → Ordering
  by_id a b = value_cmp (Int a.0) (Int b.0)

  abbrev AreOthers : List (ℤ × X) → Type 0
  AreOthers = AllByRecursion (λ (e : ℤ × X). same_id e.0 n.0 ≡ false)

  -- a row with a free rowid is put where its entry is
  put_row-map : (es : List (ℤ × X)) → AreOthers es → put_row (row_with_id stored n) (map (row_with_id stored) es)
      ≡ map (row_with_id stored) (insert_sorted by_id n es)
  put_row-map [] free = refl
  put_row-map (e ∷ es) free = go (value_cmp (Int e.0) (Int n.0)) refl (put_row-map es free.1)
    where
      turned : (o : Ordering) → value_cmp (Int e.0) (Int n.0) ≡ o → value_cmp (Int n.0) (Int e.0) ≡ ordering_reverse o
      turned o is = value_cmp_total.antisymm (Int n.0) (Int e.0) ∙ ap ordering_reverse is

      go : (o : Ordering) → value_cmp (Int e.0) (Int n.0) ≡ o
          → put_row (row_with_id stored n) (map (row_with_id stored) es)
          ≡ map (row_with_id stored) (insert_sorted by_id n es)
          → put_row (row_with_id stored n) (map (row_with_id stored) (e ∷ es))
          ≡ map (row_with_id stored) (insert_sorted by_id n (e ∷ es))
      go Less is more = rw (is, turned Less is, more) refl
      go Equal is more = absurd (true≢false (sym (ap is_eq is) ∙ free.0))
      go Greater is more = rw (is, turned Greater is) refl

  apart-insert : (es : List (ℤ × X)) → AreOthers es → IsAscending Apart es
      → IsAscending Apart (insert_sorted by_id n es)
  apart-insert [] free apart = (tt, tt)
  apart-insert (e ∷ es) free apart =
      elim (is_gt (by_id n e)) as (λ b. IsAscending Apart (cond b (e ∷ insert_sorted by_id n es) (n ∷ e ∷ es))) [
        | true ↦ (all-insert_sorted by_id (Apart e) n es free.0 apart.0, apart-insert es free.1 apart.1)
        | false ↦ (
          all_weaker (λ f. same_id f.0 n.0 ≡ false) (Apart n) (λ f h. tied_back (Int n.0) (Int f.0) ∙ h)
              (e ∷ es) free,
          apart,
        )
      ]

-- ---- a list in the order of its key

module _ {X : Type 0} (cmp : X → X → Ordering) (total : IsTotalOrder cmp) where
  abbrev Rises : List X → Type 0
  Rises = IsAscending (λ a b. cmp a b ≡ Less)

  rises-insert_sorted : (new : X) (xs : List X) → AllByRecursion (λ y. is_eq (cmp new y) ≡ false) xs → Rises xs
      → Rises (insert_sorted cmp new xs)
  rises-insert_sorted new [] apart up = (tt, tt)
  rises-insert_sorted new (x ∷ xs) apart up = go (cmp new x) refl (rises-insert_sorted new xs apart.1 up.1)
    where
      go : (o : Ordering) → cmp new x ≡ o → Rises (insert_sorted cmp new xs)
          → Rises (cond (is_gt o) (x ∷ insert_sorted cmp new xs) (new ∷ x ∷ xs))
      go Less e more = ((e, all_weaker _ (λ y. cmp new y ≡ Less) (λ y. total.trans new x y e) xs up.0), up)
      go Equal e more = absurd (true≢false (sym (ap is_eq e) ∙ apart.0))
      go Greater e more = (all-insert_sorted cmp _ new xs (total.antisymm x new ∙ ap ordering_reverse e) up.0, more)

  pub dropped : (new : X) (xs : List X) → AllByRecursion (λ y. is_eq (cmp new y) ≡ false) (drop_item cmp new xs)
  dropped new xs = all_from _ (drop_item cmp new xs) (λ y h. not-true _ (has_filtered (λ z. not (is_eq (cmp new z))) xs
      y h).1)

  -- ---- what a table keeps

  module _ (stored : X → Row) where
    none_whole : KeepsWhole stored cmp [] []
    none_whole = record { entries = []; rows = refl; apart = tt; same = IsPermutation-refl []; rising = tt }

    pub keeps_none : Keeps stored cmp [] []
    keeps_none = record { full = []; alike = tt; whole = none_whole }

    module _ (p : Row → Bool) (q : X → Bool) (alike : (id : ℤ) (x : X) → p (Int id ∷ stored x) ≡ q x)
        (tree : List Row) (items : List X) (k : KeepsWhole stored cmp tree items) where
      abbrev left : List Row
      left = map (row_with_id stored) (filter (λ (e : ℤ × X). not (q e.1)) k.entries)

      left_is : filter (λ r. not (p r)) tree ≡ left
      left_is = ap (filter (λ r. not (p r))) k.rows ∙ filter-map (λ r. not (p r)) (row_with_id stored) k.entries
          ∙ ap (map (row_with_id stored)) (filter_same _ _ (λ e. ap not (alike e.0 e.1)) k.entries)

      pub keeps-deleted : KeepsWhole stored cmp (filter (λ r. not (p r)) tree) (delete_where q items)
      keeps-deleted = record {
        entries = filter (λ e. not (q e.1)) k.entries;
        rows = left_is;
        apart = ascending-filter _ _ k.entries k.apart;
        same = subst (λ l. IsPermutation l (delete_where q items)) (filter-map (λ x. not (q x)) (λ (e : ℤ × X). e.1)
            k.entries) (IsPermutation-filter (λ x. not (q x)) _ items k.same);
        rising = ascending-filter _ _ items k.rising;
      }

      -- a DELETE takes the rows that have one of its rowids
      pub taken_rows : (ids : List ℤ)
          → IsPermutation (map (λ (e : ℤ × X). e.0) (filter (λ (e : ℤ × X). q e.1) k.entries)) ids
          → without_all tree ids ≡ filter (λ r. not (p r)) tree
      taken_rows ids same =
          let passed = filter (λ (e : ℤ × X). q e.1) k.entries in
          let hit = λ (e : ℤ × X) (h : Has k.entries e).
          sym (list_any-IsPermutation (λ id. has_rowid id (row_with_id stored e)) _ ids same)
          ∙ list_any-map (λ id. same_id e.0 id) (λ (f : ℤ × X). f.0) passed
          ∙ among (λ (f : ℤ × X). q f.1) k.entries k.apart e h in
          without_all-filter tree ids ∙ ap (filter (λ r. not (list_any (λ id. has_rowid id r) ids))) k.rows
          ∙ filter-map _ (row_with_id stored) k.entries
          ∙ ap (map (row_with_id stored)) (filter_alike _ (λ (e : ℤ
          × X). not (q e.1)) k.entries (λ e h. ap not (hit e h)))
          ∙ sym left_is

    pub keeps-put : (id : ℤ) (x : X) (tree : List Row) (items : List X) → KeepsWhole stored cmp tree items
        → AllByRecursion (λ y. is_eq (cmp x y) ≡ false) items → is_taken tree (Int id ∷ stored x) ≡ false
        → KeepsWhole stored cmp (put_row (Int id ∷ stored x) tree) (insert_sorted cmp x items)
    keeps-put id x tree items k others fresh =
        let n : ℤ × X = (id, x) in
        let free = all_unmap (λ r. is_eq (value_cmp (rowid r) (Int id)) ≡ false) (row_with_id stored) k.entries
        (none_from_any _ (map (row_with_id stored) k.entries) (ap (λ t. is_taken t (Int id ∷ stored x)) (sym k.rows)
        ∙ fresh)) in record {
          entries = insert_sorted (by_id stored n) n k.entries;
          rows = ap (put_row (Int id ∷ stored x)) k.rows ∙ put_row-map stored n k.entries free;
          apart = apart-insert stored n k.entries free k.apart;
          same = IsPermutation-trans _ _ _ (IsPermutation-sym _ _ (IsPermutation-map (λ (e : ℤ × X). e.1) _ _
              (IsPermutation-insert_sorted (by_id stored n) n k.entries)))
              (IsPermutation-trans _ _ _ (IsPermutation-cons x _ items k.same)
              (IsPermutation-insert_sorted cmp x items));
          rising = rises-insert_sorted x items others k.rising;
        }
