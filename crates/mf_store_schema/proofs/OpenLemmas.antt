-- Tables of whatever rows: where the rows that a query shows are those of items, the table keeps the items.
use Rattle.std.proofs.Common.{◌≡◌, ℕ, ℤ, zero, suc, false, List, [], ◌∷◌, map, length, get_or, set, refl, sym, ap, ◌∙◌}
use Rattle.std.proofs.Common.{subst, arith, Ordering, Less, IsPermutation}
use Rattle.std.specs.List.{AllByRecursion, swap}
use Rattle.std.proofs.lemmas.List.{length-map}
use Rattle.std.proofs.lemmas.List.Sorted.{IsPermutation-refl, IsPermutation-sym, IsPermutation-trans}
use Rattle.std.proofs.lemmas.List.Sorted.{IsPermutation-keeps, IsPermutation-swap}
use Rattle.sqlite.specs.declared.types.Value.TheVariants.{Int}
use Rattle.sqlite.specs.Order.{Row}
use Rattle.sqlite_trees.specs.Tree.{IsAscending}
use Rattle.mf_store_sql.specs.Keep.{AreAlike, Keeps, row_with_id, same_id}

module _ {X Y : Type 0} (f : X → Y) where
  at_map : (xs : List X) (j : ℕ) (d : X) → get_or (map f xs) j (f d) ≡ f (get_or xs j d)
  at_map [] j d = refl
  at_map (x ∷ xs) zero d = refl
  at_map (x ∷ xs) (suc j) d = at_map xs j d

  set_map : (xs : List X) (i : ℕ) (a : X) → map f (set xs i a) ≡ set (map f xs) i (f a)
  set_map [] i a = refl
  set_map (x ∷ xs) zero a = refl
  set_map (x ∷ xs) (suc i) a = ap (λ l. f x ∷ l) (set_map xs i a)

  swap_map : (xs : List X) (i j : ℕ) → map f (swap xs i j) ≡ swap (map f xs) i j
  swap_map [] i j = refl
  swap_map (d ∷ ys) i j =
      set_map (set (d ∷ ys) i (get_or (d ∷ ys) j d)) j (get_or (d ∷ ys) i d)
      ∙ (λ t. set (set_map (d ∷ ys) i (get_or (d ∷ ys) j d) t) j (f (get_or (d ∷ ys) i d)))
      ∙ (λ t. set (set (map f (d ∷ ys)) i (sym (at_map (d ∷ ys) j d) t)) j (sym (at_map (d ∷ ys) i d) t))

  -- what has the elements of an image, in another order, is an image too
  lifted : (xs : List X) (rs : List Y) → IsPermutation (map f xs) rs → (ys : List X) × (map f ys ≡ rs)
      × IsPermutation ys xs
  lifted xs rs p = IsPermutation-keeps (map f xs) (λ l. (ys : List X) × (map f ys ≡ l) × IsPermutation ys xs)
      (xs, refl, IsPermutation-refl xs) (λ l i j low high h.
      let long : length h.0 ≡ length l = sym (length-map h.0 f) ∙ ap length h.1 in (
        swap h.0 i j,
        swap_map h.0 i j ∙ ap (λ m. swap m i j) h.1,
        IsPermutation-trans (swap h.0 i j) h.0 xs
            (IsPermutation-sym h.0 (swap h.0 i j) (IsPermutation-swap h.0 (swap h.0 i j) i j (omega arith)
            (omega arith) refl)) h.2,
      )) rs p

-- the ids and the rows of a tree apart
abbrev pub raw_row : ℤ × Row → Row
raw_row e = Int e.0 ∷ e.1

ids_apart : {A B : Type 0} (a b : ℤ) (es : List (ℤ × A)) (fs : List (ℤ × B)) → a ≡ b → map (λ (e : ℤ × A). e.0) es
    ≡ map (λ (e : ℤ × B). e.0) fs → AllByRecursion (λ (e : ℤ × B). same_id b e.0 ≡ false) fs
    → AllByRecursion (λ (e : ℤ × A). same_id a e.0 ≡ false) es
ids_apart a b [] fs is same all = tt
ids_apart a b (e ∷ es) [] is same all = absurd (cc)
ids_apart a b (e ∷ es) (f ∷ fs) is same all =
    let first : e.0 ≡ f.0 = cc in
    let others : map (λ e. e.0) es ≡ map (λ e. e.0) fs = cc in
    ((λ t. same_id (is t) (first t)) ∙ all.0, ids_apart a b es fs is others all.1)

all_apart : {A B : Type 0} (es : List (ℤ × A)) (fs : List (ℤ × B)) → map (λ (e : ℤ × A). e.0) es
    ≡ map (λ (e : ℤ × B). e.0) fs → IsAscending (λ (a b : ℤ × B). same_id a.0 b.0 ≡ false) fs
    → IsAscending (λ (a b : ℤ × A). same_id a.0 b.0 ≡ false) es
all_apart [] fs same up = tt
all_apart (e ∷ es) [] same up = absurd (cc)
all_apart (e ∷ es) (f ∷ fs) same up =
    let first : e.0 ≡ f.0 = cc in
    let others : map (λ e. e.0) es ≡ map (λ e. e.0) fs = cc in
    (ids_apart e.0 f.0 es fs first others up.0, all_apart es fs others up.1)

module _ {X : Type 0} (stored : X → Row) where
  paired : (raw : List (ℤ × Row)) (xs : List X) → map stored xs ≡ map (λ (e : ℤ × Row). e.1) raw
      → (es : List (ℤ × X)) × (map raw_row raw ≡ map (row_with_id stored) es) × (map (λ (e : ℤ × X). e.1) es ≡ xs)
      × (map (λ (e : ℤ × X). e.0) es ≡ map (λ (e : ℤ × Row). e.0) raw)
  paired [] [] h = ([], refl, refl, refl)
  paired [] (x ∷ xs) h = absurd (cc)
  paired (r ∷ raw) [] h = absurd (cc)
  paired (r ∷ raw) (x ∷ xs) h =
      let first : stored x ≡ r.1 = cc in
      let others : map stored xs ≡ map (λ (e : ℤ × Row). e.1) raw = cc in
      let more = paired raw xs others in
      ((r.0, x) ∷ more.0, (λ t. (Int r.0 ∷ sym first t) ∷ more.1 t), (λ t. x ∷ more.2 t), (λ t. r.0 ∷ more.3 t))

  -- a tree of rows under rowids that are apart, but for columns at the end that are NULL, whose rows in some order are
  -- those of items that rise, keeps the items
  pub kept_by_rows : (cmp : X → X → Ordering) (tree : List Row) (raw : List (ℤ × Row)) (rows : List Row)
      (items : List X) → AreAlike tree (map raw_row raw) → IsAscending (λ (a b : ℤ × Row). same_id a.0 b.0 ≡ false) raw
      → IsPermutation (map (λ (e : ℤ × Row). e.1) raw) rows → rows ≡ map stored items
      → IsAscending (λ a b. cmp a b ≡ Less) items → Keeps stored cmp tree items
  kept_by_rows cmp tree raw rows items is apart shown are rising =
      let back : IsPermutation (map stored items) (map (λ (e : ℤ × Row). e.1) raw) = subst (λ l. IsPermutation l
      (map (λ (e : ℤ × Row). e.1) raw)) are (IsPermutation-sym (map (λ (e : ℤ × Row). e.1) raw) rows shown) in
      let own = lifted stored items (map (λ (e : ℤ × Row). e.1) raw) back in
      let es = paired raw own.0 own.1 in
      record {
        full = map raw_row raw;
        alike = is;
        whole = record {
          entries = es.0;
          rows = es.1;
          apart = all_apart es.0 raw es.3 apart;
          same = subst (λ l. IsPermutation l items) (sym es.2) own.2;
          rising = rising;
        };
      }
