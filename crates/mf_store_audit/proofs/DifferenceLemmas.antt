-- Rows that are looked for among rows that rise, and the keys of the rows in which two lists differ.
use Rattle.std.proofs.Common.{◌≡◌, ◌≢◌, ◌<◌, ◌≤◌, ◌+◌, ◌∙◌, ◌==◌, ℕ, zero, suc, Bool, true, false, List, [], ◌∷◌}
use Rattle.std.proofs.Common.{◌++◌, length, get_or, refl, sym, ap, subst, arith, inl, inr, Ordering, Less, Equal, Err}
use Rattle.std.proofs.Common.{eqb-true, is_eq, map, true≢false}
use Rattle.std.specs.Cmp.{IsEquivalence, IsTotalOrder}
use Rattle.std.specs.List.{AllByRecursion, Contains, dedup}
use Rattle.std.specs.List.Retain.{DiffersFromLast, IsFiltered}
use Rattle.std.specs.List.Sorted.{IsBinarySearchResult, IsPermutation, IsSorted, IsStrictlySortedBy}
use Rattle.std.specs.Prelude.{◌&&◌}
use Rattle.std.specs.Ordering.{eq_by_cmp, ordering_reverse}
use Rattle.std.proofs.Math.ListN.{take}
use Rattle.std.proofs.Math.Seq.{take-suc}
use Rattle.std.proofs.lemmas.Bool.Decides.{nat_tests}
use Rattle.std.proofs.lemmas.Cmp.{and_equiv, nat_cmp_total, nat_eq_equiv, on_equiv, on_total, then_total, tied_itself}
use Rattle.std.proofs.lemmas.List.{append-nil, append_assoc, get_or_default, length-append, map-append}
use Rattle.std.proofs.lemmas.List.Elements.{All-contains, All-from_recursion, Contains-append_cases}
use Rattle.std.proofs.lemmas.List.Elements.{Contains-append_left, Contains-append_right}
use Rattle.std.proofs.lemmas.List.Filters.{dedup_is}
use Rattle.std.proofs.lemmas.List.Kept.{Contains-dedup, Contains-from_dedup, IsStrictlySortedBy-dedup}
use Rattle.std.proofs.lemmas.List.Sorted.{Contains-permutation, IsPermutation-sym}
use Rattle.sqlite_keyed.proofs.ListLemmas.{all-append}
use Rattle.sqlite_trees.proofs.ListLemmas.{ascending-get_or}
use Rattle.mf_store_audit.specs.Differences.{AreDifferences, Differ, Lacks, by_row_key, row_key}
use Rattle.mf_store_sound.specs.Held.{Rises}
use Rattle.mf_store_audit.specs.declared.finding.RowKey.{RowKey}
use Rattle.mf_store_audit.proofs.PlaceLemmas.{SaidTo, contains_item, said_more, said_all}
use Rattle.mf_store_sound.proofs.SearchLemmas.{absent}

equal_not_less : Equal ≡ Less → ⊥
equal_not_less same = true≢false (ap is_eq same)

-- of rows that rise, two of which neither comes before the other are one
pub one_there : {X : Type 0} (cmp : X → X → Ordering) (xs : List X) (a b : X) → Rises cmp xs → Contains xs a
    → Contains xs b → cmp a b ≢ Less → cmp b a ≢ Less → a ≡ b
one_there {X} cmp xs a b up here there not_before not_after = go (here.0 == there.0) refl
  where
    low : here.0 < length xs
    low = here.1

    high : there.0 < length xs
    high = there.1

    as_a : get_or xs there.0 a ≡ b
    as_a = sym (get_or_default xs there.0 b a high) ∙ there.2

    as_b : get_or xs here.0 b ≡ a
    as_b = sym (get_or_default xs here.0 a b low) ∙ here.2

    go : (e : Bool) → (here.0 == there.0) ≡ e → a ≡ b
    go true e =
        let same : here.0 ≡ there.0 = grind (arith, nat_tests) in
        sym here.2 ∙ (λ t. get_or xs (same t) a) ∙ as_a
    go false e =
        let apart : here.0 ≢ there.0 = grind (arith, nat_tests) in
        absurd (grind (
          arith,
          λ (before : here.0 < there.0). not_before (subst (λ (x : X). cmp x b ≡ Less) here.2
              (subst (λ (x : X). cmp (get_or xs here.0 a) x ≡ Less) as_a
              (ascending-get_or (λ x y. cmp x y ≡ Less) xs here.0 there.0 a up before high))),
          λ (after : there.0 < here.0). not_after (subst (λ (x : X). cmp x a ≡ Less) there.2
              (subst (λ (x : X). cmp (get_or xs there.0 b) x ≡ Less) as_b
              (ascending-get_or (λ x y. cmp x y ≡ Less) xs there.0 here.0 b up after low))),
          apart,
        ))

-- a row is at its place among rows that rise
pub is_here : {X : Type 0} (cmp : X → X → Ordering) (rows : List X) (row at : X) → IsTotalOrder cmp → Rises cmp rows
    → Contains rows row → Contains rows at → cmp at row ≡ Equal → at ≡ row
is_here cmp rows row at total up there found equal =
    let back : cmp row at ≡ Equal = total.antisymm row at ∙ ap ordering_reverse equal in
    one_there cmp rows at row up found there (λ less. equal_not_less (sym equal ∙ less))
    (λ less. equal_not_less (sym back ∙ less))

-- a search that fails found that a row isn't there
pub not_here : {X : Type 0} (cmp : X → X → Ordering) (rows : List X) (row : X) (at : ℕ) → IsTotalOrder cmp
    → Rises cmp rows → at ≤ length rows → IsBinarySearchResult (λ r. cmp r row) rows (Err at) → ¬ Contains rows row
not_here cmp rows row at total up bound parted there =
    let none = absent cmp total (λ r. r) rows row up at bound parted there.0 row there.1 in
    true≢false (sym (ap is_eq (tied_itself total row)) ∙ (λ t. is_eq (cmp (sym there.2 t) row)) ∙ none)

-- ---- the keys of the rows that others lack

module _ {R : Type 0} (key : R → ℕ × ℕ × ℕ) (InOrder : Type 0) (rows others : List R) where
  -- what was added to a list of keys while the rows before a place were gone over
  abbrev pub AreLacking : List RowKey → List RowKey → ℕ → Type 0
  AreLacking start keys place =
      (added : List RowKey) × (keys ≡ start ++ added)
      × (InOrder → AllByRecursion (Lacks key rows others) added)
      × SaidTo (λ row. ¬ Contains others row → Contains added (row_key (key row))) rows place

  pub none_lacking : (start : List RowKey) → AreLacking start start zero
  none_lacking start = ([], sym (append-nil start), λ order. tt, λ k d low inside. absurd (omega (arith, low)))

  pub one_lacking : (start keys more : List RowKey) (place : ℕ) (row : R) → place < length rows
      → row ≡ get_or rows place row → (InOrder → ¬ Contains others row) → more ≡ keys ++ row_key (key row) ∷ []
      → AreLacking start keys place → AreLacking start more (place + 1)
  one_lacking start keys more place row inside is lacking more_is (added, keys_are, each, every) =
      let one = row_key (key row) ∷ [] in (
        added ++ one,
        more_is ∙ (λ t. keys_are t ++ one) ∙ append_assoc start added one,
        λ order. all-append (Lacks key rows others) added one (each order) (
          record {
            row = row;
            key_is = refl;
            there = contains_item rows place row inside is;
            lacking = lacking order;
          },
          tt,
        ),
        said_more (λ r. ¬ Contains others r → Contains (added ++ one) (row_key (key r))) rows place row is
            (λ no_. Contains-append_right added one (row_key (key row)) (zero, omega arith, refl))
            (λ k d low in_ no_. Contains-append_left added one (row_key (key (get_or rows k d)))
            (every k d low in_ no_)),
      )

  pub one_there_too : (start keys : List RowKey) (place : ℕ) (row : R) → row ≡ get_or rows place row
      → Contains others row → AreLacking start keys place → AreLacking start keys (place + 1)
  one_there_too start keys place row is there (added, keys_are, each, every) = (
    added,
    keys_are,
    each,
    said_more (λ r. ¬ Contains others r → Contains added (row_key (key r))) rows place row is
        (λ no_. absurd (no_ there)) every,
  )

  pub all_lacking : (start keys : List RowKey) (place : ℕ) → length rows ≤ place → AreLacking start keys place
      → (added : List RowKey) × (keys ≡ start ++ added)
      × (InOrder → AllByRecursion (Lacks key rows others) added)
      × ((at : RowKey) → Lacks key rows others at → Contains added at)
  all_lacking start keys place past (added, keys_are, each, every) = (
    added,
    keys_are,
    each,
    λ at lacks. subst (Contains added) lacks.key_is (said_all (λ r. ¬ Contains others r
        → Contains added (row_key (key r))) rows place past every lacks.row lacks.there lacks.lacking),
  )

pub of_all : {X : Type 0} (P : X → Type 0) (xs : List X) (x : X) → AllByRecursion P xs → Contains xs x → P x
of_all P xs x each there = All-contains P xs x (All-from_recursion P xs each) there

all_of : {X : Type 0} (P : X → Type 0) (xs : List X) → ((x : X) → Contains xs x → P x) → AllByRecursion P xs
all_of P [] has = tt
all_of P (x ∷ xs) has = (
  has x (zero, omega arith, refl),
  all_of P xs (λ y there. has y (
    suc there.0,
    (let low : there.0 < length xs = there.1 in omega (arith, low)),
    there.2,
  )),
)

by_row_key_total : IsTotalOrder by_row_key
by_row_key_total = then_total (on_total (λ (k : RowKey). k.office) nat_cmp_total) (then_total
    (on_total (λ (k : RowKey). k.loan) nat_cmp_total) (on_total (λ (k : RowKey). k.number) nat_cmp_total))

-- ---- keys that are the same

abbrev same_key : RowKey → RowKey → Bool
same_key a b = (a.office == b.office) && ((a.loan == b.loan) && (a.number == b.number))

pub same_keys : IsEquivalence same_key
same_keys = and_equiv (on_equiv (λ (k : RowKey). k.office) nat_eq_equiv) (and_equiv (on_equiv (λ (k : RowKey). k.loan)
    nat_eq_equiv) (on_equiv (λ (k : RowKey). k.number) nat_eq_equiv))

all_three : (a b c : Bool) → (a && (b && c)) ≡ true → (a ≡ true) × (b ≡ true) × (c ≡ true)
all_three true true true e = (refl, refl, refl)
all_three true true false e = absurd (true≢false (sym e))
all_three true false c e = absurd (true≢false (sym e))
all_three false b c e = absurd (true≢false (sym e))

pub one_key : (a b : RowKey) → same_key a b ≡ true → a ≡ b
one_key a b same =
    let all = all_three (a.office == b.office) (a.loan == b.loan) (a.number == b.number) same in
    let office : a.office ≡ b.office = eqb-true a.office b.office all.0 in
    let loan : a.loan ≡ b.loan = eqb-true a.loan b.loan all.1 in
    let number : a.number ≡ b.number = eqb-true a.number b.number all.2 in
    λ t. record { office = office t; loan = loan t; number = number t }

pub tied_keys : (a b : RowKey) → same_key a b ≡ eq_by_cmp by_row_key a b
tied_keys a b = grind (arith, nat_tests)

-- ---- what is lacking on either side, in order and each once

module _ {R : Type 0} (key : R → ℕ × ℕ × ℕ) (made stored : List R) where
  module _ (first second keys more ordered last : List RowKey) (keys_are : keys ≡ first) (more_are : more ≡ keys
      ++ second) (each_first : AllByRecursion (Lacks key made stored) first)
      (each_second : AllByRecursion (Lacks key stored made) second)
      (all_first : (at : RowKey) → Lacks key made stored at → Contains first at)
      (all_second : (at : RowKey) → Lacks key stored made at → Contains second at)
      (moved : IsPermutation more ordered) (up : IsSorted by_row_key ordered)
      (same : RowKey → RowKey → Bool) (same_is : (a b : RowKey) → same a b ≡ true → a ≡ b)
      (tied : (a b : RowKey) → same a b ≡ eq_by_cmp by_row_key a b) (equivalent : IsEquivalence same)
      (left : IsFiltered (DiffersFromLast same) [] ordered last) where
    all_is : more ≡ first ++ second
    all_is = more_are ∙ (λ t. keys_are t ++ second)

    last_is : last ≡ dedup same ordered
    last_is = dedup_is same ordered last left

    carries : (at : RowKey) → Contains more at → Contains last at
    carries at there = subst (λ l. Contains l at) (sym last_is) (Contains-dedup equivalent same_is ordered at
        (Contains-permutation more ordered at moved there))

    back : (at : RowKey) → Contains last at → Differ key made stored at
    back at there = elim (Contains-append_cases first second at (subst (λ l. Contains l at) all_is
        (Contains-permutation ordered more at (IsPermutation-sym more ordered moved)
        (Contains-from_dedup same ordered at (subst (λ l. Contains l at) last_is there))))) [
          | inl a ↦ inl (of_all (Lacks key made stored) first at each_first a)
          | inr b ↦ inr (of_all (Lacks key stored made) second at each_second b)
        ]

    pub differ_in : AreDifferences key made stored last
    differ_in = record {
      each = all_of (Differ key made stored) last back;
      every = λ at differ. elim differ [
        | inl x ↦ carries at (subst (λ l. Contains l at) (sym all_is) (Contains-append_left first second at
            (all_first at x)))
        | inr y ↦ carries at (subst (λ l. Contains l at) (sym all_is) (Contains-append_right first second at
            (all_second at y)))
      ];
      order = subst (IsStrictlySortedBy by_row_key) (sym last_is) (IsStrictlySortedBy-dedup by_row_key_total tied
          ordered up);
    }

-- ---- what is told of keys

module _ {K N : Type 0} (told : K → N) (all : Bool) (keys : List K) where
  -- what was added to a list while the keys before a place were gone over
  abbrev pub AreTold : List N → List N → ℕ → Type 0
  AreTold start items place =
      (found : List N) × (items ≡ start ++ found) × (all ≡ true → found ≡ map told (take place keys))
      × AllByRecursion (λ n. (key : K) × Contains keys key × (n ≡ told key)) found
      × (all ≡ false → length start ≤ 1 → length items ≤ 1)

  pub none_told : (start : List N) → AreTold start start zero
  none_told start = ([], sym (append-nil start), λ whole. refl, tt, λ one few. few)

  pub one_told : (start items more : List N) (place : ℕ) (key : K) → place < length keys → key ≡ get_or keys place key
      → more ≡ items ++ told key ∷ [] → (all ≡ false → length items ≡ 0) → AreTold start items place
      → AreTold start more (place + 1)
  one_told start items more place key inside is more_is none (found, items_are, whole, each, few) =
      let one : place + 1 ≡ suc place = omega arith in (
        found ++ told key ∷ [],
        more_is ∙ (λ t. items_are t ++ told key ∷ []) ∙ append_assoc start found (told key ∷ []),
        λ yes. (λ t. whole yes t ++ told (is t) ∷ []) ∙ sym (map-append told (take place keys)
            (get_or keys place key ∷ [])) ∙ ap (map told) (sym (take-suc keys place key inside))
            ∙ ap (λ k. map told (take k keys)) (sym one),
        all-append (λ n. (k : K) × Contains keys k × (n ≡ told k)) found (told key ∷ []) each (
          (
            key,
            contains_item keys place key inside is,
            refl,
          ),
          tt,
        ),
        λ no_ low.
            let none_yet : length items ≡ 0 = none no_ in
            let longer : length more ≡ length items + 1 = ap length more_is ∙ length-append items (told key ∷ []) in
            omega (arith, none_yet, longer),
      )
