-- Rows that are numbered within their owners, from what each owes to the one before it.
use Rattle.std.proofs.Common.{◌≡◌, ◌≢◌, ◌<◌, ◌≤◌, ◌+◌, ◌==◌, ◌∙◌, ◌&&◌, ℕ, Bool, true, false, cond, List, []}
use Rattle.std.proofs.Common.{◌∷◌, Option, Some, None, refl, subst, ap, arith, inl, inr, nat_cmp, Ordering, Less}
use Rattle.std.proofs.Common.{Equal, Greater, length}
use Rattle.std.specs.List.{AllByRecursion}
use Rattle.std.specs.Ordering.{ordering_then}
use Rattle.std.proofs.lemmas.Bool.Decides.{nat_tests}
use Rattle.mf_store_audit.specs.Places.{IsAfter, number_within, number_after}
use Rattle.mf_store_sound.specs.Stored.{AllFrom}
use Rattle.mf_audit_laws.proofs.BlockLemmas.{Link, Chain, Starts, Block, walk_starts}
use Rattle.mf_audit_laws.proofs.WalkLemmas.{Walk, few, from_both, from_weaker}

-- an order that can't be another is this one
pub is_less : (o : Ordering) → ¬ (o ≢ Less) → o ≡ Less
is_less Less h = refl
is_less Equal h = absurd (h (λ same. cc))
is_less Greater h = absurd (h (λ same. cc))

pub is_after : {R : Type 0} (cmp : R → R → Ordering) (before : Option R) (row : R) → ¬ ¬ IsAfter cmp before row
    → IsAfter cmp before row
is_after cmp None row h = tt
is_after cmp (Some before) row h = is_less (cmp before row) h

-- ---- rows of one owner

module _ {R : Type 0} (number : R → ℕ) where
  numbered : (n : ℕ) (before : Option R) (rows : List R) → number_after number before ≡ n
      → Walk (λ b r. number r ≡ number_after number b) before rows → AllFrom (λ m r. number r ≡ m) n rows
  numbered n before [] next walk = tt
  numbered n before (r ∷ rs) next walk =
      let here = walk.0 ∙ next in
      (here, numbered (n + 1) (Some r) rs (ap (λ m. m + 1) here) walk.1)

  -- rows that are numbered from 1 are no more than the limit of their numbers, and each is under its own
  pub under_numbers : (limit : ℕ) (P : ℕ → R → Type 0) (rows : List R)
      → Walk (λ b r. number r ≡ number_after number b) None rows
      → AllByRecursion (λ r. (number r ≤ limit) × P (number r) r) rows → (length rows ≤ limit) × AllFrom P 1 rows
  under_numbers limit P rows walk each =
      let under = from_both (λ m r. number r ≡ m) (λ m r. (m ≤ limit) × P m r)
      (λ r. (number r ≤ limit) × P (number r) r)
      (λ m r is has. subst (λ k. (k ≤ limit) × P k r) is has) 1 rows (numbered 1 None rows refl walk) each in
      let count : length rows + 1 ≤ limit + 1 = few limit 1 rows
      (from_weaker (λ m r. (m ≤ limit) × P m r) (λ m r. m ≤ limit) (λ m r h. h.0) 1 rows under) (omega arith) in (
        omega (arith, count),
        from_weaker (λ m r. (m ≤ limit) × P m r) P (λ m r h. h.1) 1 rows under,
      )

-- ---- rows that are numbered within their owners

module _ {R : Type 0} (owner number : R → ℕ) where
  -- the order by owner and number
  abbrev pub by_pair : R → R → Ordering
  by_pair a b = ordering_then (nat_cmp (owner a) (owner b)) (nat_cmp (number a) (number b))

  abbrev pub IsNext : ℕ → R → Type 0
  IsNext n r = number r ≡ n + 1

  abbrev pub IsFirstRow : R → Type 0
  IsFirstRow r = number r ≡ 1

  abbrev pub IsLinked : ℕ → ℕ → R → Type 0
  IsLinked = Link owner number IsNext IsFirstRow

  abbrev pub AreChained : ℕ → ℕ → List R → Type 0
  AreChained = Chain owner number IsNext IsFirstRow

  abbrev pub AreStarted : List R → Type 0
  AreStarted = Starts owner number IsNext IsFirstRow

  abbrev pub AreBlock : ℕ → ℕ → List R → Type 0
  AreBlock = Block owner number IsNext IsFirstRow

  -- what a row owes to the one before it
  abbrev pub IsNumbered : Option R → R → Type 0
  IsNumbered before r = IsAfter by_pair before r
      × (number r ≡ number_within (λ (q : R). owner q == owner r) number before)

  pub first_next : (r : R) → IsFirstRow r → IsNext 0 r
  first_next r h = omega (arith, h)

  pair_linked : (b r : R) → IsNumbered (Some b) r → IsLinked (owner b) (number b) r
  pair_linked b r h = go (owner b == owner r) refl
    where
      go : (e : Bool) → (owner b == owner r) ≡ e → IsLinked (owner b) (number b) r
      go true e = inl (
        (let same : owner r ≡ owner b = grind (arith, nat_tests) in same),
        h.1 ∙ ap (λ c. cond c (number b + 1) 1) e,
      )
      go false e =
          let less : by_pair b r ≡ Less = h.0 in
          inr (
            (let low : owner b < owner r = grind (arith, nat_tests) in low),
            h.1 ∙ ap (λ c. cond c (number b + 1) 1) e,
          )

  -- rows that owe nothing start owner by owner
  pub pairs_start : (rows : List R) → Walk IsNumbered None rows → AreStarted rows
  pairs_start rows walk =
      walk_starts owner number IsNext IsFirstRow IsNumbered (λ r h. h.1) pair_linked rows walk

  -- a block's rows have its owner, and numbers from n + 1 on
  pub block_numbers : (x n : ℕ) (rows : List R) → AreBlock x n rows
      → AllFrom (λ m r. (owner r ≡ x) × (number r ≡ m)) (n + 1) rows
  block_numbers x n [] block = tt
  block_numbers x n (r ∷ rs) block = (
    block.0,
    subst (λ m. AllFrom (λ k q. (owner q ≡ x) × (number q ≡ k)) (m + 1) rs) block.0.1
        (block_numbers x (number r) rs block.1),
  )

  -- rows that are chained from nothing start
  pub chain_starts : (x : ℕ) (rows : List R) → AreChained x 0 rows → AreStarted rows
  chain_starts x [] chain = tt
  chain_starts x (r ∷ rs) (inl here, rest) = (omega (arith, here.1), rest)
  chain_starts x (r ∷ rs) (inr there, rest) = (there.1, rest)

-- ---- rows that are numbered within pairs of owners

module _ {R : Type 0} (office loan seq : R → ℕ) where
  -- the order by office, loan and number
  abbrev pub by_three : R → R → Ordering
  by_three a b =
      ordering_then (nat_cmp (office a) (office b))
      (ordering_then (nat_cmp (loan a) (loan b)) (nat_cmp (seq a) (seq b)))

  -- the loan and the number of a row
  abbrev pub place_of : R → ℕ × ℕ
  place_of r = (loan r, seq r)

  abbrev pub IsNextThere : ℕ × ℕ → R → Type 0
  IsNextThere p r = IsLinked loan seq p.0 p.1 r

  abbrev pub AreChainedThere : ℕ → ℕ × ℕ → List R → Type 0
  AreChainedThere = Chain office place_of IsNextThere (IsFirstRow loan seq)

  abbrev pub AreStartedThere : List R → Type 0
  AreStartedThere = Starts office place_of IsNextThere (IsFirstRow loan seq)

  abbrev pub AreBlockThere : ℕ → ℕ × ℕ → List R → Type 0
  AreBlockThere = Block office place_of IsNextThere (IsFirstRow loan seq)

  abbrev pub IsNumberedThere : Option R → R → Type 0
  IsNumberedThere before r = IsAfter by_three before r
      × (seq r ≡ number_within (λ (q : R). (loan q == loan r) && (office q == office r)) seq before)

  three_linked : (b r : R) → IsNumberedThere (Some b) r
      → Link office place_of IsNextThere (IsFirstRow loan seq) (office b) (place_of b) r
  three_linked b r h = go (loan b == loan r) (office b == office r) refl refl
    where
      go : (e f : Bool) → (loan b == loan r) ≡ e → (office b == office r) ≡ f
          → Link office place_of IsNextThere (IsFirstRow loan seq) (office b) (place_of b) r
      go true true e f = inl (
        (let same : office r ≡ office b = grind (arith, nat_tests) in same),
        inl (
          (let same : loan r ≡ loan b = grind (arith, nat_tests) in same),
          h.1 ∙ (λ t. cond (e t && f t) (seq b + 1) 1),
        ),
      )
      go false true e f =
          let less : by_three b r ≡ Less = h.0 in
          inl (
            (let same : office r ≡ office b = grind (arith, nat_tests) in same),
            inr (
              (let low : loan b < loan r = grind (arith, nat_tests) in low),
              h.1 ∙ (λ t. cond (e t && f t) (seq b + 1) 1),
            ),
          )
      go true false e f =
          let less : by_three b r ≡ Less = h.0 in
          inr (
            (let low : office b < office r = grind (arith, nat_tests) in low),
            h.1 ∙ (λ t. cond (e t && f t) (seq b + 1) 1),
          )
      go false false e f =
          let less : by_three b r ≡ Less = h.0 in
          inr (
            (let low : office b < office r = grind (arith, nat_tests) in low),
            h.1 ∙ (λ t. cond (e t && f t) (seq b + 1) 1),
          )

  pub threes_start : (rows : List R) → Walk IsNumberedThere None rows → AreStartedThere rows
  threes_start rows walk = walk_starts office place_of IsNextThere (IsFirstRow loan seq) IsNumberedThere (λ r h. h.1)
      three_linked rows walk

  -- the first row of an office is the first of its loan
  pub first_there : (r : R) → IsFirstRow loan seq r → IsNextThere (0, 0) r
  first_there r h = go (loan r == 0) refl
    where
      go : (e : Bool) → (loan r == 0) ≡ e → IsNextThere (0, 0) r
      go true e = inl ((let none : loan r ≡ 0 = grind (arith, nat_tests) in none), omega (arith, h))
      go false e = inr ((let some : 0 < loan r = grind (arith, nat_tests) in some), h)

  -- a block's rows are chained by their loans, and have its office
  pub block_chain : (x m n : ℕ) (rows : List R) → AreBlockThere x (m, n) rows
      → AreChained loan seq m n rows × AllByRecursion (λ r. office r ≡ x) rows
  block_chain x m n [] block = (tt, tt)
  block_chain x m n (r ∷ rs) block =
      let more = block_chain x (loan r) (seq r) rs block.1 in
      ((block.0.1, more.0), (block.0.0, more.1))
