-- Rows in blocks, each of one owner and behind those of owners with smaller numbers.
use Rattle.std.proofs.Common.{◌≡◌, ◌<◌, ◌≤◌, ◌+◌, ◌==◌, ◌⊎◌, ◌∙◌, ℕ, suc}
use Rattle.std.proofs.Common.{Bool, true, false, cond, List, [], ◌∷◌, Option, Some, None}
use Rattle.std.proofs.Common.{refl, sym, subst, ap, arith, inl, inr, take, drop}
use Rattle.std.specs.List.{AllByRecursion, prefix_len}
use Rattle.std.proofs.lemmas.Bool.Decides.{nat_tests}
use Rattle.sqlite_keyed.proofs.ListLemmas.{all_weaker}
use Rattle.mf_store_values.specs.Parts.{own, later}
use Rattle.mf_store_sound.specs.Stored.{AllFrom}
use Rattle.mf_audit_laws.proofs.WalkLemmas.{Walk}

module _ {R S : Type 0} (owner : R → ℕ) (state : R → S) (Next : S → R → Type 0) (First : R → Type 0) where
  -- a row behind one of owner x: the next of that owner, or the first of a later one
  abbrev pub Link : ℕ → S → R → Type 0
  Link x s r = ((owner r ≡ x) × Next s r) ⊎ ((x < owner r) × First r)

  -- each is so linked to the one before it
  abbrev pub Chain : ℕ → S → List R → Type 0
  Chain x s [] = Unit {0}
  Chain x s (r ∷ rs) = Link x s r × Chain (owner r) (state r) rs

  -- the first row is the first of its owner
  abbrev pub Starts : List R → Type 0
  Starts [] = Unit {0}
  Starts (r ∷ rs) = First r × Chain (owner r) (state r) rs

  -- rows of owner x alone
  abbrev pub Block : ℕ → S → List R → Type 0
  Block x s [] = Unit {0}
  Block x s (r ∷ rs) = ((owner r ≡ x) × Next s r) × Block x (state r) rs

  link_above : (x : ℕ) (s : S) (r : R) → Link x s r → x ≤ owner r
  link_above x s r (inl h) = let same : owner r ≡ x = h.0 in omega arith
  link_above x s r (inr h) = let low : x < owner r = h.0 in omega arith

  pub chain_above : (x : ℕ) (s : S) (rows : List R) → Chain x s rows → AllByRecursion (λ r. x ≤ owner r) rows
  chain_above x s [] chain = tt
  chain_above x s (r ∷ rs) chain =
      let low : x ≤ owner r = link_above x s r chain.0 in (
        low,
        all_weaker (λ q. owner r ≤ owner q) (λ q. x ≤ owner q) (λ q more. omega (arith, more)) rs
            (chain_above (owner r) (state r) rs chain.1),
      )

  -- what is split off: the block of owner x, and rows of later owners
  record Splits (x : ℕ) (s : S) (mine others : List R) : Type 0 where
    block : Block x s mine
    starts : Starts others
    above : AllByRecursion (λ r. x < owner r) others

  split : (x : ℕ) (s : S) (rows : List R) → Chain x s rows → Splits x s (own owner x rows) (later owner x rows)
  split x s [] chain = record { block = tt; starts = tt; above = tt }
  split x s (r ∷ rs) (inl here, rest) =
      let is : (owner r == x) ≡ true = (let same : owner r ≡ x = here.0 in grind (arith, nat_tests)) in
      let more = split x (state r) rs (subst (λ y. Chain y (state r) rs) here.0 rest) in
      let count = prefix_len (λ q. owner q == x) rs in
      let one_more : suc count ≡ 1 + count = omega arith in
      subst (λ (n : ℕ). Splits x s (take n (r ∷ rs)) (drop n (r ∷ rs)))
      (one_more ∙ ap (λ b. cond b (1 + count) 0) (sym is))
      (record { block = (here, more.block); starts = more.starts; above = more.above })
  split x s (r ∷ rs) (inr there, rest) =
      let low : x < owner r = there.0 in
      let is : (owner r == x) ≡ false = grind (arith, nat_tests) in
      subst (λ (n : ℕ). Splits x s (take n (r ∷ rs)) (drop n (r ∷ rs)))
      (ap (λ b. cond b (1 + prefix_len (λ q. owner q == x) rs) 0) (sym is))
      (record {
        block = tt;
        starts = (there.1, rest);
        above = (
          low,
          all_weaker (λ q. owner r ≤ owner q) (λ q. x < owner q) (λ q more. omega (arith, more, low)) rs
              (chain_above (owner r) (state r) rs rest),
        );
      })

  pub own_block : (x : ℕ) (s : S) (rows : List R) → Chain x s rows → Block x s (own owner x rows)
  own_block x s rows chain = (split x s rows chain).block

  pub later_starts : (x : ℕ) (s : S) (rows : List R) → Chain x s rows → Starts (later owner x rows)
  later_starts x s rows chain = (split x s rows chain).starts

  pub later_above : (x : ℕ) (s : S) (rows : List R) → Chain x s rows
      → AllByRecursion (λ r. x < owner r) (later owner x rows)
  later_above x s rows chain = (split x s rows chain).above

  -- rows that start a block are behind nothing of owner x, where none is of an owner before it
  pub chain_from : (x : ℕ) (s : S) → ((r : R) → First r → Next s r) → (rows : List R) → Starts rows
      → AllByRecursion (λ r. x ≤ owner r) rows → Chain x s rows
  chain_from x s first [] starts above = tt
  chain_from x s first (r ∷ rs) starts above = (go (owner r == x) refl, starts.1)
    where
      go : (b : Bool) → (owner r == x) ≡ b → Link x s r
      go true e = inl ((let same : owner r ≡ x = grind (arith, nat_tests) in same), first r starts.0)
      go false e =
          let low : x ≤ owner r = above.0 in
          inr ((let less : x < owner r = grind (arith, nat_tests) in less), starts.0)

  -- the rows of one owner, owner by owner, from what each row owes to the one before it
  module _ (P : Option R → R → Type 0) (first : (r : R) → P None r → First r)
      (next : (b r : R) → P (Some b) r → Link (owner b) (state b) r) where
    walk_chain : (b : R) (rows : List R) → Walk P (Some b) rows → Chain (owner b) (state b) rows
    walk_chain b [] walk = tt
    walk_chain b (r ∷ rs) walk = (next b r walk.0, walk_chain r rs walk.1)

    pub walk_starts : (rows : List R) → Walk P None rows → Starts rows
    walk_starts [] walk = tt
    walk_starts (r ∷ rs) walk = (first r walk.0, walk_chain r rs walk.1)

-- ---- rows that are numbered within their owners

module _ {R : Type 0} (owner number : R → ℕ) where
  abbrev pub IsNext : ℕ → R → Type 0
  IsNext n r = number r ≡ n + 1

  abbrev pub IsFirstRow : R → Type 0
  IsFirstRow r = number r ≡ 1

  pub first_next : (r : R) → IsFirstRow r → IsNext 0 r
  first_next r h = omega (arith, h)

  -- a block's rows have its owner, and numbers from n + 1 on
  pub block_numbers : (x n : ℕ) (rows : List R) → Block owner number IsNext IsFirstRow x n rows
      → AllFrom (λ m r. (owner r ≡ x) × (number r ≡ m)) (n + 1) rows
  block_numbers x n [] block = tt
  block_numbers x n (r ∷ rs) block = (
    block.0,
    subst (λ m. AllFrom (λ m r. (owner r ≡ x) × (number r ≡ m)) (m + 1) rs) block.0.1
        (block_numbers x (number r) rs block.1),
  )
