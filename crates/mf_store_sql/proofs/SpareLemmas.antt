-- A write of one table leaves what the others keep.
use Rattle.std.proofs.Common.{◌≡◌, ◌≢◌, ℕ, zero, suc, true, not, ◌==◌, List, [], ◌∷◌, ◌++◌, sym, subst, arith, ap, ◌∙◌}
use Rattle.std.proofs.lemmas.Bool.{and_parts}
use Rattle.std.proofs.lemmas.Bool.Decides.{nat_tests}
use Rattle.std.specs.List.{AllByRecursion}
use Rattle.sqlite.specs.Table.{Table}
use Rattle.sqlite.specs.Tree.{Trees}
use Rattle.mf_store_sql.specs.Trees.{Condition, AllHold, changed_at, SameTrees, are_elsewhere, are_apart}

still : (old new : Trees) (t : Table) (c : Condition) → t.tree ≡ c.0 → new t.tree ≡ old t.tree → c.1 (old c.0)
    → c.1 (new c.0)
still old new t c at same h = subst c.1 (ap old (sym at) ∙ sym same ∙ ap new at) h

-- trees that are as they were keep what they kept
pub all_same : (old new : Trees) (ts : List Table) (cs : List Condition) → SameTrees ts cs
    → AllByRecursion (λ (t : Table). new t.tree ≡ old t.tree) ts → AllHold old cs → AllHold new cs
all_same old new [] [] at same all = tt
all_same old new [] (c ∷ cs) at same all = absurd at
all_same old new (t ∷ ts) [] at same all = tt
all_same old new (t ∷ ts) (c ∷ cs) at same all =
    (still old new t c at.0 same.0 all.0, all_same old new ts cs at.1 same.1 all.1)

module _ (tree : ℕ) (old new : Trees) where
  abbrev Spared : List Table → Type 0
  Spared = AllByRecursion (λ (t : Table). t.tree ≢ tree → new t.tree ≡ old t.tree)

  elsewhere : (at : ℕ) → not (at == tree) ≡ true → at ≢ tree
  elsewhere at h = grind (arith, nat_tests)

  all_elsewhere : (ts : List Table) → Spared ts → are_elsewhere tree ts ≡ true
      → AllByRecursion (λ (t : Table). new t.tree ≡ old t.tree) ts
  all_elsewhere [] same apart = tt
  all_elsewhere (t ∷ ts) same apart = let both = and_parts _ _ apart in
      (same.0 (elsewhere t.tree both.0), all_elsewhere ts same.1 both.1)

  pub all_changed : (n : ℕ) (to : Condition) (ts : List Table) (cs : List Condition) → SameTrees ts cs → Spared ts
      → are_apart n tree ts ≡ true → to.1 (new to.0) → AllHold old cs → AllHold new (changed_at n to cs)
  all_changed zero to [] [] at same apart h all = tt
  all_changed (suc n) to [] [] at same apart h all = tt
  all_changed n to [] (c ∷ cs) at same apart h all = absurd at
  all_changed n to (t ∷ ts) [] at same apart h all = absurd at
  all_changed zero to (t ∷ ts) (c ∷ cs) at same apart h all =
      (h, all_same old new ts cs at.1 (all_elsewhere ts same.1 apart) all.1)
  all_changed (suc n) to (t ∷ ts) (c ∷ cs) at same apart h all = let both = and_parts _ _ apart in (
    still old new t c at.0 (same.0 (elsewhere t.tree both.0)) all.0,
    all_changed n to ts cs at.1 same.1 both.1 h all.1,
  )

pub all_and : (trees : Trees) (cs ds : List Condition) → AllHold trees cs → AllHold trees ds → AllHold trees (cs ++ ds)
all_and trees [] ds one two = two
all_and trees (c ∷ cs) ds one two = (one.0, all_and trees cs ds one.1 two)
