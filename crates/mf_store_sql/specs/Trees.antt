-- What trees keep, tree by tree; and what becomes of it where one of them is written.
use Rattle.std.specs.Prelude.{◌≡◌, ℕ, zero, suc, Bool, true, not, ◌&&◌, ◌==◌, List, [], ◌∷◌}
use Rattle.sqlite.specs.Table.{Table}
use Rattle.sqlite.specs.Order.{Row}
use Rattle.sqlite.specs.Tree.{Trees}

-- a tree, and what holds of its rows
abbrev pub Condition : Type 1
Condition = ℕ × (List Row → Type 0)

-- each tree has what is asked of it
abbrev pub AllHold : Trees → List Condition → Type 0
AllHold trees [] = Unit {0}
AllHold trees (c ∷ cs) = c.1 (trees c.0) × AllHold trees cs

-- the conditions, with another at this place
abbrev pub changed_at : ℕ → Condition → List Condition → List Condition
changed_at n new [] = []
changed_at zero new (c ∷ cs) = new ∷ cs
changed_at (suc n) new (c ∷ cs) = c ∷ changed_at n new cs

-- the tables of the schema are in these trees
abbrev pub SameTrees : List Table → List Condition → Type 0
SameTrees [] [] = Unit {0}
SameTrees [] (c ∷ cs) = ⊥
SameTrees (t ∷ ts) [] = ⊥
SameTrees (t ∷ ts) (c ∷ cs) = (t.tree ≡ c.0) × SameTrees ts cs

-- no table has this tree
abbrev pub are_elsewhere : ℕ → List Table → Bool
are_elsewhere tree [] = true
are_elsewhere tree (t ∷ ts) = not (t.tree == tree) && are_elsewhere tree ts

-- no table but the one at this place
abbrev pub are_apart : ℕ → ℕ → List Table → Bool
are_apart n tree [] = true
are_apart zero tree (t ∷ ts) = are_elsewhere tree ts
are_apart (suc n) tree (t ∷ ts) = not (t.tree == tree) && are_apart n tree ts
