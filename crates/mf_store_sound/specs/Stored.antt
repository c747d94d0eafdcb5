-- What it means that a row is that of a value that passes.
use Rattle.std.specs.Prelude.{◌≡◌, ◌+◌, ℕ, List, [], ◌∷◌}

module _ {A R : Type 0} (make : ℕ → A → R) (Passes : A → Type 0) where
  -- the row is a value's under this number, and the value passes
  pub record IsRowOf (number : ℕ) (row : R) : Type 0 where
    pub value : A
    pub passes : Passes value
    pub row_is : make number value ≡ row

-- each has this of its number, the first of which is n
abbrev pub AllFrom : {R : Type 0} → (ℕ → R → Type 0) → ℕ → List R → Type 0
AllFrom P n [] = Unit {0}
AllFrom P n (r ∷ rs) = P n r × AllFrom P (n + 1) rs
