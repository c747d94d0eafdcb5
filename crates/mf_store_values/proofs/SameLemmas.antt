-- Two lists, held against each other one by one.
use Rattle.std.proofs.Common.{◌≡◌, ◌<◌, ◌≤◌, ℕ, List, length, get_or, arith}
use Rattle.std.proofs.lemmas.List.{same_lists}

module _ {R : Type 0} where
  abbrev pub SameTo : List R → List R → ℕ → Type 0
  SameTo rows others i = (k : ℕ) (d : R) → k < i → get_or rows k d ≡ get_or others k d

  pub same_all : (rows others : List R) (i : ℕ) → length rows ≡ length others → length rows ≤ i → SameTo rows others i
      → rows ≡ others
  same_all rows others i many h all = same_lists rows others many (λ k d below. all k d (omega (arith, below, h)))
