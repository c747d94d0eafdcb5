-- A row is its columns.
use Rattle.std.proofs.Common.{◌≡◌, ◌+◌, ℕ, suc, [], ◌∷◌, length, sym, ap, ap₂, ◌∙◌, refl, arith}
use Rattle.sqlite.specs.Order.{Row, column}

-- the row's columns from this one on are these values
abbrev pub HasColumnsFrom : ℕ → Row → Row → Type 0
HasColumnsFrom at row [] = Unit {0}
HasColumnsFrom at row (v ∷ vs) = (column row at ≡ v) × HasColumnsFrom (at + 1) row vs

pub row_is : (row vs : Row) → length row ≡ length vs → HasColumnsFrom 0 row vs → vs ≡ row
row_is [] [] n h = refl
row_is [] (v ∷ vs) n h = absurd (omega (arith, n))
row_is (x ∷ row) [] n h = absurd (omega (arith, n))
row_is (x ∷ row) (v ∷ vs) n h = ap₂ ◌∷◌ (sym h.0) (row_is row vs (omega (arith, n)) (later vs 0 h.1))
  where
    later : (us : Row) (at : ℕ) → HasColumnsFrom (at + 1) (x ∷ row) us → HasColumnsFrom at row us
    later [] at rest = tt
    later (u ∷ us) at rest = let next : suc at ≡ at + 1 =
        omega arith in (ap (column (x ∷ row)) next ∙ rest.0, later us (at + 1) rest.1)
