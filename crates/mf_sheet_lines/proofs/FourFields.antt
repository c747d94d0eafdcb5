-- The fields of a record, by their places.
use Rattle.std.proofs.Common.{◌≡◌, ◌<◌, ℕ, zero, suc, List, [], ◌∷◌, length, Some, None, arith}
use Rattle.std.proofs.lemmas.Option.{same_Some}
use Rattle.csv.specs.Records.{field_at}
use Rattle.mf_sheet_lines.specs.Lines.{four_columns_of}

-- each place below their number has a field
pub is_there : (fields : List (List ℕ)) (place : ℕ) → None ≡ field_at fields place → place < length fields → ⊥
unfolding field_at
is_there [] place missing below = omega arith
is_there (f ∷ fs) zero missing below = cc missing
is_there (f ∷ fs) (suc place) missing below = is_there fs place missing (omega arith)

pub columns_are : (fields : List (List ℕ)) (a b c d : List ℕ) → length fields ≡ 4 → Some a ≡ field_at fields 0
    → Some b ≡ field_at fields 1 → Some c ≡ field_at fields 2 → Some d ≡ field_at fields 3
    → Some (record { receipt = a; loan = b; date = c; amount = d }) ≡ four_columns_of fields
unfolding field_at
columns_are [] a b c d four e f g h = absurd (omega arith)
columns_are (w ∷ []) a b c d four e f g h = absurd (omega arith)
columns_are (w ∷ x ∷ []) a b c d four e f g h = absurd (omega arith)
columns_are (w ∷ x ∷ y ∷ []) a b c d four e f g h = absurd (omega arith)
columns_are (w ∷ x ∷ y ∷ z ∷ []) a b c d four e f g h =
    let p = same_Some a w e in
    let q = same_Some b x f in
    let r = same_Some c y g in
    let s = same_Some d z h in
    (λ i. Some (record { receipt = p i; loan = q i; date = r i; amount = s i }))
columns_are (w ∷ x ∷ y ∷ z ∷ v ∷ rest) a b c d four e f g h = absurd (omega arith)
