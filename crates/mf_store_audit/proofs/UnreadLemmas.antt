-- The value for which no record can hold a row.
use Rattle.std.proofs.Common.{◌≡◌, ◌↔◌, ◌⊎◌, ◌<◌, ◌≤◌, ◌+◌, ◌^◌, ℕ, ℤ, pos, negsuc, Bool, true, false, List, [], ◌∷◌}
use Rattle.std.proofs.Common.{length, IsTrue, inl, inr, sym, subst, refl, ◌∙◌, true≢false, arith}
use Rattle.std.specs.Str.{is_utf8, IsUtf8}
use Rattle.std.proofs.lemmas.Str.{IsUtf8-from_is_utf8, is_utf8-from_IsUtf8}
use Rattle.std.proofs.lemmas.Bool.{ltb-true, ltb-false}
use Rattle.std.proofs.Math.Dec.{ltb}
use Rattle.sqlite.specs.declared.types.Value.{Value}
use Rattle.sqlite.specs.declared.types.Value.TheVariants.{Null, Int, Text as Words}
use Rattle.sqlite.specs.Order.{Row, column}
use Rattle.mf_store_sql.specs.Columns.{Field, Named, Number, Amount, Text, Bytes, MaybeNumber, MaybeText}
use Rattle.mf_store_schema.specs.Fields.{IsNumber, IsText, CanHold, CanHoldFrom, HasFields}
use Rattle.mf_store_schema.proofs.TreeLemmas.{past_end}
use Rattle.mf_store_audit.specs.Unread.{IsBadText, HasBadText, IsOfType, AreOfTypesFrom, IsTyped, IsBadNumber, IsBadIn}
use Rattle.mf_store_audit.specs.Unread.{HasBadNumberFrom}

number_or_bad : (v : Value) (n : ℤ) → v ≡ Int n → IsNumber v ⊎ IsBadNumber v
number_or_bad v (negsuc n) is = inr (inl (n, is))
number_or_bad v (pos n) is = go (ltb n (2 ^ 32)) refl
  where
    go : (b : Bool) → ltb n (2 ^ 32) ≡ b → IsNumber v ⊎ IsBadNumber v
    go true e = inl (n, is, ltb-true n (2 ^ 32) e)
    go false e = inr (inr (n, is, ltb-false n (2 ^ 32) e))

text_held : (v : Value) (t : List ℕ) → v ≡ Words t → ¬ IsBadText v → IsText v
text_held v t is good = go (is_utf8 t) refl
  where
    go : (b : Bool) → is_utf8 t ≡ b → IsText v
    go true e = (t, is, IsUtf8-from_is_utf8 t e)
    go false e = absurd (good (t, is, λ utf8. true≢false (sym (is_utf8-from_IsUtf8 t utf8) ∙ e)))

field_held : (f : Field) (v : Value) → IsOfType f v → ¬ IsBadText v → CanHold f v ⊎ IsBadIn f v
field_held Number v of good = number_or_bad v of.0 of.1
field_held Amount v of good = inl of
field_held Text v of good = inl (text_held v of.0 of.1 good)
field_held Bytes v of good = inl of
field_held MaybeNumber v (inl is) good = inl (inl is)
field_held MaybeNumber v (inr of) good = go (number_or_bad v of.0 of.1)
  where
    go : IsNumber v ⊎ IsBadNumber v → CanHold MaybeNumber v ⊎ IsBadNumber v
    go (inl held) = inl (inr held)
    go (inr bad) = inr bad
field_held MaybeText v (inl is) good = inl (inl is)
field_held MaybeText v (inr of) good = inl (inr (text_held v of.0 of.1 good))

columns_held : (at : ℕ) (cs : List Named) (row : Row) → AreOfTypesFrom at cs row → ¬ HasBadText row
    → CanHoldFrom at cs row ⊎ HasBadNumberFrom at cs row
columns_held at [] row of good = inl tt
columns_held at (c ∷ cs) row of good =
    go (field_held c.field (column row at) of.0 (λ bad. good (at, bad))) (columns_held (at + 1) cs row of.1 good)
  where
    go : CanHold c.field (column row at) ⊎ IsBadIn c.field (column row at) → CanHoldFrom (at + 1) cs row
        ⊎ HasBadNumberFrom (at + 1) cs row
        → CanHoldFrom at (c ∷ cs) row ⊎ HasBadNumberFrom at (c ∷ cs) row
    go (inl here) (inl later) = inl (here, later)
    go (inl here) (inr later) = inr (inr later)
    go (inr here) later = inr (inl here)

-- where each text is UTF-8 and each value of its column's type, a number is out of range
pub out_of_range : (cs : List Named) (row : Row) → ¬ HasFields cs row → ¬ HasBadText row → IsTyped cs row
    → HasBadNumberFrom 0 cs row
out_of_range cs row unread good typed = go (columns_held 0 cs row typed.types good)
  where
    go : CanHoldFrom 0 cs row ⊎ HasBadNumberFrom 0 cs row → HasBadNumberFrom 0 cs row
    go (inl held) = absurd (unread (record { width = typed.width; values = held }))
    go (inr bad) = bad

null_good : (v : Value) → v ≡ Null → ¬ IsBadText v
null_good v null bad = absurd (cc)

-- ---- a value, and the columns of a row, one by one

pub is_bad : (v : Value) (t : List ℕ) → v ≡ Words t → ¬ IsUtf8 t → IsTrue true ↔ IsBadText v
is_bad v t is bad = (λ yes. (t, is, bad), λ has. refl)

pub below_more : (row : Row) (n : ℕ) → ((k : ℕ) → k < n → ¬ IsBadText (column row k)) → ¬ IsBadText (column row n)
    → (k : ℕ) → k < n + 1 → ¬ IsBadText (column row k)
below_more row n below here k low = go (ltb k n) refl
  where
    go : (b : Bool) → ltb k n ≡ b → ¬ IsBadText (column row k)
    go true e = below k (ltb-true k n e)
    go false e =
        let high : n ≤ k = ltb-false k n e in
        let same : k ≡ n = omega (arith) in
        subst (λ m. ¬ IsBadText (column row m)) (sym same) here

-- past the end a column is NULL, which is no text
pub none_bad : (row : Row) (n : ℕ) → length row ≤ n → ((k : ℕ) → k < n → ¬ IsBadText (column row k)) → ¬ HasBadText row
none_bad row n all below has = go (ltb has.0 n) refl
  where
    go : (b : Bool) → ltb has.0 n ≡ b → ⊥
    go true e = below has.0 (ltb-true has.0 n e) has.1
    go false e =
        let high : n ≤ has.0 = ltb-false has.0 n e in
        let past : length row ≤ has.0 = omega (arith) in
        null_good (column row has.0) (past_end row has.0 past) has.1

pub has_none : (row : Row) → ¬ HasBadText row → IsTrue false ↔ HasBadText row
has_none row none = (λ no. absurd (true≢false (sym no)), λ has. absurd (none has))
