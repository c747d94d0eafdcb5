-- Hierarchy texts, called keys, and the range of texts that an office selects.
use Rattle.std.specs.Prelude.{◌≡◌, ℕ, zero, suc, ◌-◌, ◌≤◌, Bool, true, false, not, ◌&&◌, ◌||◌, List, [], ◌∷◌, ◌++◌}
use Rattle.std.specs.Prelude.{length, slice_index, count_by, nat_lt, ◌==◌, Option, Some, None, decimal, codes}
use Rattle.mf_office.specs.Numbers.{IsNumberUpTo}

-- the key of the head
abbrev pub head_key : List ℕ
head_key = codes "."

-- a child's key: its parent's, its own number and a dot
abbrev pub child_key : List ℕ → ℕ → List ℕ
child_key parent_key number = parent_key ++ (decimal number ++ codes ".")

-- where there is no parent the key is the head's, else a child's
abbrev pub key_under : Option ℕ → (ℕ → List ℕ) → ℕ → List ℕ
key_under None above x = head_key
key_under (Some p) above x = child_key (above p) x

-- the key of x, of which the head is at most n steps up
unfoldable pub key_within : ℕ → (ℕ → Option ℕ) → ℕ → List ℕ
key_within zero parents x = head_key
key_within (suc n) parents x = key_under (parents x) (λ p. key_within n parents p) x

-- the hierarchy text of x. A tree is at most six deep, so five steps lead up to the head
unfoldable pub key_of : (ℕ → Option ℕ) → ℕ → List ℕ
key_of parents x = key_within 5 parents x

-- how deep the office of a key stands, the head at 1: a dot for each office on the way
abbrev pub key_depth : List ℕ → ℕ
key_depth key = count_by (λ b. b == 46) key

-- a text for each office, the head's a dot and a child's its parent's, its own number and a dot, with at most six dots
pub record GrowsByParents (there : ℕ → Bool) (parents : ℕ → Option ℕ) (text : ℕ → List ℕ) : Type 0 where
  pub numbered : (x : ℕ) → there x ≡ true → IsNumberUpTo 9999 x
  pub head_there : there 1 ≡ true
  pub head : parents 1 ≡ None
  pub only_head : (x : ℕ) → there x ≡ true → parents x ≡ None → x ≡ 1
  pub parents_there : (x p : ℕ) → there x ≡ true → parents x ≡ Some p → there p ≡ true
  pub head_text : text 1 ≡ head_key
  pub child_text : (x p : ℕ) → there x ≡ true → parents x ≡ Some p → text x ≡ child_key (text p) x
  pub depth : (x : ℕ) → there x ≡ true → key_depth (text x) ≤ 6

-- what every key does
abbrev pub EndsWithDot : List ℕ → Type 0
EndsWithDot text = slice_index text (length text - 1) ≡ 46

-- the text with a slash, the byte after the dot, for its last byte
abbrev pub with_last_raised : List ℕ → List ℕ
with_last_raised [] = []
with_last_raised (c ∷ []) = 47 ∷ []
with_last_raised (c ∷ d ∷ cs) = c ∷ with_last_raised (d ∷ cs)

-- a stands before b, by bytes
abbrev pub is_before_by_bytes : List ℕ → List ℕ → Bool
is_before_by_bytes [] [] = false
is_before_by_bytes [] (b ∷ bs) = true
is_before_by_bytes (a ∷ rest) [] = false
is_before_by_bytes (a ∷ rest) (b ∷ bs) = nat_lt a b || ((a == b) && is_before_by_bytes rest bs)

-- low ≤ text < high
abbrev pub is_in_range : List ℕ → List ℕ → List ℕ → Bool
is_in_range low high text = not (is_before_by_bytes text low) && is_before_by_bytes text high
