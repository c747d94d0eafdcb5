-- Tests of a loan's entries, by their rows.
use Rattle.std.proofs.Common.{◌≡◌, ◌<◌, ◌+◌, ◌∙◌, ◌&&◌, ◌==◌, ℕ, zero, suc, Bool, List, [], ◌∷◌, map, length}
use Rattle.std.proofs.Common.{get_or, drop, sym, ap, subst, arith}
use Rattle.std.specs.Prelude.{◌||◌, not}
use Rattle.std.specs.List.{AllByRecursion, list_all}
use Rattle.mf_account.specs.Kinds.{is_seal}
use Rattle.mf_account.specs.Lawful.{is_last_of}
use Rattle.mf_account.specs.Standing.{is_before}
use Rattle.mf_account.specs.declared.entry.Entry.{Entry}

-- an entry is reversed, or this one, or before it
abbrev pub is_past_of : Entry → Entry → Bool
is_past_of e f = f.reversed || ((f.seq == e.seq) || is_before f e)

-- an entry is the last, if it is a seal that stands
abbrev pub is_in_order_of : List Entry → Entry → Bool
is_in_order_of entries e = e.reversed || (not (is_seal e.kind) || is_last_of entries e)

module _ {A R : Type 0} (make : A → R) (T : A → Bool) (P : A → Type 0) where
  turn : (xs : List A) (i : ℕ) (r : R) (b : Bool) → AllByRecursion P xs → i < length (map make xs)
      → r ≡ get_or (map make xs) i r → ((x : A) → P x → make x ≡ r → b ≡ T x)
      → list_all T (drop i xs) ≡ (b && list_all T (drop (i + 1) xs))
  turn [] i r b p h is tells = absurd (omega arith)
  turn (x ∷ xs) zero r b p h is tells = ap (λ c. c && list_all T xs) (sym (tells x p.0 (sym is)))
  turn (x ∷ xs) (suc i) r b p h is tells = turn xs i r b p.1 (omega arith) is tells
      ∙ ap (λ k. b && list_all T (drop k (x ∷ xs))) (let one : suc (i + 1) ≡ suc i + 1 = omega arith in one)

  -- the row at i was tested
  pub tested : (xs : List A) (rows : List R) (i : ℕ) → map make xs ≡ rows → (X : Bool) → X ≡ list_all T (drop i xs)
      → (r : R) (b v : Bool) → AllByRecursion P xs → i < length rows → r ≡ get_or rows i r
      → ((x : A) → P x → make x ≡ r → b ≡ T x) → b ≡ v → X ≡ (v && list_all T (drop (i + 1) xs))
  tested xs rows i are X so_far r b v p h is tells answer = so_far
      ∙ turn xs i r b p (subst (λ rs. i < length rs) (sym are) h) (subst (λ rs. r ≡ get_or rs i r) (sym are) is) tells
      ∙ ap (λ c. c && list_all T (drop (i + 1) xs)) answer
