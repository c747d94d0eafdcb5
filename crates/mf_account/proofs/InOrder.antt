-- A list in order, looked at from its end.
use Rattle.std.proofs.Common.{◌≡◌, ℕ, zero, suc, ◌-◌, ◌<◌, ◌≤◌, ◌⊎◌, true, false, true≢false, List, [], ◌∷◌, length}
use Rattle.std.proofs.Common.{get_or, inl, inr, arith, ◌∙◌, ap, sym}
use Rattle.std.specs.Prelude.{insert, fold}
use Rattle.std.proofs.lemmas.Bool.{cases_lt, cases_Bool, cond_both}
use Rattle.mf_account.specs.declared.entry.Entry.{Entry}
use Rattle.mf_account.specs.Standing.{is_before, order_with, with_entry, no_entry, NoneBefore, IsInOrder}
use Rattle.mf_account.proofs.StandingLemmas.{placed-insert}
use Rattle.mf_account.proofs.StandingIsOne.{before-parts, before-again, before-asym, before-trans}

-- what not coming before means
not_before-parts : (a b : Entry) → is_before a b ≡ false → (b.day < a.day) ⊎ ((b.day ≡ a.day) × (b.seq ≤ a.seq))
not_before-parts a b none =
    elim (cases_lt b.day a.day) [
      | inl less ↦ inl less
      | inr more ↦
          elim (cases_lt a.day b.day) [
            | inl earlier ↦ absurd (true≢false (sym (before-again a b (inl earlier)) ∙ none))
            | inr same ↦
                elim (cases_lt a.seq b.seq) [
                  | inl first ↦ absurd (true≢false (sym (before-again a b (inr (omega arith, first))) ∙ none))
                  | inr last ↦ inr (omega arith, last)
                ]
          ]
    ]

not_before-trans : (a b c : Entry) → is_before a b ≡ false → is_before b c ≡ false → is_before a c ≡ false
not_before-trans a b c one other =
    elim (cases_Bool (is_before a c)) [
      | inl before ↦
          absurd (elim (before-parts a c before) [
            | inl less ↦ elim (not_before-parts a b one) [
              | inl p ↦ elim (not_before-parts b c other) [
                | inl q ↦ omega (arith, less, p, q)
                | inr q ↦ omega (
                  arith,
                  less,
                  p,
                  q.0,
                )
              ]
              | inr p ↦ elim (not_before-parts b c other) [
                | inl q ↦ omega (arith, less, p.0, q)
                | inr q ↦ omega (
                  arith,
                  less,
                  p.0,
                  q.0,
                )
              ]
            ]
            | inr tie ↦ elim (not_before-parts a b one) [
              | inl p ↦ elim (not_before-parts b c other) [
                | inl q ↦ omega (arith, tie.0, p, q)
                | inr q ↦ omega (
                  arith,
                  tie.0,
                  p,
                  q.0,
                )
              ]
              | inr p ↦ elim (not_before-parts b c other) [
                | inl q ↦ omega (arith, tie.0, p.0, q)
                | inr q ↦ omega (
                  arith,
                  tie.1,
                  p.1,
                  q.1,
                )
              ]
            ]
          ])
      | inr none ↦ none
    ]

before-not : (a b : Entry) → is_before a b ≡ true → is_before b a ≡ false
before-not a b before =
    elim (cases_Bool (is_before b a)) [ inl other ↦ absurd (before-asym a b before other) | inr none ↦ none ]

none_before-weaker : (e x : Entry) (xs : List Entry) → is_before e x ≡ true → NoneBefore x xs → NoneBefore e xs
none_before-weaker e x [] before none = tt
none_before-weaker e x (y ∷ ys) before none = (
  elim (cases_Bool (is_before y e)) [
    | inl earlier ↦ absurd (true≢false (sym (before-trans y e x earlier before) ∙ none.0))
    | inr late ↦ late
  ],
  none_before-weaker e x ys before none.1,
)

none_before-placed : (x e : Entry) (xs : List Entry) → is_before e x ≡ false → NoneBefore x xs
    → NoneBefore x (order_with e xs)
none_before-placed x e [] one none = (one, tt)
none_before-placed x e (y ∷ ys) one none =
    cond_both (is_before e y) (e ∷ y ∷ ys) (y ∷ order_with e ys) (NoneBefore x)
    (λ _. (one, none)) (λ _. (none.0, none_before-placed x e ys one none.1))

in_order-placed : (e : Entry) (xs : List Entry) → IsInOrder xs → IsInOrder (order_with e xs)
in_order-placed e [] is = (tt, tt)
in_order-placed e (x ∷ xs) is =
    cond_both (is_before e x) (e ∷ x ∷ xs) (x ∷ order_with e xs) IsInOrder
    (λ before. ((before-not e x before, none_before-weaker e x xs before is.0), is))
    (λ later. (none_before-placed x e xs later is.0, in_order-placed e xs is.1))

-- the fold keeps its list in order
pub in_order-fold : (order xs : List Entry) → IsInOrder order → IsInOrder (fold with_entry order xs)
in_order-fold order [] is = is
in_order-fold order (x ∷ xs) is =
    in_order-fold (with_entry order x) xs (cond_both x.reversed order (order_with x order) IsInOrder (λ _. is)
    (λ _. in_order-placed x order is))

none_before-at : (e : Entry) (xs : List Entry) (j : ℕ) → NoneBefore e xs → j < length xs
    → is_before (get_or xs j no_entry) e ≡ false
none_before-at e [] j none within = absurd (omega arith)
none_before-at e (x ∷ xs) zero none within = none.0
none_before-at e (x ∷ xs) (suc j) none within = none_before-at e xs j none.1 (omega arith)

in_order-at : (xs : List Entry) (i j : ℕ) → IsInOrder xs → i < j → j < length xs → is_before (get_or xs j no_entry)
    (get_or xs i no_entry) ≡ false
in_order-at [] i j is less within = absurd (omega arith)
in_order-at (x ∷ xs) i zero is less within = absurd (omega arith)
in_order-at (x ∷ xs) zero (suc j) is less within = none_before-at x xs j is.0 (omega arith)
in_order-at (x ∷ xs) (suc i) (suc j) is less within = in_order-at xs i j is.1 (omega arith) (omega arith)

-- an entry put behind the last that it does not come before
pub placed-after : (e : Entry) (xs : List Entry) (k : ℕ) (other : Entry) → k ≤ length xs → IsInOrder xs
    → ((j : ℕ) → k ≤ j → j < length xs → is_before e (get_or xs j no_entry) ≡ true) → 0 < k → get_or xs (k - 1) no_entry
    ≡ other → is_before e other ≡ false → order_with e xs ≡ insert xs k e
placed-after e xs k other within is later some at none =
    let last : is_before e (get_or xs (k - 1) no_entry) ≡ false = ap (is_before e) at ∙ none in
    placed-insert e xs k within
    (λ j below.
    elim (cases_lt j (k - 1)) [
      | inl less ↦ not_before-trans e (get_or xs (k - 1) no_entry) (get_or xs j no_entry) last
          (in_order-at xs j (k - 1) is less (omega arith))
      | inr here ↦ let same : j ≡ k - 1 = omega arith in ap (λ n. is_before e (get_or xs n no_entry)) same ∙ last
    ])
    (λ below. later k (omega arith) below)

-- an entry that comes before all
pub placed-before_all : (e : Entry) (xs : List Entry) → ((j : ℕ) → j < length xs → is_before e (get_or xs j no_entry)
    ≡ true) → order_with e xs ≡ insert xs 0 e
placed-before_all e xs later = placed-insert e xs 0 (omega arith) (λ j below. absurd (omega arith))
    (λ below. later 0 below)

-- one more that it comes before
pub later-more : (e : Entry) (xs : List Entry) (k n : ℕ) (other : Entry) → 0 < k → ((j : ℕ) → k ≤ j → j < n
    → is_before e (get_or xs j no_entry) ≡ true) → get_or xs (k - 1) no_entry ≡ other → is_before e other ≡ true
    → (j : ℕ) → k - 1 ≤ j → j < n → is_before e (get_or xs j no_entry) ≡ true
later-more e xs k n other some later at before j from to =
    elim (cases_lt j k) [
      | inl here ↦ let same : j ≡ k - 1 = omega arith in ap (λ m. is_before e (get_or xs m no_entry)) same
          ∙ ap (is_before e) at ∙ before
      | inr past ↦ later j past to
    ]
