-- Lists of repayments that hold the same ones, each once, are the same in another order.
use Rattle.std.proofs.Common.{◌≡◌, ◌⊎◌, List, [], ◌∷◌, ◌++◌, map, inl, inr, refl, sym, ap, ◌∙◌, subst, append_assoc}
use Rattle.std.specs.List.{AllByRecursion}
use Rattle.std.proofs.lemmas.List.{map-append}
use Rattle.mf_account.specs.declared.entry.Entry.{Entry}
use Rattle.mf_account.specs.declared.entry.Kind.TheVariants.{Repay}
use Rattle.mf_guarantees.specs.Reorder.{what_counts, AreReshuffled, as_they_were, exchanged, further}

-- an entry is one of these
abbrev pub IsAmong : Entry → List Entry → Type 0
IsAmong x [] = ⊥
IsAmong x (y ∷ ys) = (x ≡ y) ⊎ IsAmong x ys

-- no entry stands twice
abbrev pub EachOnce : List Entry → Type 0
EachOnce [] = Unit {0}
EachOnce (x ∷ xs) = (IsAmong x xs → ⊥) × EachOnce xs

abbrev pub OnlyRepay : List Entry → Type 0
OnlyRepay xs = AllByRecursion (λ (x : Entry). x.kind ≡ Repay) xs

-- ---- where an entry stands

record StandsIn (x : Entry) (xs : List Entry) : Type 0 where
  before : List Entry
  behind : List Entry
  is : xs ≡ before ++ x ∷ behind

stands : (x : Entry) (xs : List Entry) → IsAmong x xs → StandsIn x xs
stands x [] among = absurd among
stands x (y ∷ ys) (inl same) = record { before = []; behind = ys; is = ap (λ z. z ∷ ys) (sym same) }
stands x (y ∷ ys) (inr among) =
    let rest = stands x ys among in
    record { before = y ∷ rest.before; behind = rest.behind; is = ap (λ zs. y ∷ zs) rest.is }

among_more : (z x : Entry) (front back : List Entry) → IsAmong z (front ++ back) → IsAmong z (front ++ x ∷ back)
among_more z x [] back among = inr among
among_more z x (f ∷ front) back (inl same) = inl same
among_more z x (f ∷ front) back (inr among) = inr (among_more z x front back among)

among_less : (z x : Entry) (front back : List Entry) → IsAmong z (front ++ x ∷ back)
    → (z ≡ x) ⊎ IsAmong z (front ++ back)
among_less z x [] back (inl same) = inl same
among_less z x [] back (inr among) = inr among
among_less z x (f ∷ front) back (inl same) = inr (inl same)
among_less z x (f ∷ front) back (inr among) = elim (among_less z x front back among) [
  | inl same ↦ inl same
  | inr rest ↦ inr (inr rest)
]

-- without it
record Without (x : Entry) (front back : List Entry) : Type 0 where
  gone : IsAmong x (front ++ back) → ⊥
  once : EachOnce (front ++ back)
  repay : OnlyRepay (front ++ back)
  front_repay : OnlyRepay front

without : (x : Entry) (front back : List Entry) → EachOnce (front ++ x ∷ back) → OnlyRepay (front ++ x ∷ back)
    → Without x front back
without x [] back once repay = record { gone = once.0; once = once.1; repay = repay.1; front_repay = tt }
without x (f ∷ front) back once repay =
    let rest = without x front back once.1 repay.1 in
    record {
      gone = λ among. elim among [
        | inl same ↦ once.0 (subst (λ (z : Entry). IsAmong z (front ++ x ∷ back)) same (here front))
        | inr more ↦ rest.gone more
      ];
      once = (λ among. once.0 (among_more f x front back among), rest.once);
      repay = (repay.0, rest.repay);
      front_repay = (repay.0, rest.front_repay);
    }
  where
    here : (front : List Entry) → IsAmong x (front ++ x ∷ back)
    here [] = inl refl
    here (g ∷ front) = inr (here front)

-- ---- one entry is put elsewhere

behind_one : (x : Entry) {xs ys : List Entry} → AreReshuffled xs ys → AreReshuffled (x ∷ xs) (x ∷ ys)
behind_one x (as_they_were entries) = as_they_were (x ∷ entries)
behind_one x (exchanged before a b behind may) = exchanged (x ∷ before) a b behind may
behind_one x (further xs ys zs first next) =
    further (x ∷ xs) (x ∷ ys) (x ∷ zs) (behind_one x first) (behind_one x next)

put_behind : (x : Entry) (front back : List Entry) → x.kind ≡ Repay → OnlyRepay front
    → AreReshuffled (x ∷ (front ++ back)) (front ++ x ∷ back)
put_behind x [] back is repay = as_they_were (x ∷ back)
put_behind x (f ∷ front) back is repay =
    further (x ∷ f ∷ (front ++ back)) (f ∷ x ∷ (front ++ back)) (f ∷ (front ++ x ∷ back))
    (exchanged [] x f (front ++ back) (inr (is, repay.0)))
    (behind_one f (put_behind x front back is repay.1))

-- ---- the same entries in another order

pub shuffled : (xs ys : List Entry) → EachOnce xs → EachOnce ys → OnlyRepay xs → OnlyRepay ys
    → ((z : Entry) → IsAmong z xs → IsAmong z ys) → ((z : Entry) → IsAmong z ys → IsAmong z xs) → AreReshuffled xs ys
shuffled [] [] once_xs once_ys repay_xs repay_ys there back = as_they_were []
shuffled [] (y ∷ ys) once_xs once_ys repay_xs repay_ys there back = absurd (back y (inl refl))
shuffled (x ∷ xs) ys once_xs once_ys repay_xs repay_ys there back =
    let at = stands x ys (there x (inl refl)) in
    let front : List Entry = at.before in
    let behind : List Entry = at.behind in
    let rest = without x front behind (subst EachOnce at.is once_ys) (subst OnlyRepay at.is repay_ys) in
    let less : AreReshuffled xs (front ++ behind) =
    shuffled xs (front ++ behind) once_xs.1 rest.once repay_xs.1 rest.repay
    (λ z among. elim (among_less z x front behind (subst (IsAmong z) at.is (there z (inr among)))) [
      | inl same ↦ absurd (once_xs.0 (subst (λ (w : Entry). IsAmong w xs) same among))
      | inr more ↦ more
    ])
    (λ z among. elim (back z (subst (IsAmong z) (sym at.is) (among_more z x front behind among))) [
      | inl same ↦ absurd (rest.gone (subst (λ (w : Entry). IsAmong w (front ++ behind)) same among))
      | inr more ↦ more
    ]) in
    subst (AreReshuffled (x ∷ xs)) (sym at.is)
    (further (x ∷ xs) (x ∷ (front ++ behind)) (front ++ x ∷ behind) (behind_one x less)
    (put_behind x front behind repay_xs.0 rest.front_repay))

-- behind others, in what counts of each
parted : (first before : List Entry) (a b : Entry) (behind : List Entry)
    → first ++ map what_counts (before ++ a ∷ b ∷ behind)
    ≡ (first ++ map what_counts before) ++ what_counts a ∷ what_counts b ∷ map what_counts behind
parted first before a b behind =
    ap (λ (es : List Entry). first ++ es) (map-append what_counts before (a ∷ b ∷ behind))
    ∙ sym (append_assoc first (map what_counts before) (what_counts a ∷ what_counts b ∷ map what_counts behind))

pub shuffled_behind : (first : List Entry) {xs ys : List Entry} → AreReshuffled xs ys
    → AreReshuffled (first ++ map what_counts xs) (first ++ map what_counts ys)
shuffled_behind first (as_they_were entries) = as_they_were (first ++ map what_counts entries)
shuffled_behind first (exchanged before a b behind may) =
    subst (λ (zs : List Entry). AreReshuffled zs (first ++ map what_counts (before ++ b ∷ a ∷ behind)))
    (sym (parted first before a b behind))
    (subst (AreReshuffled ((first ++ map what_counts before) ++ what_counts a ∷ what_counts b
    ∷ map what_counts behind)) (sym (parted first before b a behind))
    (exchanged (first ++ map what_counts before) (what_counts a) (what_counts b) (map what_counts behind) may))
shuffled_behind first (further xs ys zs one next) =
    further (first ++ map what_counts xs) (first ++ map what_counts ys) (first ++ map what_counts zs)
    (shuffled_behind first one) (shuffled_behind first next)
