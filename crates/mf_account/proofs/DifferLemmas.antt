-- Two lists of parts by entry, gone over side by side.
use Rattle.std.proofs.Common.{◌≡◌, ◌≢◌, ℕ, ◌+◌, ◌-◌, ◌<◌, ◌≤◌, ◌⊎◌, Bool, true, false, not, ◌&&◌, eqb, ltb, cond, List}
use Rattle.std.proofs.Common.{[], ◌∷◌, ◌++◌, length, get_or, take, drop, Less, Equal, Greater, inl, inr, arith, refl}
use Rattle.std.proofs.Common.{◌∙◌, ap, sym, subst}
use Rattle.std.specs.Prelude.{All}
use Rattle.std.specs.List.Sorted.{IsNonDecreasingBy, IsStableBy, ties}
use Rattle.std.specs.Ordering.{is_lt, nat_cmp}
use Rattle.std.proofs.lemmas.Bool.{cases_lt, cases_order, lt-ltb, le-ltb, eq-eqb, ne_eqb}
use Rattle.std.proofs.lemmas.List.{get_or_default, get_or-take, get_or-drop, take-append-drop, length-take-le}
use Rattle.std.proofs.lemmas.List.{length-drop, append-nil}
use Rattle.std.proofs.lemmas.List.Elements.{filter_agree}
use Rattle.mf_account.specs.declared.settled.SettledPart.{SettledPart}
use Rattle.mf_account.specs.Change.{HasOtherParts, settled_in}
use Rattle.mf_account.specs.Applicable.{no_settled}
use Rattle.mf_account.proofs.ChangeLemmas.{AreBelow, below-more, below-same, none-in, settled_in-append}

-- a stable sort by number leaves the parts of one entry as they are
less-only : (t u : Bool) → is_lt (cond t Less (cond u Equal Greater)) ≡ t
less-only true u = refl
less-only false true = refl
less-only false false = refl

is_lt-nat : (a b : ℕ) → is_lt (nat_cmp a b) ≡ ltb a b
is_lt-nat a b = less-only (ltb a b) (eqb a b)

ties-same : (a b : ℕ) → (not (ltb a b) && not (ltb b a)) ≡ eqb b a
ties-same a b =
    elim (cases_order a b) [
      | inl same ↦
          ap (λ t. not t && not (ltb b a)) (le-ltb a b (omega (arith, same)))
          ∙ ap (λ t. not t) (le-ltb b a (omega (arith, same)))
          ∙ sym (eq-eqb b a (sym same))
      | inr apart ↦
          elim apart [
            | inl less ↦ ap (λ t. not t && not (ltb b a)) (lt-ltb a b less)
                ∙ sym (ne_eqb b a (λ same. omega (arith, less, same)))
            | inr more ↦
                ap (λ t. not t && not (ltb b a)) (le-ltb a b (omega (arith, more)))
                ∙ ap (λ t. not t) (lt-ltb b a more)
                ∙ sym (ne_eqb b a (λ same. omega (arith, more, same)))
          ]
    ]

ties-number : (x s : SettledPart) → ties (λ (a b : SettledPart). is_lt (nat_cmp a.seq b.seq)) x s ≡ eqb s.seq x.seq
ties-number x s =
    ap (λ t. not t && not (is_lt (nat_cmp s.seq x.seq))) (is_lt-nat x.seq s.seq)
    ∙ ap (λ t. not (ltb x.seq s.seq) && not t) (is_lt-nat s.seq x.seq)
    ∙ ties-same x.seq s.seq

pub stable-parts : (seq : ℕ) (parts sorted : List SettledPart)
    → IsStableBy (λ (a b : SettledPart). is_lt (nat_cmp a.seq b.seq))
    parts sorted → settled_in seq sorted ≡ settled_in seq parts
stable-parts seq parts sorted stable =
    let x : SettledPart = record no_settled { seq = seq } in
    sym (filter_agree _ (λ (s : SettledPart). eqb s.seq seq) (ties-number x) sorted)
    ∙ stable x
    ∙ filter_agree _ (λ (s : SettledPart). eqb s.seq seq) (ties-number x) parts

-- what holds at each place holds of all
all-at : (P : SettledPart → Type 0) (parts : List SettledPart)
    → ((j : ℕ) → j < length parts → P (get_or parts j no_settled))
    → All P parts
all-at P parts each = λ j d below. subst P (get_or_default parts j no_settled d below) (each j below)

-- the parts of an entry all lie in a stretch
part-in : (seq : ℕ) (parts : List SettledPart) (i e : ℕ) → i ≤ e → e ≤ length parts
    → ((j : ℕ) → j < i → (get_or parts j no_settled).seq ≢ seq) → ((j : ℕ) → e ≤ j → j < length parts
    → (get_or parts j no_settled).seq ≢ seq) → settled_in seq parts ≡ settled_in seq (take (e - i) (drop i parts))
part-in seq parts i e up within before later =
    let mid : List SettledPart = take (e - i) (drop i parts) in
    let rest : List SettledPart = drop (e - i) (drop i parts) in
    let size_front = length-take-le i parts (omega (arith, up, within)) in
    let size_drop = length-drop i parts in
    let size_rest = length-drop (e - i) (drop i parts) in
    let front_none : settled_in seq (take i parts) ≡ [] =
    none-in seq (take i parts) (all-at (λ (s : SettledPart). s.seq ≢ seq) (take i parts) (λ j below.
    subst (λ (s : SettledPart). s.seq ≢ seq) (sym (get_or-take i parts j no_settled (omega (arith, below, size_front))))
    (before j (omega (arith, below, size_front))))) in
    let rest_none : settled_in seq rest ≡ [] =
    none-in seq rest (all-at (λ (s : SettledPart). s.seq ≢ seq) rest (λ j below.
    subst (λ (s : SettledPart). s.seq ≢ seq) (sym (get_or-drop (e - i) (drop i parts) j no_settled
    ∙ get_or-drop i parts (e - i + j) no_settled))
    (later (i + (e - i + j)) (omega (arith, up)) (omega (arith, below, size_rest, size_drop, up))))) in
    ap (settled_in seq) (sym (take-append-drop i parts))
    ∙ settled_in-append seq (take i parts) (drop i parts)
    ∙ ap (λ (x : List SettledPart). x ++ settled_in seq (drop i parts)) front_none
    ∙ ap (settled_in seq) (sym (take-append-drop (e - i) (drop i parts)))
    ∙ settled_in-append seq mid rest
    ∙ ap (λ (x : List SettledPart). settled_in seq mid ++ x) rest_none
    ∙ append-nil (settled_in seq mid)

-- how far one list has been gone over: up to a place, all numbers below m and no other
pub record IsUpTo (m : ℕ) (parts : List SettledPart) (i : ℕ) : Type 0 where
  pub within : i ≤ length parts
  pub low : (j : ℕ) → j < i → (get_or parts j no_settled).seq < m
  pub high : (j : ℕ) → i ≤ j → j < length parts → m ≤ (get_or parts j no_settled).seq

-- the parts of entry q from a place on, none with a lower number being left
pub record IsRun (q : ℕ) (parts : List SettledPart) (i e : ℕ) : Type 0 where
  pub from : i ≤ e
  pub within : e ≤ length parts
  pub own : (j : ℕ) → i ≤ j → j < e → (get_or parts j no_settled).seq ≡ q
  pub last : e < length parts → (get_or parts e no_settled).seq ≢ q
  pub least : (j : ℕ) → i ≤ j → j < length parts → q ≤ (get_or parts j no_settled).seq

beyond : (q : ℕ) (parts : List SettledPart) (i e j : ℕ) → IsNonDecreasingBy (λ (s : SettledPart). s.seq) parts
    → IsRun q parts i e → e ≤ j → j < length parts → q + 1 ≤ (get_or parts j no_settled).seq
beyond q parts i e j up run from to =
    let least = run.least e run.from (omega (arith, from, to)) in
    let other = run.last (omega (arith, from, to)) in
    let rises = up e j no_settled from to in
    omega (arith, least, other, rises)

pub upto-next : (m q : ℕ) (parts : List SettledPart) (i e : ℕ) → IsNonDecreasingBy (λ (s : SettledPart). s.seq) parts
    → m ≤ q
    → IsUpTo m parts i → IsRun q parts i e → IsUpTo (q + 1) parts e
upto-next m q parts i e up more is run = record {
  within = run.within;
  low = λ j below. elim (cases_lt j i) [
    | inl less ↦ let low = is.low j less in omega (arith, low, more)
    | inr here ↦ let own = run.own j here below in omega (arith, own)
  ];
  high = λ j from to. beyond q parts i e j up run from to;
}

run-parts : (m q : ℕ) (parts : List SettledPart) (i e : ℕ) → IsNonDecreasingBy (λ (s : SettledPart). s.seq) parts
    → m ≤ q
    → IsUpTo m parts i → IsRun q parts i e → settled_in q parts ≡ settled_in q (take (e - i) (drop i parts))
run-parts m q parts i e up more is run =
    part-in q parts i e run.from run.within
    (λ j below same. let low = is.low j below in omega (arith, low, more, same))
    (λ j from to same. let high = beyond q parts i e j up run from to in omega (arith, high, same))

gap-none : (m q s : ℕ) (parts : List SettledPart) (i e : ℕ) → IsUpTo m parts i → IsRun q parts i e → m ≤ s → s < q
    → settled_in s parts ≡ []
gap-none m q s parts i e is run from to =
    none-in s parts (all-at (λ (x : SettledPart). x.seq ≢ s) parts (λ j below same.
    elim (cases_lt j i) [
      | inl less ↦ let low = is.low j less in omega (arith, low, from, same)
      | inr here ↦ let high = run.least j here below in omega (arith, high, to, same)
    ]))

pub end-none : (m s : ℕ) (parts : List SettledPart) (i : ℕ) → IsUpTo m parts i → length parts ≤ i → m ≤ s
    → settled_in s parts ≡ []
end-none m s parts i is end from =
    none-in s parts (all-at (λ (x : SettledPart). x.seq ≢ s) parts (λ j below same. let low = is.low j
    (omega (arith, below, end)) in omega (arith, low, from, same)))

-- how far two lists have been gone over, and the numbers found
pub record IsWalked (before after : List SettledPart) (i k : ℕ) (xs : List ℕ) (m : ℕ) : Type 0 where
  pub found : AreBelow m (HasOtherParts before after) xs
  pub before_is : IsUpTo m before i
  pub after_is : IsUpTo m after k

gap : (before after : List SettledPart) (i k next_i next_k m q : ℕ) → IsUpTo m before i → IsUpTo m after k
    → IsRun q before i next_i → IsRun q after k next_k → (s : ℕ) → m ≤ s → s < q → HasOtherParts before after s → ⊥
gap before after i k next_i next_k m q one other run_i run_k = λ s from to differ.
    differ (gap-none m q s before i next_i one run_i from to ∙ sym (gap-none m q s after k next_k other run_k from to))

-- the least number left is not below those gone over
pub least-up : (before after : List SettledPart) (i k m q : ℕ) → IsUpTo m before i → IsUpTo m after k
    → ((i < length before)
    × ((get_or before i no_settled).seq ≡ q)) ⊎ ((k < length after) × ((get_or after k no_settled).seq ≡ q)) → m ≤ q
least-up before after i k m q one other (inl here) = let high =
    one.high i (omega arith) here.0 in omega (arith, high, here.1)
least-up before after i k m q one other (inr here) = let high =
    other.high k (omega arith) here.0 in omega (arith, high, here.1)

pub walked-other : (before after : List SettledPart) (i k next_i next_k m q : ℕ) (xs ys : List ℕ)
    → IsNonDecreasingBy (λ (s : SettledPart). s.seq) before → IsNonDecreasingBy (λ (s : SettledPart). s.seq) after
    → IsWalked before after i k xs m → m ≤ q → IsRun q before i next_i → IsRun q after k next_k
    → (settled_in q (take (next_i - i) (drop i before)) ≢ settled_in q (take (next_k - k) (drop k after))) → ys ≡ xs
    ++ q ∷ [] → IsWalked before after next_i next_k ys (q + 1)
walked-other before after i k next_i next_k m q xs ys up_before up_after walked more run_i run_k differ is = record {
  found = subst (AreBelow (q + 1) (HasOtherParts before after)) (sym is)
      (below-more m q (HasOtherParts before after) xs walked.found more (gap before after i k next_i next_k m q
      walked.before_is walked.after_is run_i run_k)
      (λ same. differ (sym (run-parts m q before i next_i up_before more walked.before_is run_i) ∙ same
      ∙ run-parts m q after k next_k up_after more walked.after_is run_k)));
  before_is = upto-next m q before i next_i up_before more walked.before_is run_i;
  after_is = upto-next m q after k next_k up_after more walked.after_is run_k;
}

pub walked-same : (before after : List SettledPart) (i k next_i next_k m q : ℕ) (xs ys : List ℕ)
    → IsNonDecreasingBy (λ (s : SettledPart). s.seq) before → IsNonDecreasingBy (λ (s : SettledPart). s.seq) after
    → IsWalked before after i k xs m → m ≤ q → IsRun q before i next_i → IsRun q after k next_k
    → settled_in q (take (next_i - i) (drop i before)) ≡ settled_in q (take (next_k - k) (drop k after)) → ys ≡ xs
    → IsWalked before after next_i next_k ys (q + 1)
walked-same before after i k next_i next_k m q xs ys up_before up_after walked more run_i run_k same is = record {
  found = subst (AreBelow (q + 1) (HasOtherParts before after)) (sym is)
      (below-same m q (HasOtherParts before after) xs walked.found more (gap before after i k next_i next_k m q
      walked.before_is walked.after_is run_i run_k)
      (λ differ. differ (run-parts m q before i next_i up_before more walked.before_is run_i ∙ same
      ∙ sym (run-parts m q after k next_k up_after more walked.after_is run_k))));
  before_is = upto-next m q before i next_i up_before more walked.before_is run_i;
  after_is = upto-next m q after k next_k up_after more walked.after_is run_k;
}
