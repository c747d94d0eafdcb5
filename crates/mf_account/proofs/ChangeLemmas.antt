-- Numbers gathered one by one, and the parts of one entry.
use Rattle.std.proofs.Common.{◌≡◌, ◌≢◌, ℕ, suc, ◌+◌, ◌-◌, ◌<◌, ◌≤◌, ◌↔◌, eqb, List, [], ◌∷◌, ◌++◌, length, get_or}
use Rattle.std.proofs.Common.{drop, arith, refl, ◌∙◌, ap, sym, subst, inl, inr, length-append, drop-cons}
use Rattle.std.specs.List.{Contains}
use Rattle.std.proofs.Math.ListN.{get_or-append}
use Rattle.std.proofs.Math.Seq.{drop-append_seam}
use Rattle.std.proofs.lemmas.Bool.{cases_lt, cases_eq, cond-true, cond-false, eq-eqb, ne_eqb}
use Rattle.std.proofs.lemmas.List.{get_or-append_right}
use Rattle.std.specs.List.Sorted.{IsStrictlyIncreasing}
use Rattle.std.specs.Prelude.{All}
use Rattle.std.proofs.lemmas.List.Elements.{filter-append, All-nil, All-cons, All-head, All-tail, All-append}
use Rattle.std.proofs.lemmas.List.Elements.{All-weaker, Contains-append_left, Contains-push}
use Rattle.mf_account.specs.declared.settled.SettledPart.{SettledPart}
use Rattle.mf_account.specs.Effect.{State}
use Rattle.mf_account.specs.Loan.{DisbursedLoan, state_of_loan, settled_of_loan}
use Rattle.mf_account.specs.Change.{ChangedNumbers, AreThose, AreAll, HasOtherRow, HasOtherParts, IsChange, settled_in}
use Rattle.mf_account.specs.Applicable.{no_settled}

pub those-more : (n : ℕ) (P : ℕ → Type 0) (xs : List ℕ) → AreThose n P xs → P (n + 1)
    → AreThose (n + 1) P (xs ++ (n + 1) ∷ [])
those-more n P xs those is =
    let size = length-append xs ((n + 1) ∷ []) in
    record {
      ascend = λ k less.
          elim (cases_lt (k + 1) (length xs)) [
            | inl within ↦
                let low = get_or-append xs ((n + 1) ∷ []) 0 k (omega arith) in
                let high = get_or-append xs ((n + 1) ∷ []) 0 (k + 1) within in
                let up = those.ascend k within in
                omega (arith, low, high, up)
            | inr past ↦
                let last : k + 1 ≡ length xs = omega (arith, size, less, past) in
                let low = get_or-append xs ((n + 1) ∷ []) 0 k (omega arith) in
                let most = (those.each k 0 (omega arith)).1 in
                let high : get_or (xs ++ (n + 1) ∷ []) (k + 1) 0 ≡ n + 1 =
                get_or-append_right xs ((n + 1) ∷ []) (length xs) (k + 1) 0 refl (omega arith)
                ∙ (let none : k + 1 - length xs ≡ 0 = omega arith in ap (λ x. get_or ((n + 1) ∷ []) x 0) none) in
                omega (arith, low, high, most)
          ];
      each =
          All-append (λ i. (1 ≤ i) × (i ≤ n + 1) × P i) xs ((n + 1) ∷ [])
          (All-weaker (λ i. (1 ≤ i) × (i ≤ n) × P i) (λ i. (1 ≤ i) × (i ≤ n + 1) × P i)
          (λ i h. (h.0, omega (arith, h.1), h.2)) xs those.each)
          (All-cons (λ i. (1 ≤ i) × (i ≤ n + 1) × P i) (n + 1) [] (omega arith, omega arith, is)
          (All-nil (λ i. (1 ≤ i) × (i ≤ n + 1) × P i)));
      all = λ i from to holds.
          elim (cases_eq i (n + 1)) [
            | inl last ↦ subst (λ x. Contains (xs ++ (n + 1) ∷ []) x) (sym last) (Contains-push xs (n + 1))
            | inr other ↦ Contains-append_left xs ((n + 1) ∷ []) i (those.all i from (omega (arith, to, other)) holds)
          ];
    }

pub those-same : (n : ℕ) (P : ℕ → Type 0) (xs : List ℕ) → AreThose n P xs → (P (n + 1) → ⊥) → AreThose (n + 1) P xs
those-same n P xs those not = record {
  ascend = those.ascend;
  each = All-weaker (λ i. (1 ≤ i) × (i ≤ n) × P i) (λ i. (1 ≤ i) × (i ≤ n + 1) × P i)
      (λ i h. (h.0, omega (arith, h.1), h.2)) xs those.each;
  all = λ i from to holds.
      elim (cases_eq i (n + 1)) [
        | inl last ↦ absurd (not (subst P last holds))
        | inr other ↦ those.all i from (omega (arith, to, other)) holds
      ];
}

pub in-own : (seq : ℕ) (parts : List SettledPart) (k : ℕ) → k < length parts → (get_or parts k no_settled).seq ≡ seq
    → settled_in seq (drop k parts) ≡ get_or parts k no_settled ∷ settled_in seq (drop (k + 1) parts)
in-own seq parts k within own =
    ap (settled_in seq) (drop-cons parts k no_settled within)
    ∙ cond-true (eqb (get_or parts k no_settled).seq seq) _ _ (eq-eqb (get_or parts k no_settled).seq seq own)
    ∙ (let next : suc k ≡ k + 1 = omega arith in ap (λ n. get_or parts k no_settled ∷ settled_in seq (drop n parts))
    next)

-- two lists whose first own parts are the same are the same on where the rest is
pub same-step : (seq : ℕ) (before after : List SettledPart) (i k next_i next_k : ℕ) → i < length before
    → k < length after
    → (get_or before i no_settled).seq ≡ seq → (get_or after k no_settled).seq ≡ seq → get_or before i no_settled
    ≡ get_or after k no_settled → settled_in seq (drop (i + 1) before) ≡ settled_in seq (drop next_i before)
    → settled_in seq (drop (k + 1) after) ≡ settled_in seq (drop next_k after)
    → ((settled_in seq before ≡ settled_in seq after)
    ↔ (settled_in seq (drop i before) ≡ settled_in seq (drop k after))) → (settled_in seq before ≡ settled_in seq after)
    ↔ (settled_in seq (drop next_i before) ≡ settled_in seq (drop next_k after))
same-step seq before after i k next_i next_k within_i within_k own_i own_k same skip_i skip_k so_far =
    let one : settled_in seq (drop i before) ≡ get_or before i no_settled ∷ settled_in seq (drop next_i before) =
    in-own seq before i within_i own_i ∙ ap (λ x. get_or before i no_settled ∷ x) skip_i in
    let two : settled_in seq (drop k after) ≡ get_or after k no_settled ∷ settled_in seq (drop next_k after) =
    in-own seq after k within_k own_k ∙ ap (λ x. get_or after k no_settled ∷ x) skip_k in (
      λ e. ap (drop 1) (sym one ∙ so_far.0 e ∙ two),
      λ e. so_far.1 (one ∙ ap (λ x. x ∷ settled_in seq (drop next_i before)) same ∙ ap (λ x. get_or after k no_settled
          ∷ x) e ∙ sym two),
    )

-- what differs between the books and parts of two loans
pub change-is : (before after : DisbursedLoan) (old new : State) (old_parts new_parts : List SettledPart)
    (change : ChangedNumbers)
    → old ≡ state_of_loan before → old_parts ≡ settled_of_loan before → new ≡ state_of_loan after
    → new_parts ≡ settled_of_loan after → length old.rows ≡ after.periods → AreThose (length old.rows)
    (HasOtherRow old.rows new.rows) change.rows → AreThose (length after.entries) (HasOtherParts old_parts new_parts)
    change.seqs → IsChange before after change
change-is before after old new old_parts new_parts change old_is old_parts_is new_is new_parts_is periods rows seqs =
    record {
      rows =
          subst (λ (n : ℕ). AreThose n (HasOtherRow (state_of_loan before).rows (state_of_loan after).rows) change.rows)
          periods
          (subst (λ (x : State). AreThose (length old.rows) (HasOtherRow (state_of_loan before).rows x.rows)
          change.rows)
          new_is
          (subst (λ (x : State). AreThose (length old.rows) (HasOtherRow x.rows new.rows) change.rows) old_is rows));
      seqs =
          subst (λ (x : List SettledPart). AreThose (length after.entries) (HasOtherParts (settled_of_loan before) x)
          change.seqs) new_parts_is
          (subst (λ (x : List SettledPart). AreThose (length after.entries) (HasOtherParts x new_parts) change.seqs)
          old_parts_is seqs);
    }

-- what begins alike differs where the rest does
pub settled_in-append : (seq : ℕ) (xs ys : List SettledPart) → settled_in seq (xs ++ ys) ≡ settled_in seq xs
    ++ settled_in seq ys
settled_in-append seq xs ys = filter-append (λ (s : SettledPart). eqb s.seq seq) xs ys

all-iff : (P Q : ℕ → Type 0) (xs : List ℕ) → ((i : ℕ) → P i → Q i) → ((i : ℕ) → Q i → P i) → AreAll P xs → AreAll Q xs
all-iff P Q xs to from are = record {
  ascend = are.ascend;
  each = All-weaker P Q to xs are.each;
  all = λ i holds. are.all i (from i holds);
}

pub all-tails : (front before after : List SettledPart) (xs : List ℕ) → AreAll (HasOtherParts before after) xs
    → AreAll (HasOtherParts (front ++ before) (front ++ after)) xs
all-tails front before after xs are =
    all-iff (HasOtherParts before after) (HasOtherParts (front ++ before) (front ++ after)) xs
    (λ seq other same.
    let own : List SettledPart = settled_in seq front in
    other (sym (drop-append_seam own (settled_in seq before)) ∙ ap (drop (length own))
    (sym (settled_in-append seq front before) ∙ same ∙ settled_in-append seq front after)
    ∙ drop-append_seam own (settled_in seq after)))
    (λ seq other same. other (settled_in-append seq front before ∙ ap (λ z. settled_in seq front ++ z) same
    ∙ sym (settled_in-append seq front after)))
    are

-- all of them are those up to a number, where none lies beyond
pub those-all : (n : ℕ) (P : ℕ → Type 0) (xs : List ℕ) → AreAll P xs → ((i : ℕ) → P i → (1 ≤ i) × (i ≤ n))
    → AreThose n P xs
those-all n P xs are within = record {
  ascend = are.ascend;
  each = All-weaker P (λ i. (1 ≤ i) × (i ≤ n) × P i) (λ i holds. let both = within i holds in (both.0, both.1, holds))
      xs are.each;
  all = λ i from to holds. are.all i holds;
}

-- all below a number of which something holds, ascending
pub record AreBelow (m : ℕ) (P : ℕ → Type 0) (xs : List ℕ) : Type 0 where
  pub ascend : IsStrictlyIncreasing xs
  pub each : All (λ i. (i < m) × P i) xs
  pub all : (i : ℕ) → i < m → P i → Contains xs i

pub below-more : (m q : ℕ) (P : ℕ → Type 0) (xs : List ℕ) → AreBelow m P xs → m ≤ q → ((i : ℕ) → m ≤ i → i < q → P i
    → ⊥) → P q → AreBelow (q + 1) P (xs ++ q ∷ [])
below-more m q P xs are up none is =
    let size = length-append xs (q ∷ []) in
    record {
      ascend = λ k less.
          elim (cases_lt (k + 1) (length xs)) [
            | inl within ↦
                let low = get_or-append xs (q ∷ []) 0 k (omega arith) in
                let high = get_or-append xs (q ∷ []) 0 (k + 1) within in
                let rises = are.ascend k within in
                omega (arith, low, high, rises)
            | inr past ↦
                let last : k + 1 ≡ length xs = omega (arith, size, less, past) in
                let low = get_or-append xs (q ∷ []) 0 k (omega arith) in
                let most = (are.each k 0 (omega arith)).0 in
                let high : get_or (xs ++ q ∷ []) (k + 1) 0 ≡ q =
                get_or-append_right xs (q ∷ []) (length xs) (k + 1) 0 refl (omega arith)
                ∙ (let first : k + 1 - length xs ≡ 0 = omega arith in ap (λ x. get_or (q ∷ []) x 0) first) in
                omega (arith, low, high, most, up)
          ];
      each =
          All-append (λ i. (i < q + 1) × P i) xs (q ∷ [])
          (All-weaker (λ i. (i < m) × P i) (λ i. (i < q + 1) × P i) (λ i h. (omega (arith, h.0, up), h.1)) xs are.each)
          (All-cons (λ i. (i < q + 1) × P i) q [] (omega arith, is) (All-nil (λ i. (i < q + 1) × P i)));
      all = λ i below holds.
          elim (cases_lt i m) [
            | inl less ↦ Contains-append_left xs (q ∷ []) i (are.all i less holds)
            | inr more ↦
                elim (cases_eq i q) [
                  | inl last ↦ subst (λ x. Contains (xs ++ q ∷ []) x) (sym last) (Contains-push xs q)
                  | inr other ↦ absurd (none i more (omega (arith, below, other)) holds)
                ]
          ];
    }

pub below-same : (m q : ℕ) (P : ℕ → Type 0) (xs : List ℕ) → AreBelow m P xs → m ≤ q → ((i : ℕ) → m ≤ i → i < q → P i
    → ⊥) → (P q → ⊥) → AreBelow (q + 1) P xs
below-same m q P xs are up none not = record {
  ascend = are.ascend;
  each = All-weaker (λ i. (i < m) × P i) (λ i. (i < q + 1) × P i) (λ i h. (omega (arith, h.0, up), h.1)) xs are.each;
  all = λ i below holds.
      elim (cases_lt i m) [
        | inl less ↦ are.all i less holds
        | inr more ↦
            elim (cases_eq i q) [
              | inl last ↦ absurd (not (subst P last holds))
              | inr other ↦ absurd (none i more (omega (arith, below, other)) holds)
            ]
      ];
}

pub below-all : (m : ℕ) (P : ℕ → Type 0) (xs : List ℕ) → AreBelow m P xs → ((i : ℕ) → m ≤ i → P i → ⊥) → AreAll P xs
below-all m P xs are none = record {
  ascend = are.ascend;
  each = All-weaker (λ i. (i < m) × P i) P (λ i h. h.1) xs are.each;
  all = λ i holds. elim (cases_lt i m) [ inl less ↦ are.all i less holds | inr more ↦ absurd (none i more holds) ];
}

-- no part of an entry
pub none-in : (seq : ℕ) (parts : List SettledPart) → All (λ (s : SettledPart). s.seq ≢ seq) parts → settled_in seq parts
    ≡ []
none-in seq [] apart = refl
none-in seq (s ∷ parts) apart =
    cond-false (eqb s.seq seq) (s ∷ settled_in seq parts) (settled_in seq parts)
    (ne_eqb s.seq seq (All-head (λ (x : SettledPart). x.seq ≢ seq) s parts apart))
    ∙ none-in seq parts (All-tail (λ (x : SettledPart). x.seq ≢ seq) s parts apart)
