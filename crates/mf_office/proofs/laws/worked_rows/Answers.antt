use Rattle.std.proofs.Common.{◌≡◌, ℕ, true, Some, ◌⊎◌, inl, inr, refl, sym, subst, arith}
use Rattle.std.proofs.lemmas.Bool.Decides.{nat_tests}
use Rattle.mf_office.specs.Numbers.{IsNumberUpTo}
use Rattle.std.specs.Fmt.{digits}
use Rattle.mf_office.specs.Tree.{is_within, is_at_or_below, is_among, parent_among, small_tree}
use Rattle.mf_office.specs.Keys.{key_within, key_of}
use Rattle.mf_office.specs.Texts.{caller_of, account_of}
use Rattle.mf_office.proofs.laws.worked_rows.Goals as goal

one_of_four : (x : ℕ) → is_among small_tree x ≡ true → (x ≡ 1) ⊎ ((x ≡ 2) ⊎ ((x ≡ 20) ⊎ (x ≡ 5)))
one_of_four x h = grind (arith, nat_tests)

by_each : (P : ℕ → Type 0) → P 1 → P 2 → P 20 → P 5 → (x : ℕ) → is_among small_tree x ≡ true → P x
by_each P one two twenty five x h =
    elim (one_of_four x h) [
      | inl e ↦ subst P (sym e) one
      | inr r ↦ elim r [
        | inl e ↦ subst P (sym e) two
        | inr s ↦ elim s [ inl e ↦ subst P (sym e) twenty | inr e ↦ subst P (sym e) five ]
      ]
    ]

same_parent : (p q : ℕ) → Some p ≡ Some q → is_among small_tree p ≡ true → is_among small_tree q ≡ true
same_parent p q e h = let same : p ≡ q = cc in subst (λ (z : ℕ). is_among small_tree z ≡ true) same h

pub returns-clause-tree : goal.returns-clause-tree
unfolding is_at_or_below is_within
returns-clause-tree c = record {
  once = (refl, (refl, (refl, (refl, tt))));
  tree = record {
    numbered = by_each (IsNumberUpTo 9999) (omega arith, omega arith) (omega arith, omega arith)
        (omega arith, omega arith) (omega arith, omega arith);
    head_there = refl;
    head = refl;
    parents_there = λ x p here. by_each (λ (z : ℕ). parent_among small_tree z ≡ Some p → is_among small_tree p ≡ true)
        (λ e. absurd (cc)) (λ e. same_parent 1 p e refl) (λ e. same_parent 1 p e refl) (λ e. same_parent 2 p e refl) x
        here;
    all_below = by_each (λ (z : ℕ). is_within 5 (parent_among small_tree) z 1 ≡ true) refl refl refl refl;
  };
}

pub returns-clause-head : goal.returns-clause-head
unfolding key_of key_within
returns-clause-head c = (refl, refl)

pub returns-clause-keys : goal.returns-clause-keys
unfolding key_of key_within digits
returns-clause-keys c = (refl, refl, refl)

pub returns-clause-by_parents : goal.returns-clause-by_parents
unfolding is_at_or_below is_within
returns-clause-by_parents c = (refl, refl, refl)

pub returns-clause-caller : goal.returns-clause-caller
unfolding caller_of digits
returns-clause-caller c = (refl, refl)

pub returns-clause-no_caller : goal.returns-clause-no_caller
unfolding caller_of digits
returns-clause-no_caller c = (refl, refl, refl, refl)

pub returns-clause-account : goal.returns-clause-account
unfolding account_of digits
returns-clause-account c = (refl, refl)

pub returns-clause-no_account : goal.returns-clause-no_account
unfolding account_of digits
returns-clause-no_account c = (refl, refl, refl)
