use Rattle.std.proofs.Common.{◌≡◌, ◌<◌, ℕ, List, length, map, sym, subst, ap, ◌∙◌, rules, Ok, Err}
use Rattle.std.specs.Prelude.{All, Result, IfOk}
use Rattle.std.specs.List.Sorted.{IsPermutation, IsStableByKey}
use Rattle.std.specs.Ordering.{nat_cmp}
use Rattle.std.proofs.lemmas.List.Sorted.{answers_always, IsNonDecreasingBy-from_sort_by_key}
use Rattle.mf_account.specs.declared.replay.Standing.{Standing}
use Rattle.mf_account.specs.Loan.{settled_of_loan}
use Rattle.mf_account.proofs.OrderedLemmas.{with_place, part_in, apart-order, sorted-parts}
use Rattle.mf_account.proofs.replay.sorted_parts.Goals as goal

weaker : {A E : Type 0} (r : Result A E) (P Q : A → Type 0) → ((a : A) → P a → Q a) → IfOk r P → IfOk r Q
weaker (Ok a) P Q so holds = so a holds
weaker (Err e) P Q so holds = tt

pub returns-clause-loan : goal.returns-clause-loan
returns-clause-loan c loan sound count is parts =
    let same : map (with_place c.deref.result.now) c.args.settled.now ≡ map (with_place c.in_ok-places.places.items)
    c.args.settled.now = ap (λ (p : List ℕ). map (with_place p) c.args.settled.now) c.deref.ensures.value in
    let moved : IsPermutation (map (with_place c.in_ok-places.places.items) c.args.settled.now)
    c.sort_by_key.new.self.items =
    subst (λ (l : List Standing). IsPermutation l c.sort_by_key.new.self.items) (c.in_ok-placed.ensures.placed
    ∙ same) c.sort_by_key.ensures.permutation in
    let stable : IsStableByKey (λ (p : Standing). p.place) nat_cmp (map (with_place c.in_ok-places.places.items)
    c.args.settled.now) c.sort_by_key.new.self.items =
    subst (λ (l : List Standing). IsStableByKey (λ (p : Standing). p.place) nat_cmp l c.sort_by_key.new.self.items)
    (c.in_ok-placed.ensures.placed ∙ same)
    (c.sort_by_key.ensures.stable (λ (p : Standing). p.place) (answers_always _ _ _ (λ f a r g h. search rules))) in
    let up = IsNonDecreasingBy-from_sort_by_key (λ (p : Standing). p.place) _ c.in_ok-sort_by_key.ensures.sorted
    (λ a r q k. search rules) in
    let within : All (λ i. i < length loan.entries) c.args.order.now =
    subst (λ (n : ℕ). All (λ i. i < n) c.args.order.now) (sym count) c.requires.within in
    let at = c.in_ok-places.ensures.places (apart-order loan c.args.order.now sound within is) in
    weaker c.parts_of.result _ (λ sorted. sorted.items ≡ settled_of_loan loan)
    (λ sorted sorted_is.
    sorted_is ∙ ap (map part_in) c.deref-2.ensures.value
    ∙ sorted-parts loan c.args.order.now c.in_ok-places.places.items c.args.settled.now c.sort_by_key.new.self.items
    sound within is at parts moved up stable) c.parts_of.ensures.parts
