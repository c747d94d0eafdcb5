-- Repayments of one day may be entered in any order too.
use Rattle.std.proofs.Common.{◌≡◌, ◌+◌, ◌^◌, ℕ, Bool, true, false, cond, List, [], ◌∷◌, ◌++◌, map}
use Rattle.std.proofs.Common.{◌⊎◌, inl, inr, refl, sym, ap, ◌∙◌, subst, arith}
use Rattle.std.specs.Prelude.{fold, nat_lt}
use Rattle.std.specs.List.{AllByRecursion}
use Rattle.std.proofs.lemmas.Bool.{cases_eq}
use Rattle.std.proofs.lemmas.Bool.Decides.{nat_tests}
use Rattle.std.proofs.lemmas.List.Elements.{All-from_recursion, recursion_from_All}
use Rattle.std.proofs.lemmas.List.Sums.{fold-append}
use Rattle.mf_alloc.specs.declared.row.Cell.{Cell}
use Rattle.mf_alloc.proofs.LeftOpen.{IsLine}
use Rattle.mf_account.specs.declared.entry.Entry.{Entry}
use Rattle.mf_account.specs.declared.entry.Kind.TheVariants.{Repay}
use Rattle.mf_account.specs.Account.{after_entries, first_state}
use Rattle.mf_account.specs.Effect.{State, after_entry}
use Rattle.mf_account.specs.Loan.{DisbursedLoan, IsSoundDisbursed, cell_places_of, orders_of, schedule_of}
use Rattle.mf_account.specs.Loan.{state_of_loan}
use Rattle.mf_account.specs.Safe.{IsBounded}
use Rattle.mf_account.specs.Standing.{standing_entries}
use Rattle.mf_account.specs.Told.{AreNumbered}
use Rattle.mf_account.proofs.GoodLemmas.{IsReplayable, good-all, amounts}
use Rattle.mf_account.proofs.SoundLemmas.{lawful-of, each-standing, first-good}
use Rattle.mf_guarantees.specs.Reorder.{what_counts, MayChangePlaces, AreReshuffled, as_they_were, exchanged, further}
use Rattle.mf_guarantees.specs.Reorder.{AreInAnyOrder}
use Rattle.mf_guarantees.proofs.CutLemmas.{after_both, counts_all, front_all, line_paid, paid_once, paid_twice, paying}
use Rattle.mf_guarantees.proofs.ReorderLemmas.{by_day, dated_either_way, standing_by_day, whatever_numbers, with_dated}

-- ---- two of one day stand beside each other

record AreBeside (a b : Entry) (xs ys : List Entry) : Type 0 where
  front : List Entry
  back : List Entry
  one : xs ≡ front ++ a ∷ b ∷ back
  two : ys ≡ front ++ b ∷ a ∷ back

longer : (a b x : Entry) (xs ys : List Entry) → AreBeside a b xs ys → AreBeside a b (x ∷ xs) (x ∷ ys)
longer a b x xs ys beside = record {
  front = x ∷ beside.front;
  back = beside.back;
  one = ap (λ zs. x ∷ zs) beside.one;
  two = ap (λ zs. x ∷ zs) beside.two;
}

-- one after another of its day is put in behind it
behind_it : (a b : Entry) (xs : List Entry) → a.day ≡ b.day → by_day b (a ∷ xs) ≡ a ∷ by_day b xs
behind_it a b xs same =
    let no : nat_lt b.day a.day ≡ false = grind (arith, nat_tests) in
    ap (λ c. cond c (b ∷ a ∷ xs) (a ∷ by_day b xs)) no

module _ (a b : Entry) (same : a.day ≡ b.day) where
  -- they are put in, one after the other
  placed_beside : (xs : List Entry) → AreBeside a b (by_day b (by_day a xs)) (by_day a (by_day b xs))
  placed_beside [] = record {
    front = [];
    back = [];
    one = behind_it a b [] same;
    two = behind_it b a [] (sym same);
  }
  placed_beside (x ∷ xs) = go (nat_lt a.day x.day) refl (placed_beside xs)
    where
      go : (c : Bool) → nat_lt a.day x.day ≡ c → AreBeside a b (by_day b (by_day a xs)) (by_day a (by_day b xs))
          → AreBeside a b (by_day b (by_day a (x ∷ xs))) (by_day a (by_day b (x ∷ xs)))
      go true is rest =
          let also : nat_lt b.day x.day ≡ true = grind (arith, nat_tests) in
          record {
            front = [];
            back = x ∷ xs;
            one = ap (λ c. by_day b (cond c (a ∷ x ∷ xs) (x ∷ by_day a xs))) is ∙ behind_it a b (x ∷ xs) same
                ∙ ap (λ c. a ∷ cond c (b ∷ x ∷ xs) (x ∷ by_day b xs)) also;
            two = ap (λ c. by_day a (cond c (b ∷ x ∷ xs) (x ∷ by_day b xs))) also ∙ behind_it b a (x ∷ xs) (sym same)
                ∙ ap (λ c. b ∷ cond c (a ∷ x ∷ xs) (x ∷ by_day a xs)) is;
          }
      go false is rest =
          let also : nat_lt b.day x.day ≡ false = grind (arith, nat_tests) in
          let one : by_day b (by_day a (x ∷ xs)) ≡ x ∷ by_day b (by_day a xs) =
          ap (λ c. by_day b (cond c (a ∷ x ∷ xs) (x ∷ by_day a xs))) is
          ∙ ap (λ c. cond c (b ∷ x ∷ by_day a xs) (x ∷ by_day b (by_day a xs))) also in
          let two : by_day a (by_day b (x ∷ xs)) ≡ x ∷ by_day a (by_day b xs) =
          ap (λ c. by_day a (cond c (b ∷ x ∷ xs) (x ∷ by_day b xs))) also
          ∙ ap (λ c. cond c (a ∷ x ∷ by_day b xs) (x ∷ by_day a (by_day b xs))) is in
          subst (λ (zs : List Entry). AreBeside a b zs (by_day a (by_day b (x ∷ xs)))) (sym one)
          (subst (λ (zs : List Entry). AreBeside a b (x ∷ by_day b (by_day a xs)) zs) (sym two)
          (longer a b x (by_day b (by_day a xs)) (by_day a (by_day b xs)) rest))

  -- another is put in
  one_more : (x : Entry) (front back : List Entry)
      → AreBeside a b (by_day x (front ++ a ∷ b ∷ back)) (by_day x (front ++ b ∷ a ∷ back))
  one_more x [] back = go (nat_lt x.day a.day) refl
    where
      go : (c : Bool) → nat_lt x.day a.day ≡ c
          → AreBeside a b (by_day x (a ∷ b ∷ back)) (by_day x (b ∷ a ∷ back))
      go true is =
          let also : nat_lt x.day b.day ≡ true = grind (arith, nat_tests) in
          record {
            front = x ∷ [];
            back = back;
            one = ap (λ c. cond c (x ∷ a ∷ b ∷ back) (a ∷ by_day x (b ∷ back))) is;
            two = ap (λ c. cond c (x ∷ b ∷ a ∷ back) (b ∷ by_day x (a ∷ back))) also;
          }
      go false is =
          let also : nat_lt x.day b.day ≡ false = grind (arith, nat_tests) in
          record {
            front = [];
            back = by_day x back;
            one = ap (λ c. cond c (x ∷ a ∷ b ∷ back) (a ∷ by_day x (b ∷ back))) is
                ∙ ap (λ c. a ∷ cond c (x ∷ b ∷ back) (b ∷ by_day x back)) also;
            two = ap (λ c. cond c (x ∷ b ∷ a ∷ back) (b ∷ by_day x (a ∷ back))) also
                ∙ ap (λ c. b ∷ cond c (x ∷ a ∷ back) (a ∷ by_day x back)) is;
          }
  one_more x (f ∷ front) back = go (nat_lt x.day f.day) (one_more x front back)
    where
      go : (c : Bool) → AreBeside a b (by_day x (front ++ a ∷ b ∷ back)) (by_day x (front ++ b ∷ a ∷ back))
          → AreBeside a b (cond c (x ∷ f ∷ front ++ a ∷ b ∷ back) (f ∷ by_day x (front ++ a ∷ b ∷ back)))
          (cond c (x ∷ f ∷ front ++ b ∷ a ∷ back) (f ∷ by_day x (front ++ b ∷ a ∷ back)))
      go true rest = record { front = x ∷ f ∷ front; back = back; one = refl; two = refl }
      go false rest = longer a b f (by_day x (front ++ a ∷ b ∷ back)) (by_day x (front ++ b ∷ a ∷ back)) rest

  more_beside : (x : Entry) (xs ys : List Entry) → AreBeside a b xs ys
      → AreBeside a b (with_dated xs x) (with_dated ys x)
  more_beside x xs ys beside = go x.reversed
    where
      go : (c : Bool) → AreBeside a b (cond c xs (by_day x xs)) (cond c ys (by_day x ys))
      go true = beside
      go false =
          subst (λ (zs : List Entry). AreBeside a b (by_day x zs) (by_day x ys)) (sym beside.one)
          (subst (λ (zs : List Entry). AreBeside a b (by_day x (beside.front ++ a ∷ b ∷ beside.back)) (by_day x zs))
          (sym beside.two) (one_more x beside.front beside.back))

  all_beside : (entries xs ys : List Entry) → AreBeside a b xs ys
      → AreBeside a b (fold with_dated xs entries) (fold with_dated ys entries)
  all_beside [] xs ys beside = beside
  all_beside (x ∷ entries) xs ys beside =
      all_beside entries (with_dated xs x) (with_dated ys x) (more_beside x xs ys beside)

-- ---- what an exchange makes of the entries by day

abbrev dated : List Entry → List Entry
dated entries = fold with_dated [] entries

-- two repayments of one day
record AreOfOneDay (a b : Entry) : Type 0 where
  day : a.day ≡ b.day
  first : a.kind ≡ Repay
  second : b.kind ≡ Repay

abbrev Exchanges : Entry → Entry → List Entry → List Entry → Type 0
Exchanges a b xs ys = (xs ≡ ys) ⊎ (AreOfOneDay a b × AreBeside a b xs ys)

same_day : (a b : Entry) (so_far behind : List Entry) → AreOfOneDay a b
    → Exchanges a b (fold with_dated (with_dated (with_dated so_far a) b) behind)
    (fold with_dated (with_dated (with_dated so_far b) a) behind)
same_day a b so_far behind one = go a.reversed b.reversed
  where
    go : (p q : Bool)
        → Exchanges a b (fold with_dated (cond q (cond p so_far (by_day a so_far))
        (by_day b (cond p so_far (by_day a so_far)))) behind)
        (fold with_dated (cond p (cond q so_far (by_day b so_far))
        (by_day a (cond q so_far (by_day b so_far)))) behind)
    go true true = inl refl
    go true false = inl refl
    go false true = inl refl
    go false false = inr (
      one,
      all_beside a b one.day behind (by_day b (by_day a so_far)) (by_day a (by_day b so_far))
          (placed_beside a b one.day so_far),
    )

exchange : (before : List Entry) (a b : Entry) (behind : List Entry) → MayChangePlaces a b
    → Exchanges a b (dated (before ++ a ∷ b ∷ behind)) (dated (before ++ b ∷ a ∷ behind))
exchange before a b behind may =
    let so_far : List Entry = dated before in
    let left : dated (before ++ a ∷ b ∷ behind) ≡ fold with_dated so_far (a ∷ b ∷ behind) =
    fold-append with_dated [] before (a ∷ b ∷ behind) in
    let right : dated (before ++ b ∷ a ∷ behind) ≡ fold with_dated so_far (b ∷ a ∷ behind) =
    fold-append with_dated [] before (b ∷ a ∷ behind) in
    let whole : Exchanges a b (fold with_dated so_far (a ∷ b ∷ behind)) (fold with_dated so_far (b ∷ a ∷ behind)) =
    elim may [
      | inl apart ↦ inl (ap (λ (o : List Entry). fold with_dated o behind) (dated_either_way a b so_far apart))
      | inr both ↦ elim (cases_eq a.day b.day) [
        | inl same ↦ same_day a b so_far behind (record { day = same; first = both.0; second = both.1 })
        | inr apart ↦ inl (ap (λ (o : List Entry). fold with_dated o behind) (dated_either_way a b so_far apart))
      ]
    ] in
    subst (λ (zs : List Entry). Exchanges a b zs (dated (before ++ b ∷ a ∷ behind))) (sym left)
    (subst (λ (zs : List Entry). Exchanges a b (fold with_dated so_far (a ∷ b ∷ behind)) zs) (sym right) whole)

-- ---- the account

all_exchanged : (P : Entry → Type 0) (front : List Entry) (a b : Entry) (back : List Entry)
    → AllByRecursion P (front ++ a ∷ b ∷ back) → AllByRecursion P (front ++ b ∷ a ∷ back)
all_exchanged P [] a b back all = (all.1.0, (all.0, all.1.1))
all_exchanged P (x ∷ front) a b back all = (all.0, all_exchanged P front a b back all.1)

-- two repayments come to one of both amounts
twice : (n : ℕ) (order : ℕ → Cell) (place : Cell → ℕ) (a b : Entry) (before : State) → a.kind ≡ Repay → b.kind ≡ Repay
    → IsLine n order place before.rows
    → after_entry order b (after_entry order a before) ≡ paying n order place (a.amount + b.amount) before
twice n order place a b before is_a is_b line =
    ap (after_entry order b) (paid_once n order place a before is_a line)
    ∙ paid_once n order place b (paying n order place a.amount before) is_b
    (line_paid n order place before.rows (a.amount + before.overpaid) line)
    ∙ paid_twice n order place a.amount b.amount before line

module _ (loan : DisbursedLoan) (sound : IsSoundDisbursed loan) where
  abbrev start : State
  start = first_state (schedule_of loan)

  abbrev CanBeReplayed : List Entry → Type 0
  CanBeReplayed xs = AllByRecursion (IsReplayable loan.periods) xs

  -- a state to which entries led has whole rows
  line_after : (front : List Entry) (e : Entry) → CanBeReplayed front
      → IsLine loan.periods (orders_of loan e) (cell_places_of loan e)
      (after_entries (orders_of loan) front start).rows
  line_after front e each =
      let good : IsBounded loan.periods (2 ^ 54 + amounts front) (after_entries (orders_of loan) front start) =
      good-all loan.periods (2 ^ 54) (orders_of loan) (cell_places_of loan) front start (lawful-of loan)
      (All-from_recursion (IsReplayable loan.periods) front each) (first-good loan sound) in
      record { size = good.size; is = lawful-of loan e; whole = good.whole }

  -- two repayments of one day, either way
  either_way : (a b : Entry) (before : State) → AreOfOneDay a b
      → IsLine loan.periods (orders_of loan a) (cell_places_of loan a) before.rows
      → after_entry (orders_of loan b) b (after_entry (orders_of loan a) a before)
      ≡ after_entry (orders_of loan a) a (after_entry (orders_of loan b) b before)
  either_way a b before one line =
      let n : ℕ = loan.periods in
      let order : ℕ → Cell = orders_of loan a in
      let place : Cell → ℕ = cell_places_of loan a in
      let same : orders_of loan b ≡ order = ap (λ d. orders_of loan (record a { day = d })) (sym one.day) in
      let sum : a.amount + b.amount ≡ b.amount + a.amount = omega arith in
      ap (λ (o : ℕ → Cell). after_entry o b (after_entry order a before)) same
      ∙ twice n order place a b before one.first one.second line
      ∙ ap (λ x. paying n order place x before) sum
      ∙ sym (twice n order place b a before one.second one.first line)
      ∙ ap (λ (o : ℕ → Cell). after_entry order a (after_entry o b before)) (sym same)

  same_after : (front : List Entry) (a b : Entry) (back : List Entry) → AreOfOneDay a b
      → CanBeReplayed (front ++ a ∷ b ∷ back)
      → after_entries (orders_of loan) (front ++ a ∷ b ∷ back) start
      ≡ after_entries (orders_of loan) (front ++ b ∷ a ∷ back) start
  same_after front a b back one each =
      let before : State = after_entries (orders_of loan) front start in
      let line = line_after front a (front_all (IsReplayable loan.periods) front (a ∷ b ∷ back) each) in
      after_both loan front (a ∷ b ∷ back) start
      ∙ ap (after_entries (orders_of loan) back) (either_way a b before one line)
      ∙ sym (after_both loan front (b ∷ a ∷ back) start)

  record AreAlike (xs ys : List Entry) : Type 0 where
    state : after_entries (orders_of loan) xs start ≡ after_entries (orders_of loan) ys start
    each : CanBeReplayed ys

  alike : (a b : Entry) (xs ys : List Entry) → Exchanges a b xs ys → CanBeReplayed xs → AreAlike xs ys
  alike a b xs ys (inl same) each = record {
    state = ap (λ (zs : List Entry). after_entries (orders_of loan) zs start) same;
    each = subst CanBeReplayed same each;
  }
  alike a b xs ys (inr (one, beside)) each =
      let front : List Entry = beside.front in
      let back : List Entry = beside.back in
      let here : CanBeReplayed (front ++ a ∷ b ∷ back) = subst CanBeReplayed beside.one each in
      record {
        state = ap (λ (zs : List Entry). after_entries (orders_of loan) zs start) beside.one
            ∙ same_after front a b back one here
            ∙ ap (λ (zs : List Entry). after_entries (orders_of loan) zs start) (sym beside.two);
        each = subst CanBeReplayed (sym beside.two)
            (all_exchanged (IsReplayable loan.periods) front a b back here);
      }

  all_alike : {xs ys : List Entry} → AreReshuffled xs ys → CanBeReplayed (dated xs) → AreAlike (dated xs) (dated ys)
  all_alike (as_they_were entries) each = record { state = refl; each = each }
  all_alike (exchanged before a b behind may) each =
      alike a b (dated (before ++ a ∷ b ∷ behind)) (dated (before ++ b ∷ a ∷ behind)) (exchange before a b behind may)
      each
  all_alike (further xs ys zs first next) each =
      let one = all_alike first each in
      let two = all_alike next one.each in
      record { state = one.state ∙ two.state; each = two.each }

pub reshuffled_same : (loan : DisbursedLoan) (entries : List Entry) → IsSoundDisbursed loan → AreNumbered entries
    → AreInAnyOrder loan.entries entries → state_of_loan (record loan { entries = entries }) ≡ state_of_loan loan
reshuffled_same loan entries sound numbers shuffled =
    let first : State = first_state (schedule_of loan) in
    let one : map what_counts (standing_entries loan.entries) ≡ dated (map what_counts loan.entries) =
    standing_by_day loan.entries sound.entries.numbers in
    let other : map what_counts (standing_entries entries) ≡ dated (map what_counts entries) =
    standing_by_day entries numbers in
    let each : AllByRecursion (IsReplayable loan.periods) (dated (map what_counts loan.entries)) =
    subst (AllByRecursion (IsReplayable loan.periods)) one
    (counts_all loan.periods (standing_entries loan.entries)
    (recursion_from_All (IsReplayable loan.periods) (standing_entries loan.entries) (each-standing loan sound))) in
    let same = (all_alike loan sound shuffled each).state in
    sym (whatever_numbers loan (standing_entries entries) first)
    ∙ ap (λ (es : List Entry). after_entries (orders_of loan) es first) other
    ∙ sym same
    ∙ ap (λ (es : List Entry). after_entries (orders_of loan) es first) (sym one)
    ∙ whatever_numbers loan (standing_entries loan.entries) first
