-- A repayment that is cut in two on one day comes to the same.
use Rattle.std.proofs.Common.{◌≡◌, ◌+◌, ◌*◌, ◌^◌, ℕ, Bool, true, false, cond, List, [], ◌∷◌, ◌++◌, length, map}
use Rattle.std.proofs.Common.{◌⊎◌, inl, inr, refl, sym, ap, ◌∙◌, subst, arith}
use Rattle.std.specs.Prelude.{fold, nat_lt}
use Rattle.std.specs.List.{AllByRecursion, range_with_len}
use Rattle.std.proofs.lemmas.Bool.Decides.{nat_tests}
use Rattle.std.proofs.lemmas.List.{map-append}
use Rattle.std.proofs.lemmas.List.Elements.{All-from_recursion, recursion_from_All}
use Rattle.std.proofs.lemmas.List.Sums.{fold-append}
use Rattle.mf_alloc.specs.declared.row.Cell.{Cell}
use Rattle.mf_alloc.specs.Sums.{Instalment, AreWhole}
use Rattle.mf_alloc.specs.Rows.{with_paid}
use Rattle.mf_alloc.specs.Payment.{shares_of, rest_of}
use Rattle.mf_alloc.proofs.LeftOpen.{IsLine, amounts_of, rows_paid, rows_paid-by, length-rows_paid, shares_by-same}
use Rattle.mf_alloc.proofs.LeftOpen.{amounts-twice, rest-twice}
use Rattle.mf_alloc.proofs.TwoPayments.{shares_by, with_paid-twice}
use Rattle.mf_account.specs.declared.entry.Entry.{Entry}
use Rattle.mf_account.specs.declared.entry.Kind.{Kind}
use Rattle.mf_account.specs.declared.entry.Kind.TheVariants.{Repay, Fee, Penalty, Waive, WriteOff, Refund}
use Rattle.mf_account.specs.Account.{after_entries, first_state}
use Rattle.mf_account.specs.Applicable.{HasInstalment}
use Rattle.mf_account.specs.AtOnce.{paid_part}
use Rattle.mf_account.specs.Effect.{State, own_effect, with_overpaid_paid, after_entry}
use Rattle.mf_account.specs.Loan.{DisbursedLoan, IsSoundDisbursed, orders_of, schedule_of, state_of_loan}
use Rattle.mf_account.specs.Loan.{cell_places_of}
use Rattle.mf_account.specs.Safe.{IsBounded}
use Rattle.mf_account.specs.Standing.{standing_entries}
use Rattle.mf_account.proofs.EffectLemmas.{with_settled-paid}
use Rattle.mf_account.proofs.GoodLemmas.{IsReplayable, whole-with_settled, good-all, amounts}
use Rattle.mf_account.proofs.SoundLemmas.{lawful-of, each-standing, first-good}
use Rattle.mf_account.specs.Told.{AreNumbered}
use Rattle.mf_guarantees.specs.Reorder.{what_counts, IsCutInTwo}
use Rattle.mf_guarantees.proofs.ReorderLemmas.{by_day, with_dated, standing_by_day, whatever_numbers}

-- ---- two payments after each other

module _ (n : ℕ) (order : ℕ → Cell) (place : Cell → ℕ) where
  rows_twice : (rows : List Instalment) (amount more : ℕ) → IsLine n order place rows
      → rows_paid order (rows_paid order rows amount) (more + rest_of order rows amount)
      ≡ rows_paid order rows (amount + more)
  rows_twice rows amount more line =
      let paid : List Instalment = rows_paid order rows amount in
      let left : ℕ = more + rest_of order rows amount in
      let places : List ℕ = range_with_len 0 (4 * length rows) in
      let size : length paid ≡ length rows = length-rows_paid order rows amount in
      rows_paid-by order paid left
      ∙ ap (λ x. with_paid paid (shares_by order (amounts_of order paid left) (range_with_len 0 (4 * x)))) size
      ∙ ap (λ (r : List Instalment). with_paid r (shares_by order (amounts_of order paid left) places))
      (rows_paid-by order rows amount)
      ∙ with_paid-twice order (amounts_of order rows amount) (amounts_of order paid left) places rows
      ∙ ap (with_paid rows) (shares_by-same order (λ k. amounts_of order rows amount k + amounts_of order paid left k)
      (amounts_of order rows (amount + more)) 0 (4 * length rows)
      (λ k from to. amounts-twice n order place rows amount more k line (omega (arith, to, line.size))))
      ∙ sym (rows_paid-by order rows (amount + more))

  pub line_paid : (rows : List Instalment) (amount : ℕ) → IsLine n order place rows
      → IsLine n order place (rows_paid order rows amount)
  line_paid rows amount line = record {
    size = length-rows_paid order rows amount ∙ line.size;
    is = line.is;
    whole = subst AreWhole (with_settled-paid rows (shares_of order rows amount))
        (whole-with_settled rows (map paid_part (shares_of order rows amount)) line.whole);
  }

  -- what an amount leaves where it is paid together with what is overpaid
  abbrev pub paying : ℕ → State → State
  paying amount before = record {
    rows = rows_paid order before.rows (amount + before.overpaid);
    overpaid = rest_of order before.rows (amount + before.overpaid);
    refunded = before.refunded;
  }

  pub paid_once : (e : Entry) (before : State) → e.kind ≡ Repay → IsLine n order place before.rows
      → after_entry order e before ≡ paying e.amount before
  paid_once e before is line =
      let rows = rows_twice before.rows e.amount before.overpaid line in
      let rest = rest-twice n order place before.rows e.amount before.overpaid line in
      ap (λ (k : Kind). with_overpaid_paid order (own_effect k order e before)) is
      ∙ (λ t. record { rows = rows t; overpaid = rest t; refunded = before.refunded })

  pub paid_twice : (first second : ℕ) (before : State) → IsLine n order place before.rows
      → paying second (paying first before) ≡ paying (first + second) before
  paid_twice first second before line =
      let sum : first + before.overpaid + second ≡ first + second + before.overpaid = omega arith in
      let rows = rows_twice before.rows (first + before.overpaid) second line
      ∙ ap (rows_paid order before.rows) sum in
      let rest = rest-twice n order place before.rows (first + before.overpaid) second line
      ∙ ap (rest_of order before.rows) sum in
      λ t. record { rows = rows t; overpaid = rest t; refunded = before.refunded }

  cut_once : (e a b : Entry) (before : State) → e.kind ≡ Repay → a.kind ≡ Repay → b.kind ≡ Repay
      → e.amount ≡ a.amount + b.amount → IsLine n order place before.rows
      → after_entry order b (after_entry order a before) ≡ after_entry order e before
  cut_once e a b before is_e is_a is_b sum line =
      ap (after_entry order b) (paid_once a before is_a line)
      ∙ paid_once b (paying a.amount before) is_b
      (line_paid before.rows (a.amount + before.overpaid) line)
      ∙ paid_twice a.amount b.amount before line
      ∙ ap (λ x. paying x before) (sym sum)
      ∙ sym (paid_once e before is_e line)

-- ---- the two stand beside each other

record IsCut (e a b : Entry) (xs ys : List Entry) : Type 0 where
  front : List Entry
  back : List Entry
  one : xs ≡ front ++ e ∷ back
  two : ys ≡ front ++ a ∷ b ∷ back

longer : (e a b x : Entry) (xs ys : List Entry) → IsCut e a b xs ys → IsCut e a b (x ∷ xs) (x ∷ ys)
longer e a b x xs ys cut = record {
  front = x ∷ cut.front;
  back = cut.back;
  one = ap (λ zs. x ∷ zs) cut.one;
  two = ap (λ zs. x ∷ zs) cut.two;
}

module _ (e a b : Entry) (day_a : a.day ≡ e.day) (day_b : b.day ≡ e.day) where
  -- they are put in
  cut_placed : (xs : List Entry) → IsCut e a b (by_day e xs) (by_day b (by_day a xs))
  cut_placed [] =
      let same : nat_lt b.day a.day ≡ false = grind (arith, nat_tests) in
      record {
        front = [];
        back = [];
        one = refl;
        two = ap (λ c. cond c (b ∷ a ∷ []) (a ∷ b ∷ [])) same;
      }
  cut_placed (x ∷ xs) = go (nat_lt e.day x.day) refl (cut_placed xs)
    where
      go : (c : Bool) → nat_lt e.day x.day ≡ c → IsCut e a b (by_day e xs) (by_day b (by_day a xs))
          → IsCut e a b (cond c (e ∷ x ∷ xs) (x ∷ by_day e xs)) (by_day b (by_day a (x ∷ xs)))
      go true is rest =
          let first : nat_lt a.day x.day ≡ true = grind (arith, nat_tests) in
          let second : nat_lt b.day x.day ≡ true = grind (arith, nat_tests) in
          let same : nat_lt b.day a.day ≡ false = grind (arith, nat_tests) in
          record {
            front = [];
            back = x ∷ xs;
            one = refl;
            two = ap (λ c. by_day b (cond c (a ∷ x ∷ xs) (x ∷ by_day a xs))) first
                ∙ ap (λ c. cond c (b ∷ a ∷ x ∷ xs) (a ∷ by_day b (x ∷ xs))) same
                ∙ ap (λ c. a ∷ cond c (b ∷ x ∷ xs) (x ∷ by_day b xs)) second;
          }
      go false is rest =
          let first : nat_lt a.day x.day ≡ false = grind (arith, nat_tests) in
          let second : nat_lt b.day x.day ≡ false = grind (arith, nat_tests) in
          let two : by_day b (by_day a (x ∷ xs)) ≡ x ∷ by_day b (by_day a xs) =
          ap (λ c. by_day b (cond c (a ∷ x ∷ xs) (x ∷ by_day a xs))) first
          ∙ ap (λ c. cond c (b ∷ x ∷ by_day a xs) (x ∷ by_day b (by_day a xs))) second in
          subst (λ (ys : List Entry). IsCut e a b (x ∷ by_day e xs) ys) (sym two)
          (longer e a b x (by_day e xs) (by_day b (by_day a xs)) rest)

  -- another is put in
  beside : (x : Entry) (front back : List Entry)
      → IsCut e a b (by_day x (front ++ e ∷ back)) (by_day x (front ++ a ∷ b ∷ back))
  beside x [] back = go (nat_lt x.day e.day) refl
    where
      go : (c : Bool) → nat_lt x.day e.day ≡ c
          → IsCut e a b (cond c (x ∷ e ∷ back) (e ∷ by_day x back)) (by_day x (a ∷ b ∷ back))
      go true is =
          let first : nat_lt x.day a.day ≡ true = grind (arith, nat_tests) in
          record {
            front = x ∷ [];
            back = back;
            one = refl;
            two = ap (λ c. cond c (x ∷ a ∷ b ∷ back) (a ∷ by_day x (b ∷ back))) first;
          }
      go false is =
          let first : nat_lt x.day a.day ≡ false = grind (arith, nat_tests) in
          let second : nat_lt x.day b.day ≡ false = grind (arith, nat_tests) in
          record {
            front = [];
            back = by_day x back;
            one = refl;
            two = ap (λ c. cond c (x ∷ a ∷ b ∷ back) (a ∷ by_day x (b ∷ back))) first
                ∙ ap (λ c. a ∷ cond c (x ∷ b ∷ back) (b ∷ by_day x back)) second;
          }
  beside x (f ∷ front) back = go (nat_lt x.day f.day) (beside x front back)
    where
      go : (c : Bool) → IsCut e a b (by_day x (front ++ e ∷ back)) (by_day x (front ++ a ∷ b ∷ back))
          → IsCut e a b (cond c (x ∷ f ∷ front ++ e ∷ back) (f ∷ by_day x (front ++ e ∷ back)))
          (cond c (x ∷ f ∷ front ++ a ∷ b ∷ back) (f ∷ by_day x (front ++ a ∷ b ∷ back)))
      go true rest = record { front = x ∷ f ∷ front; back = back; one = refl; two = refl }
      go false rest = longer e a b f (by_day x (front ++ e ∷ back)) (by_day x (front ++ a ∷ b ∷ back)) rest

  cut_more : (x : Entry) (xs ys : List Entry) → IsCut e a b xs ys → IsCut e a b (with_dated xs x) (with_dated ys x)
  cut_more x xs ys cut = go x.reversed
    where
      go : (c : Bool) → IsCut e a b (cond c xs (by_day x xs)) (cond c ys (by_day x ys))
      go true = cut
      go false =
          subst (λ (zs : List Entry). IsCut e a b (by_day x zs) (by_day x ys)) (sym cut.one)
          (subst (λ (zs : List Entry). IsCut e a b (by_day x (cut.front ++ e ∷ cut.back)) (by_day x zs)) (sym cut.two)
          (beside x cut.front cut.back))

  cut_all : (entries xs ys : List Entry) → IsCut e a b xs ys
      → IsCut e a b (fold with_dated xs entries) (fold with_dated ys entries)
  cut_all [] xs ys cut = cut
  cut_all (x ∷ entries) xs ys cut =
      cut_all entries (with_dated xs x) (with_dated ys x) (cut_more x xs ys cut)

-- ---- the account

pub after_both : (loan : DisbursedLoan) (xs ys : List Entry) (before : State)
    → after_entries (orders_of loan) (xs ++ ys) before
    ≡ after_entries (orders_of loan) ys (after_entries (orders_of loan) xs before)
after_both loan [] ys before = refl
after_both loan (x ∷ xs) ys before = after_both loan xs ys (after_entry (orders_of loan x) x before)

pub front_all : (P : Entry → Type 0) (xs ys : List Entry) → AllByRecursion P (xs ++ ys) → AllByRecursion P xs
front_all P [] ys all = tt
front_all P (x ∷ xs) ys all = (all.0, front_all P xs ys all.1)

there_same : (kind : Kind) (n : ℕ) (e : Entry) → HasInstalment kind e n → HasInstalment kind (what_counts e) n
there_same Repay n e has = has
there_same Fee n e has = has
there_same Penalty n e has = has
there_same Waive n e has = has
there_same WriteOff n e has = has
there_same Refund n e has = has

pub counts_all : (n : ℕ) (xs : List Entry) → AllByRecursion (IsReplayable n) xs
    → AllByRecursion (IsReplayable n) (map what_counts xs)
counts_all n [] all = tt
counts_all n (x ∷ xs) all =
    (record { most = all.0.most; there = there_same x.kind n x all.0.there }, counts_all n xs all.1)

-- the state before a standing entry has whole rows
line_before : (loan : DisbursedLoan) (front rest : List Entry) (e : Entry) → IsSoundDisbursed loan
    → map what_counts (standing_entries loan.entries) ≡ front ++ rest
    → IsLine loan.periods (orders_of loan e) (cell_places_of loan e)
    (after_entries (orders_of loan) front (first_state (schedule_of loan))).rows
line_before loan front rest e sound is =
    let n : ℕ = loan.periods in
    let each : AllByRecursion (IsReplayable n) front =
    front_all (IsReplayable n) front rest (subst (AllByRecursion (IsReplayable n)) is
    (counts_all n (standing_entries loan.entries) (recursion_from_All (IsReplayable n) (standing_entries loan.entries)
    (each-standing loan sound)))) in
    let good : IsBounded n (2 ^ 54 + amounts front)
    (after_entries (orders_of loan) front (first_state (schedule_of loan))) =
    good-all n (2 ^ 54) (orders_of loan) (cell_places_of loan) front (first_state (schedule_of loan)) (lawful-of loan)
    (All-from_recursion (IsReplayable n) front each) (first-good loan sound) in
    record { size = good.size; is = lawful-of loan e; whole = good.whole }

-- a payment and its two parts, in what counts
abbrev part_of : Entry → ℕ → Entry
part_of payment amount = what_counts (record payment { amount = amount })

cut_standing : (payment : Entry) (first second : ℕ) (so_far behind : List Entry)
    → (fold with_dated so_far (what_counts payment ∷ behind)
    ≡ fold with_dated so_far (part_of payment first ∷ part_of payment second ∷ behind))
    ⊎ IsCut (what_counts payment) (part_of payment first) (part_of payment second)
    (fold with_dated so_far (what_counts payment ∷ behind))
    (fold with_dated so_far (part_of payment first ∷ part_of payment second ∷ behind))
cut_standing payment first second so_far behind = go payment.reversed
  where
    go : (c : Bool)
        → (fold with_dated (cond c so_far (by_day (what_counts payment) so_far)) behind
        ≡ fold with_dated (cond c (cond c so_far (by_day (part_of payment first) so_far))
        (by_day (part_of payment second) (cond c so_far (by_day (part_of payment first) so_far)))) behind)
        ⊎ IsCut (what_counts payment) (part_of payment first) (part_of payment second)
        (fold with_dated (cond c so_far (by_day (what_counts payment) so_far)) behind)
        (fold with_dated (cond c (cond c so_far (by_day (part_of payment first) so_far))
        (by_day (part_of payment second) (cond c so_far (by_day (part_of payment first) so_far)))) behind)
    go true = inl refl
    go false = inr (cut_all (what_counts payment) (part_of payment first) (part_of payment second) refl refl behind
        (by_day (what_counts payment) so_far)
        (by_day (part_of payment second) (by_day (part_of payment first) so_far))
        (cut_placed (what_counts payment) (part_of payment first) (part_of payment second) refl refl so_far))

cut_state : (loan : DisbursedLoan) (payment : Entry) (first second : ℕ) (xs ys : List Entry) → IsSoundDisbursed loan
    → payment.kind ≡ Repay → payment.amount ≡ first + second → map what_counts (standing_entries loan.entries) ≡ xs
    → IsCut (what_counts payment) (part_of payment first) (part_of payment second) xs ys
    → after_entries (orders_of loan) ys (first_state (schedule_of loan))
    ≡ after_entries (orders_of loan) xs (first_state (schedule_of loan))
cut_state loan payment first second xs ys sound kind sum is cut =
    let e : Entry = what_counts payment in
    let a : Entry = part_of payment first in
    let b : Entry = part_of payment second in
    let start : State = first_state (schedule_of loan) in
    let before : State = after_entries (orders_of loan) cut.front start in
    let line = line_before loan cut.front (e ∷ cut.back) e sound (is ∙ cut.one) in
    let same : after_entry (orders_of loan e) b (after_entry (orders_of loan e) a before)
    ≡ after_entry (orders_of loan e) e before =
    cut_once loan.periods (orders_of loan e) (cell_places_of loan e) e a b before kind kind kind sum line in
    ap (λ (es : List Entry). after_entries (orders_of loan) es start) cut.two
    ∙ after_both loan cut.front (a ∷ b ∷ cut.back) start
    ∙ ap (after_entries (orders_of loan) cut.back) same
    ∙ sym (after_both loan cut.front (e ∷ cut.back) start)
    ∙ ap (λ (es : List Entry). after_entries (orders_of loan) es start) (sym cut.one)

pub cut_same : (loan : DisbursedLoan) (others : List Entry) → IsSoundDisbursed loan → AreNumbered others
    → IsCutInTwo loan.entries others → state_of_loan (record loan { entries = others }) ≡ state_of_loan loan
cut_same loan others sound numbers cut =
    let start : State = first_state (schedule_of loan) in
    let so_far : List Entry = fold with_dated [] (map what_counts cut.before) in
    let behind : List Entry = map what_counts cut.behind in
    let e : Entry = what_counts cut.payment in
    let a : Entry = part_of cut.payment cut.first in
    let b : Entry = part_of cut.payment cut.second in
    let one : map what_counts (standing_entries loan.entries) ≡ fold with_dated so_far (e ∷ behind) =
    standing_by_day loan.entries sound.entries.numbers
    ∙ ap (λ (es : List Entry). fold with_dated [] (map what_counts es)) cut.entries_are
    ∙ ap (fold with_dated []) (map-append what_counts cut.before (cut.payment ∷ cut.behind))
    ∙ fold-append with_dated [] (map what_counts cut.before) (e ∷ behind) in
    let two : map what_counts (standing_entries others) ≡ fold with_dated so_far (a ∷ b ∷ behind) =
    standing_by_day others numbers
    ∙ ap (fold with_dated []) (cut.others_are ∙ map-append what_counts cut.before
    (record cut.payment { amount = cut.first } ∷ record cut.payment { amount = cut.second } ∷ cut.behind))
    ∙ fold-append with_dated [] (map what_counts cut.before) (a ∷ b ∷ behind) in
    let same : after_entries (orders_of loan) (fold with_dated so_far (a ∷ b ∷ behind)) start
    ≡ after_entries (orders_of loan) (fold with_dated so_far (e ∷ behind)) start =
    elim (cut_standing cut.payment cut.first cut.second so_far behind) [
      | inl equal ↦ ap (λ (es : List Entry). after_entries (orders_of loan) es start) (sym equal)
      | inr parts ↦ cut_state loan cut.payment cut.first cut.second (fold with_dated so_far (e ∷ behind))
          (fold with_dated so_far (a ∷ b ∷ behind)) sound cut.kind cut.amount one parts
    ] in
    sym (whatever_numbers loan (standing_entries others) start)
    ∙ ap (λ (es : List Entry). after_entries (orders_of loan) es start) two
    ∙ same
    ∙ ap (λ (es : List Entry). after_entries (orders_of loan) es start) (sym one)
    ∙ whatever_numbers loan (standing_entries loan.entries) start
