-- The order in which entries of different days are entered counts nothing.
use Rattle.std.proofs.Common.{◌≡◌, ◌≢◌, ◌+◌, ◌<◌, ℕ, suc, Bool, true, false, cond, List, [], ◌∷◌}
use Rattle.std.proofs.Common.{length, map, refl, sym, ap, ◌∙◌, subst, arith}
use Rattle.std.specs.Prelude.{fold, nat_lt}
use Rattle.std.specs.List.{AllByRecursion}
use Rattle.std.proofs.lemmas.Bool.{cond_both}
use Rattle.std.proofs.lemmas.Bool.Decides.{nat_tests}
use Rattle.std.proofs.lemmas.List.Sums.{fold-append}
use Rattle.mf_alloc.specs.declared.row.Cell.{Cell}
use Rattle.mf_account.specs.declared.entry.Entry.{Entry}
use Rattle.mf_account.specs.declared.entry.Kind.{Kind}
use Rattle.mf_account.specs.declared.entry.Kind.TheVariants.{Repay, Fee, Penalty, Waive, WriteOff, Refund}
use Rattle.mf_account.specs.Account.{after_entries, first_state}
use Rattle.mf_account.specs.Effect.{State, own_effect, with_overpaid_paid, after_entry}
use Rattle.mf_account.specs.Loan.{DisbursedLoan, orders_of, schedule_of, state_of_loan}
use Rattle.mf_account.specs.Standing.{is_before, order_with, with_entry, standing_entries, entry_at}
use Rattle.mf_account.specs.Told.{AreNumbered}
use Rattle.mf_guarantees.specs.Reorder.{what_counts, AreSwapped, unmoved, swapped, again, AreReordered}

-- ---- entries put into their places by day alone

abbrev pub by_day : Entry → List Entry → List Entry
by_day entry [] = entry ∷ []
by_day entry (first ∷ others) =
    cond (nat_lt entry.day first.day) (entry ∷ first ∷ others) (first ∷ by_day entry others)

abbrev pub with_dated : List Entry → Entry → List Entry
with_dated order entry = cond entry.reversed order (by_day entry order)

-- an entry with the greatest number comes before those alone that are dated later
later_number : (e x : Entry) → x.seq < e.seq → is_before e x ≡ nat_lt e.day x.day
later_number e x less = grind (arith, nat_tests)

placed_by_day : (e : Entry) (xs : List Entry) → AllByRecursion (λ (x : Entry). x.seq < e.seq) xs
    → map what_counts (order_with e xs) ≡ by_day (what_counts e) (map what_counts xs)
placed_by_day e [] all = refl
placed_by_day e (x ∷ xs) all =
    go (is_before e x) (nat_lt e.day x.day) (later_number e x all.0) (placed_by_day e xs all.1)
  where
    go : (a b : Bool) → a ≡ b → map what_counts (order_with e xs) ≡ by_day (what_counts e) (map what_counts xs)
        → map what_counts (cond a (e ∷ x ∷ xs) (x ∷ order_with e xs))
        ≡ cond b (what_counts e ∷ what_counts x ∷ map what_counts xs)
        (what_counts x ∷ by_day (what_counts e) (map what_counts xs))
    go true true same rest = refl
    go false false same rest = ap (λ ys. what_counts x ∷ ys) rest
    go true false same rest = absurd (cc)
    go false true same rest = absurd (cc)

-- ---- numbers stay below the next

abbrev Below : ℕ → List Entry → Type 0
Below k xs = AllByRecursion (λ (x : Entry). x.seq < k) xs

below_more : (k : ℕ) (xs : List Entry) → Below k xs → Below (k + 1) xs
below_more k [] all = tt
below_more k (x ∷ xs) all = (let less = all.0 in omega (arith, less), below_more k xs all.1)

below_placed : (k : ℕ) (e : Entry) (xs : List Entry) → e.seq < k → Below k xs → Below k (order_with e xs)
below_placed k e [] less all = (less, tt)
below_placed k e (x ∷ xs) less all =
    cond_both (is_before e x) (e ∷ x ∷ xs) (x ∷ order_with e xs) (Below k)
    (λ _. (less, all)) (λ _. (all.0, below_placed k e xs less all.1))

abbrev pub Numbered : ℕ → List Entry → Type 0
Numbered k [] = Unit {0}
Numbered k (x ∷ xs) = (x.seq ≡ k) × Numbered (k + 1) xs

pub numbered_from : (k : ℕ) (entries : List Entry)
    → ((i : ℕ) → i < length entries → (entry_at entries i).seq ≡ k + i) → Numbered k entries
numbered_from k [] numbers = tt
numbered_from k (x ∷ xs) numbers = (
  let first = numbers 0 (omega arith) in omega (arith, first),
  numbered_from (k + 1) xs (λ i within. let next = numbers (suc i) (omega (arith, within)) in omega (arith, next)),
)

-- ---- all entries, by day alone

all_by_day : (k : ℕ) (order entries : List Entry) → Below k order → Numbered k entries
    → map what_counts (fold with_entry order entries)
    ≡ fold with_dated (map what_counts order) (map what_counts entries)
all_by_day k order [] below numbers = refl
all_by_day k order (e ∷ es) below numbers =
    go e.reversed (λ b. all_by_day (k + 1) (cond b order (order_with e order)) es (kept b) numbers.1)
  where
    kept : (b : Bool) → Below (k + 1) (cond b order (order_with e order))
    kept true = below_more k order below
    kept false =
        below_placed (k + 1) e order (let number = numbers.0 in omega (arith, number)) (below_more k order below)

    own : AllByRecursion (λ (x : Entry). x.seq < e.seq) order
    own = subst (λ (n : ℕ). Below n order) (sym numbers.0) below

    go : (b : Bool)
        → ((c : Bool) → map what_counts (fold with_entry (cond c order (order_with e order)) es)
        ≡ fold with_dated (map what_counts (cond c order (order_with e order))) (map what_counts es))
        → map what_counts (fold with_entry (cond b order (order_with e order)) es)
        ≡ fold with_dated (cond b (map what_counts order) (by_day (what_counts e) (map what_counts order)))
        (map what_counts es)
    go true rest = rest true
    go false rest =
        rest false ∙ ap (λ (o : List Entry). fold with_dated o (map what_counts es)) (placed_by_day e order own)

pub standing_by_day : (entries : List Entry) → AreNumbered entries
    → map what_counts (standing_entries entries) ≡ fold with_dated [] (map what_counts entries)
standing_by_day entries numbers =
    all_by_day 1 [] entries tt
    (numbered_from 1 entries (λ i within. let number = numbers i within in omega (arith, number)))

-- ---- two entries of different days

placed_either_way : (a b : Entry) (order : List Entry) → a.day ≢ b.day
    → by_day b (by_day a order) ≡ by_day a (by_day b order)
placed_either_way a b [] apart = grind (arith, nat_tests)
placed_either_way a b (x ∷ xs) apart = grind (arith, nat_tests, placed_either_way a b xs apart)

pub dated_either_way : (a b : Entry) (order : List Entry) → a.day ≢ b.day
    → with_dated (with_dated order a) b ≡ with_dated (with_dated order b) a
dated_either_way a b order apart = go a.reversed b.reversed
  where
    go : (p q : Bool) → cond q (cond p order (by_day a order)) (by_day b (cond p order (by_day a order)))
        ≡ cond p (cond q order (by_day b order)) (by_day a (cond q order (by_day b order)))
    go true true = refl
    go true false = refl
    go false true = refl
    go false false = placed_either_way a b order apart

same_order : {xs ys : List Entry} (order : List Entry) → AreSwapped xs ys
    → fold with_dated order xs ≡ fold with_dated order ys
same_order order (unmoved entries) = refl
same_order order (swapped before a b behind apart) =
    fold-append with_dated order before (a ∷ b ∷ behind)
    ∙ ap (λ (o : List Entry). fold with_dated o behind) (dated_either_way a b (fold with_dated order before) apart)
    ∙ sym (fold-append with_dated order before (b ∷ a ∷ behind))
same_order order (again xs ys zs first next) = same_order order first ∙ same_order order next

-- ---- the account

-- what an entry does doesn't depend on its number
same_own : (kind : Kind) (order : ℕ → Cell) (e : Entry) (before : State)
    → own_effect kind order (what_counts e) before ≡ own_effect kind order e before
same_own Repay order e before = refl
same_own Fee order e before = refl
same_own Penalty order e before = refl
same_own Waive order e before = refl
same_own WriteOff order e before = refl
same_own Refund order e before = refl

same_effect : (loan : DisbursedLoan) (e : Entry) (before : State)
    → after_entry (orders_of loan (what_counts e)) (what_counts e) before ≡ after_entry (orders_of loan e) e before
same_effect loan e before =
    ap (with_overpaid_paid (orders_of loan e)) (same_own e.kind (orders_of loan e) e before)

pub whatever_numbers : (loan : DisbursedLoan) (entries : List Entry) (before : State)
    → after_entries (orders_of loan) (map what_counts entries) before
    ≡ after_entries (orders_of loan) entries before
whatever_numbers loan [] before = refl
whatever_numbers loan (e ∷ es) before =
    whatever_numbers loan es (after_entry (orders_of loan (what_counts e)) (what_counts e) before)
    ∙ ap (after_entries (orders_of loan) es) (same_effect loan e before)

pub same_state : (loan : DisbursedLoan) (entries : List Entry) → AreNumbered loan.entries → AreNumbered entries
    → AreReordered loan.entries entries → state_of_loan (record loan { entries = entries }) ≡ state_of_loan loan
same_state loan entries one other reordered =
    let first : State = first_state (schedule_of loan) in
    let same : map what_counts (standing_entries loan.entries) ≡ map what_counts (standing_entries entries) =
    standing_by_day loan.entries one ∙ same_order [] reordered ∙ sym (standing_by_day entries other) in
    sym (whatever_numbers loan (standing_entries entries) first)
    ∙ ap (λ (es : List Entry). after_entries (orders_of loan) es first) (sym same)
    ∙ whatever_numbers loan (standing_entries loan.entries) first
