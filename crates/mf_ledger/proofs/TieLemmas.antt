-- The balances of an office's loans, as sums of whole numbers.
use Rattle.std.proofs.Common.{◌≡◌, ◌≤◌, ◌+◌, ℕ, Bool, true, false, cond, List, [], ◌∷◌, Option, Some, None, refl, ap}
use Rattle.std.proofs.Common.{◌∙◌, arith, sum}
use Rattle.std.specs.Prelude.{nat_le, filter, pos, ◌+ℤ◌, ◌-ℤ◌, neg_ℤ, sum_by, slice_index}
use Rattle.std.specs.List.{AllByRecursion}
use Rattle.std.proofs.lemmas.Bool.Decides.{nat_tests}
use Rattle.std.proofs.lemmas.Int.{ints}
use Rattle.std.proofs.lemmas.List.Sums.{sum_by-cons}
use Rattle.mf_alloc.specs.Sums.{Instalment, open_at}
use Rattle.mf_account.specs.Balance.{balances_of, open_in}
use Rattle.mf_account.specs.Loan.{DisbursedLoan}
use Rattle.mf_account.proofs.ConserveLemmas.{sum-four}
use Rattle.mf_model.specs.Accounts.{account_in, of_account, no_balances, balances_in}
use Rattle.mf_model.specs.Institution.{Catalogue, Ledger}
use Rattle.mf_ledger.specs.declared.accrual.AccruedSums.{AccruedSums}
use Rattle.mf_ledger.specs.Accrual.{due_open, unpaid_income}
use Rattle.mf_ledger.specs.Books.{signed_sum}

pub sum-pos : {X : Type 0} (read : X → ℕ) (xs : List X) → signed_sum (λ x. pos (read x)) xs ≡ pos (sum_by read xs)
sum-pos read [] = refl
sum-pos read (x ∷ xs) =
    let rest = sum-pos read xs in
    let all = sum_by-cons read x xs in
    omega (arith, ints, rest, all)

pub sum-neg : {X : Type 0} (read : X → ℕ) (xs : List X)
    → signed_sum (λ x. neg_ℤ (pos (read x))) xs ≡ neg_ℤ (pos (sum_by read xs))
sum-neg read [] = refl
sum-neg read (x ∷ xs) =
    let rest = sum-neg read xs in
    let all = sum_by-cons read x xs in
    omega (arith, ints, rest, all)

pub cash-sums : {X : Type 0} (a b c d : X → ℕ) (xs : List X)
    → signed_sum (λ x. (pos (a x) +ℤ pos (b x)) -ℤ (pos (c x) +ℤ pos (d x))) xs
    ≡ (pos (sum_by a xs) +ℤ pos (sum_by b xs)) -ℤ (pos (sum_by c xs) +ℤ pos (sum_by d xs))
cash-sums a b c d [] = refl
cash-sums a b c d (x ∷ xs) =
    let rest = cash-sums a b c d xs in
    let p = sum_by-cons a x xs in
    let q = sum_by-cons b x xs in
    let r = sum_by-cons c x xs in
    let s = sum_by-cons d x xs in
    omega (arith, ints, rest, p, q, r, s)

-- what was paid of all portions of a loan
paid-four : (k : Catalogue) (l : Ledger) → sum (balances_in k l).paid ≡ slice_index (balances_in k l).paid 0
    + slice_index (balances_in k l).paid 1 + slice_index (balances_in k l).paid 2 + slice_index (balances_in k l).paid 3
paid-four k l = go (account_in k l)
  where
    go : (o : Option DisbursedLoan) → sum (of_account no_balances balances_of o).paid
        ≡ slice_index (of_account no_balances balances_of o).paid 0
        + slice_index (of_account no_balances balances_of o).paid 1
        + slice_index (of_account no_balances balances_of o).paid 2
        + slice_index (of_account no_balances balances_of o).paid 3
    go None = refl
    go (Some a) = sum-four (balances_of a).paid refl

pub paid-sums : (k : Catalogue) (ls : List Ledger) → sum_by (λ (l : Ledger). sum (balances_in k l).paid) ls
    ≡ sum_by (λ (l : Ledger). slice_index (balances_in k l).paid 0) ls
    + sum_by (λ (l : Ledger). slice_index (balances_in k l).paid 1) ls
    + sum_by (λ (l : Ledger). slice_index (balances_in k l).paid 2) ls
    + sum_by (λ (l : Ledger). slice_index (balances_in k l).paid 3) ls
paid-sums k [] = refl
paid-sums k (l ∷ ls) =
    let rest = paid-sums k ls in
    let here = paid-four k l in
    let all = sum_by-cons (λ (x : Ledger). sum (balances_in k x).paid) l ls in
    let p = sum_by-cons (λ (x : Ledger). slice_index (balances_in k x).paid 0) l ls in
    let q = sum_by-cons (λ (x : Ledger). slice_index (balances_in k x).paid 1) l ls in
    let r = sum_by-cons (λ (x : Ledger). slice_index (balances_in k x).paid 2) l ls in
    let s = sum_by-cons (λ (x : Ledger). slice_index (balances_in k x).paid 3) l ls in
    omega (arith, rest, here, all, p, q, r, s)

-- ---- what fell due and is outstanding

pub due-most : (day p : ℕ) (rows : List Instalment) → due_open day rows p ≤ open_in p rows
due-most day p [] = omega arith
due-most day p (row ∷ rows) = go (nat_le row.due day) (due-most day p rows)
  where
    go : (b : Bool) → due_open day rows p ≤ open_in p rows
        → open_in p (cond b (row ∷ filter (λ (r : Instalment). nat_le r.due day) rows)
        (filter (λ (r : Instalment). nat_le r.due day) rows)) ≤ open_in p (row ∷ rows)
    go true rest =
        let both = sum_by-cons (λ (r : Instalment). open_at r p) row rows in
        let some = sum_by-cons (λ (r : Instalment). open_at r p) row
        (filter (λ (r : Instalment). nat_le r.due day) rows) in
        omega (arith, rest, both, some)
    go false rest =
        let both = sum_by-cons (λ (r : Instalment). open_at r p) row rows in
        omega (arith, rest, both)

all-kept : (day : ℕ) (rows : List Instalment) → AllByRecursion (λ (row : Instalment). row.due ≤ day) rows
    → filter (λ (row : Instalment). nat_le row.due day) rows ≡ rows
all-kept day [] all = refl
all-kept day (row ∷ rows) all =
    let first = all.0 in
    let is : nat_le row.due day ≡ true = grind (arith, nat_tests, first) in
    ap (λ b. cond b (row ∷ filter (λ (r : Instalment). nat_le r.due day) rows)
    (filter (λ (r : Instalment). nat_le r.due day) rows)) is
    ∙ ap (λ rs. row ∷ rs) (all-kept day rows all.1)

pub due-all : (day p : ℕ) (rows : List Instalment) → AllByRecursion (λ (row : Instalment). row.due ≤ day) rows
    → due_open day rows p ≡ open_in p rows
due-all day p rows all = ap (open_in p) (all-kept day rows all)

pub unpaid-sums : {X : Type 0} (p : ℕ) (read : X → AccruedSums) (xs : List X)
    → signed_sum (λ x. unpaid_income p (read x)) xs
    ≡ neg_ℤ (pos (sum_by (λ x. slice_index (read x).due p) xs) +ℤ (pos (sum_by (λ x. slice_index (read x).waived p) xs)
    +ℤ pos (sum_by (λ x. slice_index (read x).written_off p) xs)))
unpaid-sums p read [] = refl
unpaid-sums p read (x ∷ xs) =
    let rest = unpaid-sums p read xs in
    let due = sum_by-cons (λ y. slice_index (read y).due p) x xs in
    let waived = sum_by-cons (λ y. slice_index (read y).waived p) x xs in
    let written_off = sum_by-cons (λ y. slice_index (read y).written_off p) x xs in
    omega (arith, ints, rest, due, waived, written_off)
