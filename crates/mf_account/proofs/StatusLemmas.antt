-- The status of a loan with nothing outstanding, told by its entries and what is paid of its instalments.
use Rattle.std.proofs.Common.{◌≡◌, ◌+◌, ◌-◌, ◌<◌, ◌^◌, ℕ, Bool, true, false, true≢false, cond, nat_lt}
use Rattle.std.proofs.Common.{List, [], ◌∷◌, length, sum, inl, inr, arith, refl, sym, ap, ◌∙◌}
use Rattle.std.specs.Prelude.{fold, sum_by}
use Rattle.std.specs.List.{list_any}
use Rattle.std.proofs.lemmas.Bool.{cases_lt, cond_both}
use Rattle.std.proofs.lemmas.Bool.Decides.{nat_tests}
use Rattle.std.proofs.lemmas.List.Sums.{sum_by-cons}
use Rattle.mf_alloc.specs.Sums.{Instalment}
use Rattle.mf_account.specs.declared.entry.Entry.{Entry}
use Rattle.mf_account.specs.declared.entry.Kind.{Kind}
use Rattle.mf_account.specs.declared.entry.Kind.TheVariants.{Repay, Fee, Penalty, Waive, WriteOff, Refund}
use Rattle.mf_account.specs.Kinds.{is_refund, is_seal, money_in}
use Rattle.mf_account.specs.Effect.{State}
use Rattle.mf_account.specs.Standing.{is_before, order_with, with_entry, standing_entries, entry_at}
use Rattle.mf_account.specs.Balance.{sum_repaid}
use Rattle.mf_account.specs.Loan.{DisbursedLoan, IsSoundDisbursed, state_of_loan}
use Rattle.mf_account.proofs.ConserveLemmas.{held-sound}
use Rattle.mf_account.proofs.ResumeLemmas.{EndsInRefund, brought-room, none-overpaid, none-refunded-all}
use Rattle.mf_account.proofs.SealLemmas.{stands_by, none-standing, last-standing}

-- ---- a sum over the standing entries is one over all entries, where those that are reversed count nothing

sum_placed : (f : Entry → ℕ) (e : Entry) (order : List Entry) → sum_by f (order_with e order) ≡ f e + sum_by f order
sum_placed f e [] = sum_by-cons f e []
sum_placed f e (x ∷ xs) =
    let first = sum_by-cons f x xs in
    let later = sum_by-cons f x (order_with e xs) in
    let rest = sum_placed f e xs in
    cond_both (is_before e x) (e ∷ x ∷ xs) (x ∷ order_with e xs) (λ y. sum_by f y ≡ f e + sum_by f (x ∷ xs))
    (λ _. sum_by-cons f e (x ∷ xs)) (λ _. omega (arith, first, later, rest))

-- what an entry counts while it stands
abbrev counted : (Entry → ℕ) → Entry → ℕ
counted f e = cond e.reversed 0 (f e)

sum_with : (f : Entry → ℕ) (order : List Entry) (e : Entry) → sum_by f (with_entry order e) ≡ sum_by f order
    + counted f e
sum_with f order e =
    let more = sum_placed f e order in
    elim e.reversed as (λ b. sum_by f (cond b order (order_with e order)) ≡ sum_by f order + cond b 0 (f e)) [
      | true ↦ omega arith
      | false ↦ omega (arith, more)
    ]

sum_all : (f : Entry → ℕ) (order xs : List Entry) → sum_by f (fold with_entry order xs) ≡ sum_by f order
    + sum_by (counted f) xs
sum_all f order [] = omega arith
sum_all f order (x ∷ xs) =
    let one = sum_with f order x in
    let rest = sum_all f (with_entry order x) xs in
    let all = sum_by-cons (counted f) x xs in
    omega (arith, one, rest, all)

-- what an entry repays while it stands
abbrev pub repaid_by : Entry → ℕ
repaid_by e = cond e.reversed 0 (money_in e.kind e.amount)

pub repaid-told : (entries : List Entry) → sum_by repaid_by entries ≡ sum_repaid entries
repaid-told entries = let all = sum_all (λ (e : Entry). money_in e.kind e.amount) [] entries in omega (arith, all)

-- ---- a refund that stands is the last of the standing entries

refund-seals : (k : Kind) → is_refund k ≡ true → is_seal k ≡ true
refund-seals Refund is = refl
refund-seals WriteOff is = refl
refund-seals Repay is = is
refund-seals Fee is = is
refund-seals Penalty is = is
refund-seals Waive is = is

refund-is : (k : Kind) → is_refund k ≡ true → k ≡ Refund
refund-is Refund is = refl
refund-is WriteOff is = absurd (true≢false (sym is))
refund-is Repay is = absurd (true≢false (sym is))
refund-is Fee is = absurd (true≢false (sym is))
refund-is Penalty is = absurd (true≢false (sym is))
refund-is Waive is = absurd (true≢false (sym is))

-- a refund stands
abbrev pub is_refunded : List Entry → Bool
is_refunded entries = list_any (stands_by is_refund) entries

ends-refunded : (loan : DisbursedLoan) → IsSoundDisbursed loan → is_refunded loan.entries ≡ true → EndsInRefund
    (standing_entries loan.entries) (length (standing_entries loan.entries))
ends-refunded loan sound given =
    let all : List Entry = standing_entries loan.entries in
    elim (cases_lt 0 (length all)) [
      | inl some ↦
          let kind : Kind = (entry_at all (length all - 1)).kind in
          let last = last-standing is_refund loan.periods loan.day loan.entries refund-seals sound.entries some in
          (some, refund-is kind (sym last ∙ given))
      | inr empty ↦ absurd (true≢false (sym given
          ∙ none-standing is_refund loan.periods loan.day loan.entries sound.entries (omega (arith, empty))))
    ]

kept-unrefunded : (loan : DisbursedLoan) → IsSoundDisbursed loan → is_refunded loan.entries ≡ false → EndsInRefund
    (standing_entries loan.entries) (length (standing_entries loan.entries)) → ⊥
kept-unrefunded loan sound kept ends =
    let last = last-standing is_refund loan.periods loan.day loan.entries refund-seals sound.entries ends.0 in
    true≢false (sym (ap is_refund ends.1) ∙ sym last ∙ kept)

-- ---- what is overpaid

-- a refund that stands leaves nothing overpaid
pub overpaid-refunded : (loan : DisbursedLoan) → IsSoundDisbursed loan → is_refunded loan.entries ≡ true
    → false ≡ nat_lt 0
    (state_of_loan loan).overpaid
overpaid-refunded loan sound given =
    ap (nat_lt 0) (sym (none-overpaid loan sound (ends-refunded loan sound given)))

-- what is repaid beyond what is paid is overpaid, where nothing is refunded
beyond : (paid over refunded all brought : ℕ) → paid + over + refunded ≡ brought → refunded ≡ 0 → all ≡ brought
    → nat_lt paid all ≡ nat_lt 0 over
beyond paid over refunded all brought held none told = grind (arith, nat_tests)

-- all that is paid of rows
abbrev pub paid_of : List Instalment → ℕ
paid_of rows = sum_by (λ (row : Instalment). sum row.paid) rows

pub overpaid-kept : (loan : DisbursedLoan) (all paid : ℕ) → IsSoundDisbursed loan → is_refunded loan.entries ≡ false
    → all ≡ sum_repaid loan.entries → paid ≡ paid_of (state_of_loan loan).rows
    → nat_lt paid all ≡ nat_lt 0 (state_of_loan loan).overpaid
overpaid-kept loan all paid sound kept all_is paid_is =
    let state : State = state_of_loan loan in
    let none : state.refunded ≡ 0 = none-refunded-all loan sound (kept-unrefunded loan sound kept) in
    ap (λ n. nat_lt n all) paid_is ∙ beyond (paid_of state.rows) state.overpaid state.refunded all
    (sum_repaid loan.entries) (held-sound loan sound) none all_is

-- what is repaid, and so what is paid, fits 64 bits
pub repaid-room : (loan : DisbursedLoan) → IsSoundDisbursed loan → sum_repaid loan.entries < 2 ^ 64
repaid-room loan sound = let room = brought-room loan sound in omega (arith, room)

pub paid-room : (loan : DisbursedLoan) → IsSoundDisbursed loan → paid_of (state_of_loan loan).rows < 2 ^ 64
paid-room loan sound =
    let room = brought-room loan sound in
    let held = held-sound loan sound in
    omega (arith, room, held)
