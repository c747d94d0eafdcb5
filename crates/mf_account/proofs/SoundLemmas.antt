-- A sound loan can be replayed, and stays sound when an entry is entered or reversed.
use Rattle.std.proofs.Common.{◌≡◌, ◌≢◌, ℕ, zero, suc, ◌+◌, ◌-◌, ◌*◌, ◌^◌, ◌<◌, ◌≤◌, Bool, true, false, not, ◌&&◌, ◌||◌}
use Rattle.std.proofs.Common.{cond, eqb, ltb, true≢false, ◌==◌, List, [], ◌∷◌, ◌++◌, length, map, get_or, Option}
use Rattle.std.proofs.Common.{inl, inr, arith, refl, ◌∙◌, ap, subst, sym, length-append}
use Rattle.std.specs.Prelude.{sum_by, All, fold}
use Rattle.std.proofs.Math.ListN.{get_or-append}
use Rattle.std.proofs.lemmas.Bool.{cases_lt, cases_eq, cond_both, cond-true, cond-false, ltb-false, eqb-false, eq-eqb}
use Rattle.std.proofs.lemmas.Bool.{lt-ltb}
use Rattle.std.proofs.lemmas.List.{length-map, get_or-append_right, get_or-set_same, get_or-set_other, length-set}
use Rattle.std.proofs.lemmas.List.FromFn.{length-map-range_with_len}
use Rattle.std.proofs.lemmas.List.Folds.{list_any_at}
use Rattle.std.proofs.lemmas.List.Elements.{All-nil, All-cons, All-head, All-tail, All-append, All-set, All-weaker}
use Rattle.std.proofs.lemmas.List.Sums.{sum_by-append}
use Rattle.mf_base.specs.declared.fault.Fault.{Fault}
use Rattle.mf_catalog.specs.declared.terms.StrategyName.{StrategyName}
use Rattle.mf_schedule.specs.declared.instalment.FreshInstalment.{FreshInstalment}
use Rattle.mf_schedule.specs.Fresh.{total_owed, instalment_of}
use Rattle.mf_schedule.proofs.BoundLemmas.{scheduled_owed-le}
use Rattle.mf_alloc.specs.Sums.{Instalment, IsWhole, AreWhole, nothing}
use Rattle.mf_alloc.specs.Order.{cell_by, place_by, due_by}
use Rattle.mf_alloc.specs.OrderLaws.{is_cell-cell_by, back-cell_by}
use Rattle.mf_alloc.specs.OrderLaws.{IsOrder}
use Rattle.mf_account.specs.declared.entry.Entry.{Entry}
use Rattle.mf_account.specs.declared.entry.Kind.{Kind}
use Rattle.mf_account.specs.declared.entry.Kind.TheVariants.{Repay, Fee, Penalty, Waive, WriteOff, Refund}
use Rattle.mf_account.specs.Kinds.{is_seal}
use Rattle.mf_account.specs.Account.{first_state, row_of}
use Rattle.mf_account.specs.Standing.{is_before, order_with, with_entry, standing_entries, no_entry, entry_at}
use Rattle.mf_account.specs.Standing.{with_mark}
use Rattle.mf_account.specs.Applicable.{AreApplicable}
use Rattle.mf_account.specs.Loan.{DisbursedLoan, HasColumns, IsEntry, SealIsLast, AreEntries, IsSoundDisbursed}
use Rattle.mf_account.specs.Loan.{schedule_of, orders_of}
use Rattle.mf_account.specs.Loan.{cell_places_of, state_of_loan}
use Rattle.mf_account.specs.Refusals.{is_standing_seal, is_sealed, is_out_of_order, is_out_of_limits, HasForm}
use Rattle.mf_account.specs.Refusals.{IsOffered, IsEntryAdmitted}
use Rattle.mf_alloc.specs.Sums.{IsRowWithin, AreWithin}
use Rattle.mf_account.specs.Applicable.{HasInstalment}
use Rattle.mf_account.proofs.DueLemmas.{due_by-le}
use Rattle.mf_account.specs.Safe.{IsBounded}
use Rattle.mf_account.proofs.GoodLemmas.{IsReplayable, amounts, applicable-all, good-all}

pub lawful : (name : StrategyName) (n due : ℕ) → due ≤ n → IsOrder n (cell_by name due) (place_by name due)
lawful name n due few = record {
  is_cell = λ k within. is_cell-cell_by name n due k few within;
  back = λ k within. back-cell_by name due k;
}

-- the fresh rows
nothing-at : (p : ℕ) → get_or nothing p 0 ≡ 0
nothing-at zero = refl
nothing-at (suc zero) = refl
nothing-at (suc (suc zero)) = refl
nothing-at (suc (suc (suc zero))) = refl
nothing-at (suc (suc (suc (suc p)))) = refl

owed-first : (q : ℕ) (i : FreshInstalment) → get_or (row_of i).owed q 0 ≤ i.principal + i.interest + i.fees
owed-first zero i = omega arith
owed-first (suc zero) i = omega arith
owed-first (suc (suc zero)) i = omega arith
owed-first (suc (suc (suc zero))) i = omega arith
owed-first (suc (suc (suc (suc q)))) i = omega arith

whole-first : (schedule : List FreshInstalment) → AreWhole (map row_of schedule)
whole-first [] = All-nil IsWhole
whole-first (i ∷ schedule) = All-cons IsWhole (row_of i) (map row_of schedule) (record {
  owed = refl;
  paid = refl;
  waived = refl;
  written_off = refl;
}) (whole-first schedule)

within-first : (schedule : List FreshInstalment) → AreWithin (map row_of schedule)
within-first [] = All-nil IsRowWithin
within-first (i ∷ schedule) = All-cons IsRowWithin (row_of i) (map row_of schedule)
    (λ p less. let none = nothing-at p in omega (arith, none)) (within-first schedule)

abbrev row_total : FreshInstalment → ℕ
row_total i = i.principal + i.interest + i.fees

owed-all : (q : ℕ) (schedule : List FreshInstalment)
    → sum_by (λ (row : Instalment). get_or row.owed q 0) (map row_of schedule)
    ≤ total_owed schedule
owed-all q [] = omega arith
owed-all q (i ∷ schedule) =
    let rest = owed-all q schedule in
    let one = owed-first q i in
    let left = sum_by-append (λ (row : Instalment). get_or row.owed q 0) (row_of i ∷ []) (map row_of schedule) in
    let right = sum_by-append row_total (i ∷ []) schedule in
    omega (arith, rest, one, left, right)

good-first : (schedule : List FreshInstalment) (used : ℕ) → total_owed schedule ≤ used
    → IsBounded (length schedule) used (first_state schedule)
good-first schedule used room = record {
  size = length-map schedule row_of;
  whole = whole-first schedule;
  within = within-first schedule;
  owed = λ q. let all = owed-all q schedule in omega (arith, all, room);
  money = omega arith;
}

pub length-schedule : (loan : DisbursedLoan) → length (schedule_of loan) ≡ loan.periods
length-schedule loan = length-map-range_with_len (instalment_of loan.terms loan.principal loan.periods loan.day) 1
    loan.periods

-- how many instalments are due by an entry's day
abbrev pub due_at : DisbursedLoan → Entry → ℕ
due_at loan e = due_by e.day (first_state (schedule_of loan)).rows

pub due_at-le : (loan : DisbursedLoan) (e : Entry) → due_at loan e ≤ loan.periods
due_at-le loan e =
    let most = due_by-le e.day (first_state (schedule_of loan)).rows in
    let size = length-map (schedule_of loan) row_of in
    let periods = length-schedule loan in
    omega (arith, most, size, periods)

pub lawful-of : (loan : DisbursedLoan) (e : Entry) → IsOrder loan.periods (orders_of loan e) (cell_places_of loan e)
lawful-of loan e = lawful loan.terms.strategy loan.periods (due_at loan e) (due_at-le loan e)

-- an entry of a loan can be replayed
most-by : (kind : Kind) (n : ℕ) (e : Entry) → HasColumns kind n e → e.amount ≤ 10 ^ 12
most-by Repay n e has = has.1
most-by Fee n e has = has.1
most-by Penalty n e has = has.1
most-by Waive n e has = omega (arith, has.0)
most-by WriteOff n e has = omega (arith, has.0)
most-by Refund n e has = omega (arith, has.0)

there-by : (kind : Kind) (n : ℕ) (e : Entry) → HasColumns kind n e → HasInstalment kind e n
there-by Repay n e has = tt
there-by Fee n e has = (has.2, has.3)
there-by Penalty n e has = (has.2, has.3)
there-by Waive n e has = (has.1, has.2)
there-by WriteOff n e has = tt
there-by Refund n e has = tt

pub replayable : (n day : ℕ) (e : Entry) → IsEntry n day e → IsReplayable n e
replayable n day e is = record { most = most-by e.kind n e is.columns; there = there-by e.kind n e is.columns }

-- what holds of all entries holds of the standing ones
All-placed : (P : Entry → Type 0) (e : Entry) (xs : List Entry) → P e → All P xs → All P (order_with e xs)
All-placed P e [] here each = All-cons P e [] here each
All-placed P e (x ∷ xs) here each =
    cond_both (is_before e x) (e ∷ x ∷ xs) (x ∷ order_with e xs) (All P)
    (λ _. All-cons P e (x ∷ xs) here each)
    (λ _. All-cons P x (order_with e xs) (All-head P x xs each) (All-placed P e xs here (All-tail P x xs each)))

All-fold : (P : Entry → Type 0) (order xs : List Entry) → All P order → All P xs → All P (fold with_entry order xs)
All-fold P order [] before each = before
All-fold P order (x ∷ xs) before each =
    All-fold P (with_entry order x) xs
    (cond_both x.reversed order (order_with x order) (All P) (λ _. before)
    (λ _. All-placed P x order (All-head P x xs each) before))
    (All-tail P x xs each)

pub All-standing : (P : Entry → Type 0) (entries : List Entry) → All P entries → All P (standing_entries entries)
All-standing P entries each = All-fold P [] entries (All-nil P) each

length-placed : (e : Entry) (xs : List Entry) → length (order_with e xs) ≡ length xs + 1
length-placed e [] = refl
length-placed e (x ∷ xs) =
    let rest = length-placed e xs in
    cond_both (is_before e x) (e ∷ x ∷ xs) (x ∷ order_with e xs) (λ y. length y ≡ length (x ∷ xs) + 1)
    (λ _. omega arith) (λ _. omega (arith, rest))

length-fold : (order xs : List Entry) → length (fold with_entry order xs) ≤ length order + length xs
length-fold order [] = omega arith
length-fold order (x ∷ xs) =
    let one : length (with_entry order x) ≤ length order + 1 =
    cond_both x.reversed order (order_with x order) (λ y. length y ≤ length order + 1) (λ _. omega arith)
    (λ _. let grown = length-placed x order in omega (arith, grown)) in
    let rest = length-fold (with_entry order x) xs in
    omega (arith, one, rest)

pub length-standing-le : (entries : List Entry) → length (standing_entries entries) ≤ length entries
length-standing-le entries = let all = length-fold [] entries in omega (arith, all)

pub amounts-most : (n : ℕ) (entries : List Entry) → All (IsReplayable n) entries → amounts entries
    ≤ 10 ^ 12 * length entries
amounts-most n [] each = omega arith
amounts-most n (e ∷ entries) each =
    let one : IsReplayable n e = All-head (IsReplayable n) e entries each in
    let rest = amounts-most n entries (All-tail (IsReplayable n) e entries each) in
    let all = sum_by-append (λ (x : Entry). x.amount) (e ∷ []) entries in
    omega (arith, one.most, rest, all)

-- the standing entries of a sound loan
pub each-standing : (loan : DisbursedLoan) → IsSoundDisbursed loan
    → All (IsReplayable loan.periods) (standing_entries loan.entries)
each-standing loan sound =
    All-standing (IsReplayable loan.periods) loan.entries
    (All-weaker (IsEntry loan.periods loan.day) (IsReplayable loan.periods) (replayable loan.periods loan.day)
    loan.entries sound.entries.each)

pub standing-amounts : (loan : DisbursedLoan) → IsSoundDisbursed loan → amounts (standing_entries loan.entries)
    ≤ 9999 * 10 ^ 12
standing-amounts loan sound =
    let most = amounts-most loan.periods (standing_entries loan.entries) (each-standing loan sound) in
    let few = length-standing-le loan.entries in
    omega (arith, most, few, sound.entries.few)

pub first-good : (loan : DisbursedLoan) → IsSoundDisbursed loan
    → IsBounded loan.periods (2 ^ 54) (first_state (schedule_of loan))
first-good loan sound =
    let owed = scheduled_owed-le loan.terms loan.principal loan.periods loan.day sound.limits in
    subst (λ (n : ℕ). IsBounded n (2 ^ 54) (first_state (schedule_of loan))) (length-schedule loan)
    (good-first (schedule_of loan) (2 ^ 54) (omega (arith, owed)))

-- no sum overflows on the way
pub applicable-sound : (loan : DisbursedLoan) → IsSoundDisbursed loan
    → AreApplicable (orders_of loan) (standing_entries loan.entries)
    (first_state (schedule_of loan))
applicable-sound loan sound =
    let sum = standing-amounts loan sound in
    applicable-all loan.periods (2 ^ 54) (orders_of loan) (cell_places_of loan) (standing_entries loan.entries)
    (first_state (schedule_of loan))
    (lawful-of loan) (each-standing loan sound) (first-good loan sound) (omega (arith, sum))

pub good-sound : (loan : DisbursedLoan) → IsSoundDisbursed loan
    → IsBounded loan.periods (2 ^ 54 + amounts (standing_entries loan.entries)) (state_of_loan loan)
good-sound loan sound =
    good-all loan.periods (2 ^ 54) (orders_of loan) (cell_places_of loan) (standing_entries loan.entries)
    (first_state (schedule_of loan))
    (lawful-of loan) (each-standing loan sound) (first-good loan sound)

-- the refusal that is chosen
pub chosen-here : (b : Bool) (first rest : Option Fault) → b ≡ true → first ≡ cond b first rest
chosen-here b first rest is = sym (cond-true b first rest is)

pub chosen-later : (b : Bool) (first rest found : Option Fault) → b ≡ false → found ≡ rest → found ≡ cond b first rest
chosen-later b first rest found not_it is = is ∙ sym (cond-false b first rest not_it)

or_none : (a b : Bool) → (a || b) ≡ false → (a ≡ false) × (b ≡ false)
or_none true b none = absurd (true≢false none)
or_none false b none = (refl, none)

limits-from : (amount : ℕ) → ((amount == 0) || ltb (10 ^ 12) amount) ≡ false → (1 ≤ amount) × (amount ≤ 10 ^ 12)
limits-from amount none =
    let both = or_none (eqb amount 0) (ltb (10 ^ 12) amount) none in
    let some : amount ≢ 0 = eqb-false amount 0 both.0 in
    (omega (arith, some), ltb-false (10 ^ 12) amount both.1)

columns-by : (kind : Kind) (e : Entry) (business_day n : ℕ) → HasForm kind business_day e → HasInstalment kind e n
    → is_out_of_limits kind e.amount ≡ false → HasColumns kind n e
columns-by Repay e business_day n form there within = form
columns-by Fee e business_day n form there within =
    let amount = limits-from e.amount within in
    (amount.0, amount.1, there.0, there.1, form.1, form.2)
columns-by Penalty e business_day n form there within =
    let amount = limits-from e.amount within in
    (amount.0, amount.1, there.0, there.1, form.1, form.2)
columns-by Waive e business_day n form there within = (form.1, there.0, there.1, form.2, form.3)
columns-by WriteOff e business_day n form there within = (form.1, form.2, form.3, form.4)
columns-by Refund e business_day n form there within = (form.1, form.2, form.3, form.4)

from-by : (kind : Kind) (first business_day : ℕ) (e : Entry) → HasForm kind business_day e
    → is_out_of_order kind first business_day e.day ≡ false → first ≤ business_day → first ≤ e.day
from-by Repay first business_day e form in_order disbursed =
    ltb-false e.day first (or_none (ltb e.day first) (ltb business_day e.day) in_order).0
from-by Fee first business_day e form in_order disbursed = omega (arith, form.0, disbursed)
from-by Penalty first business_day e form in_order disbursed = omega (arith, form.0, disbursed)
from-by Waive first business_day e form in_order disbursed = omega (arith, form.0, disbursed)
from-by WriteOff first business_day e form in_order disbursed = omega (arith, form.0, disbursed)
from-by Refund first business_day e form in_order disbursed = omega (arith, form.0, disbursed)

-- an entry added at the end, read
pub entry_at-before : (entries : List Entry) (e : Entry) (i : ℕ) → i < length entries → entry_at (entries ++ e ∷ []) i
    ≡ entry_at entries i
entry_at-before entries e i within = get_or-append entries (e ∷ []) no_entry i within

pub entry_at-last : (entries : List Entry) (e : Entry) (i : ℕ) → i ≡ length entries → entry_at (entries ++ e ∷ []) i ≡ e
entry_at-last entries e i is =
    get_or-append_right entries (e ∷ []) (length entries) i no_entry refl (omega arith)
    ∙ (let none : i - length entries ≡ 0 = omega arith in ap (λ x. get_or (e ∷ []) x no_entry) none)

-- no seal stands
no-seal : (entries : List Entry) (i : ℕ) → is_sealed entries ≡ false → i < length entries
    → (entry_at entries i).reversed ≡ false → is_seal (entry_at entries i).kind ≡ true → ⊥
no-seal entries i unsealed within stands seal =
    let here : is_standing_seal (entry_at entries i) ≡ true =
    ap (λ b. not b && is_seal (entry_at entries i).kind) stands ∙ seal in
    true≢false (sym (list_any_at is_standing_seal entries i no_entry within here) ∙ unsealed)

seal-day : (kind : Kind) (business_day : ℕ) (e : Entry) → HasForm kind business_day e → is_seal kind ≡ true
    → e.day ≡ business_day
seal-day Repay business_day e form seal = absurd (true≢false (sym seal))
seal-day Fee business_day e form seal = form.0
seal-day Penalty business_day e form seal = form.0
seal-day Waive business_day e form seal = form.0
seal-day WriteOff business_day e form seal = form.0
seal-day Refund business_day e form seal = form.0

pub or_true : (x y : Bool) → y ≡ true → (x || y) ≡ true
or_true true y h = refl
or_true false y h = h

-- an earlier day, or the same day and an earlier number
pub before-from : (a b : Entry) → a.day ≤ b.day → a.seq < b.seq → is_before a b ≡ true
before-from a b day seq =
    elim (cases_lt a.day b.day) [
      | inl less ↦ ap (λ x. x || (eqb a.day b.day && ltb a.seq b.seq)) (lt-ltb a.day b.day less)
      | inr more ↦
          let same : a.day ≡ b.day = omega arith in
          let tie : (eqb a.day b.day && ltb a.seq b.seq) ≡ true =
          ap (λ x. x && ltb a.seq b.seq) (eq-eqb a.day b.day same) ∙ lt-ltb a.seq b.seq seq in
          or_true (ltb a.day b.day) (eqb a.day b.day && ltb a.seq b.seq) tie
    ]

seal-entered : (n day business_day : ℕ) (entries : List Entry) (e : Entry) → AreEntries n day entries
    → is_sealed entries ≡ false → e.seq ≡ length entries + 1 → ((i : ℕ) → i < length entries → (entry_at entries i).day
    ≤ business_day) → HasForm e.kind business_day e → SealIsLast (entries ++ e ∷ [])
seal-entered n day business_day entries e are unsealed next latest form i j below_i below_j apart stands_i stands_j
    seal =
    let size : length (entries ++ e ∷ []) ≡ length entries + 1 = length-append entries (e ∷ []) in
    elim (cases_lt i (length entries)) [
      | inl within ↦
          let same : entry_at (entries ++ e ∷ []) i ≡ entry_at entries i = entry_at-before entries e i within in
          absurd (no-seal entries i unsealed within (ap (λ (x : Entry). x.reversed) (sym same) ∙ stands_i)
          (ap (λ (x : Entry). is_seal x.kind) (sym same) ∙ seal))
      | inr past ↦
          let last : i ≡ length entries = omega (arith, size, below_i, past) in
          let is : entry_at (entries ++ e ∷ []) i ≡ e = entry_at-last entries e i last in
          let earlier : j < length entries = omega (arith, size, below_j, apart, last) in
          let other : entry_at (entries ++ e ∷ []) j ≡ entry_at entries j = entry_at-before entries e j earlier in
          let dated : e.day ≡ business_day =
          seal-day e.kind business_day e form (ap (λ (x : Entry). is_seal x.kind) (sym is) ∙ seal) in
          let number : (entry_at entries j).seq ≡ j + 1 = are.numbers j earlier in
          let late : (entry_at entries j).day ≤ business_day = latest j earlier in
          ap (λ (x : Entry). is_before x (entry_at (entries ++ e ∷ []) i)) other
          ∙ ap (λ (x : Entry). is_before (entry_at entries j) x) is
          ∙ before-from (entry_at entries j) e (omega (arith, dated, late)) (omega (arith, number, next, earlier))
    ]

-- a sound loan with an entry that nothing refuses
pub sound-entered : (loan : DisbursedLoan) (e : Entry) (business_day : ℕ) → IsSoundDisbursed loan
    → IsOffered loan e business_day
    → IsEntryAdmitted loan e business_day → IsSoundDisbursed (record loan { entries = loan.entries ++ e ∷ [] })
sound-entered loan e business_day sound offered is =
    let own : IsEntry loan.periods loan.day e = record {
      from = from-by e.kind loan.day business_day e offered.form is.in_order offered.disbursed;
      columns = columns-by e.kind e business_day loan.periods offered.form is.there is.within;
    } in
    let size : length (loan.entries ++ e ∷ []) ≡ length loan.entries + 1 = length-append loan.entries (e ∷ []) in
    record {
      limits = sound.limits;
      day = sound.day;
      entries = record {
        numbers = λ i below.
            elim (cases_lt i (length loan.entries)) [
              | inl within ↦ ap (λ (x : Entry). x.seq) (entry_at-before loan.entries e i within)
                  ∙ sound.entries.numbers i within
              | inr past ↦
                  let last : i ≡ length loan.entries = omega (arith, size, below, past) in
                  ap (λ (x : Entry). x.seq) (entry_at-last loan.entries e i last) ∙ omega (arith, last, offered.next)
            ];
        few = omega (arith, size, is.few);
        each = All-append (IsEntry loan.periods loan.day) loan.entries (e ∷ []) sound.entries.each
            (All-cons (IsEntry loan.periods loan.day) e [] own (All-nil (IsEntry loan.periods loan.day)));
        seal_last = seal-entered loan.periods loan.day business_day loan.entries e sound.entries is.unsealed
            offered.next offered.latest offered.form;
      };
    }

-- marking leaves all but the mark
columns-marked : (kind : Kind) (n : ℕ) (e : Entry) → HasColumns kind n e
    → HasColumns kind n (record e { reversed = true })
columns-marked Repay n e has = has
columns-marked Fee n e has = has
columns-marked Penalty n e has = has
columns-marked Waive n e has = has
columns-marked WriteOff n e has = has
columns-marked Refund n e has = has

marked-same : (entries : List Entry) (at : ℕ) → at < length entries → entry_at (with_mark entries at true) at
    ≡ record (entry_at entries at) { reversed = true }
marked-same entries at within = get_or-set_same entries at (record (entry_at entries at) { reversed = true }) no_entry
    within

pub marked-other : (entries : List Entry) (at i : ℕ) → i ≢ at → entry_at (with_mark entries at true) i
    ≡ entry_at entries i
marked-other entries at i other =
    get_or-set_other entries at i (record (entry_at entries at) { reversed = true }) no_entry other

-- one that stands after the marking is another one
not-marked : (entries : List Entry) (at i : ℕ) → at < length entries → (entry_at (with_mark entries at true) i).reversed
    ≡ false → i ≢ at
not-marked entries at i within stands is =
    true≢false (sym (ap (λ x. (entry_at (with_mark entries at true) x).reversed) is ∙ ap (λ (x : Entry). x.reversed)
    (marked-same entries at within)) ∙ stands)

pub sound-reversed : (loan : DisbursedLoan) (at : ℕ) → IsSoundDisbursed loan → at < length loan.entries
    → IsSoundDisbursed (record loan { entries = with_mark loan.entries at true })
sound-reversed loan at sound within =
    let old : List Entry = loan.entries in
    let new : List Entry = with_mark old at true in
    let e : Entry = entry_at old at in
    let own : IsEntry loan.periods loan.day e = sound.entries.each at no_entry within in
    let size : length new ≡ length old = length-set old at (record e { reversed = true }) in
    record {
      limits = sound.limits;
      day = sound.day;
      entries = record {
        numbers = λ i below.
            elim (cases_eq i at) [
              | inl is ↦
                  ap (λ x. (entry_at new x).seq) is ∙ ap (λ (x : Entry). x.seq) (marked-same old at within)
                  ∙ ap (λ x. (entry_at old x).seq) (sym is) ∙ sound.entries.numbers i (omega (arith, size, below))
              | inr other ↦ ap (λ (x : Entry). x.seq) (marked-other old at i other)
                  ∙ sound.entries.numbers i (omega (arith, size, below))
            ];
        few = omega (arith, size, sound.entries.few);
        each = All-set (IsEntry loan.periods loan.day) old at (record e { reversed = true })
            (record { from = own.from; columns = columns-marked e.kind loan.periods e own.columns }) sound.entries.each;
        seal_last = λ i j below_i below_j apart stands_i stands_j seal.
            let same_i : entry_at new i ≡ entry_at old i =
            marked-other old at i (not-marked old at i within stands_i) in
            let same_j : entry_at new j ≡ entry_at old j =
            marked-other old at j (not-marked old at j within stands_j) in
            ap (λ (x : Entry). is_before x (entry_at new i)) same_j
            ∙ ap (λ (x : Entry). is_before (entry_at old j) x) same_i
            ∙ sound.entries.seal_last i j (omega (arith, size, below_i)) (omega (arith, size, below_j)) apart
            (ap (λ (x : Entry). x.reversed) (sym same_i) ∙ stands_i) (ap (λ (x : Entry). x.reversed) (sym same_j)
            ∙ stands_j)
            (ap (λ (x : Entry). is_seal x.kind) (sym same_i) ∙ seal);
      };
    }
