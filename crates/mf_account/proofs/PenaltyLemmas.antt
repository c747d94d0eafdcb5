-- What an instalment owes of penalties is what its standing penalties come to, so one stands on it where that is above
-- 0.
use Rattle.std.proofs.Common.{◌≡◌, ◌≢◌, ℕ, zero, suc, ◌+◌, ◌-◌, ◌^◌, ◌<◌, ◌≤◌, true, not, ◌&&◌, cond, eqb, ltb}
use Rattle.std.proofs.Common.{true≢false, List, [], ◌∷◌, length, map, get_or, set, inl, inr, arith, refl, ◌∙◌, ap, sym}
use Rattle.std.proofs.Common.{subst}
use Rattle.std.specs.Prelude.{sum_by, All}
use Rattle.std.proofs.lemmas.Bool.{cases_lt, cases_Bool, cond-true, cond-false, eqb-true, eqb-false, lt-ltb, le-ltb}
use Rattle.std.proofs.lemmas.Bool.{and_parts}
use Rattle.std.proofs.lemmas.List.{get_or-set_same, get_or-set_other, get_or_default}
use Rattle.std.proofs.lemmas.List.Elements.{All-head, All-tail}
use Rattle.std.proofs.lemmas.List.Folds.{list_any_at, Any-from_list_any}
use Rattle.std.proofs.lemmas.List.Sums.{sum_by-append}
use Rattle.mf_schedule.specs.declared.instalment.FreshInstalment.{FreshInstalment}
use Rattle.mf_alloc.specs.declared.row.Cell.{Cell}
use Rattle.mf_alloc.specs.Sums.{Instalment, AreWhole}
use Rattle.mf_alloc.specs.Rows.{no_row, row_at, place_in_row}
use Rattle.mf_alloc.specs.OrderLaws.{IsOrder}
use Rattle.mf_account.specs.declared.entry.Entry.{Entry}
use Rattle.mf_account.specs.declared.entry.Kind.{Kind}
use Rattle.mf_account.specs.declared.entry.Kind.TheVariants.{Repay, Fee, Penalty, Waive, WriteOff, Refund}
use Rattle.mf_account.specs.declared.settled.How.{How}
use Rattle.mf_account.specs.declared.settled.How.TheVariants.{Paid, Waived, WrittenOff}
use Rattle.mf_account.specs.Kinds.{is_penalty}
use Rattle.mf_account.specs.Effect.{State, Part, settle, settle_row, owe_row, with_settled, with_charge, after_entry}
use Rattle.mf_account.specs.Effect.{parts_of}
use Rattle.mf_account.specs.AtOnce.{rows_charged}
use Rattle.mf_account.specs.Account.{Orders, after_entries, first_state, row_of}
use Rattle.mf_account.specs.Applicable.{HasInstalment}
use Rattle.mf_account.specs.Standing.{standing_entries, no_entry, entry_at}
use Rattle.mf_account.specs.StandingLaw.{IsAmong}
use Rattle.mf_account.specs.Loan.{DisbursedLoan, HasColumns, IsEntry, IsSoundDisbursed, schedule_of, orders_of}
use Rattle.mf_account.specs.Loan.{cell_places_of}
use Rattle.mf_account.specs.Loan.{state_of_loan}
use Rattle.mf_account.specs.Refusals.{is_penalty_on, has_penalty}
use Rattle.mf_account.proofs.OnceLemmas.{rows-after}
use Rattle.mf_account.specs.Safe.{IsBounded}
use Rattle.mf_account.proofs.GoodLemmas.{IsReplayable, good-after}
use Rattle.mf_account.proofs.SoundLemmas.{lawful-of, each-standing, first-good}
use Rattle.mf_account.proofs.StandingIsOne.{standing-is-one}
use Rattle.mf_account.proofs.TailLemmas.{among-index, at-among}
use Rattle.mf_account.proofs.SealLemmas.{not_true}

-- what an instalment owes of penalties
abbrev penalties_owed : ℕ → List Instalment → ℕ
penalties_owed instalment rows = get_or (row_at rows instalment).owed 0 0

-- what an entry adds to the penalties of an instalment, and what several add
abbrev adds_by : Kind → ℕ → Entry → ℕ
adds_by kind instalment e = cond (is_penalty kind && eqb e.instalment instalment) e.amount 0

abbrev adds : ℕ → Entry → ℕ
adds instalment e = adds_by e.kind instalment e

abbrev added : ℕ → List Entry → ℕ
added instalment entries = sum_by (adds instalment) entries

-- a change that leaves something of a row leaves it of each row
read-changed : (f : Instalment → ℕ) (change : Instalment → Instalment) (rows : List Instalment) (i j : ℕ)
    → ((row : Instalment) → f (change row)
    ≡ f row) → f (get_or (set rows i (change (get_or rows i no_row))) j no_row) ≡ f (get_or rows j no_row)
read-changed f change [] zero j same = refl
read-changed f change [] (suc i) j same = refl
read-changed f change (row ∷ rows) zero zero same = same row
read-changed f change (row ∷ rows) zero (suc j) same = refl
read-changed f change (row ∷ rows) (suc i) zero same = refl
read-changed f change (row ∷ rows) (suc i) (suc j) same = read-changed f change rows i j same

abbrev penalty_owed : Instalment → ℕ
penalty_owed row = get_or row.owed 0 0

-- what is settled changes nothing that is owed
settle_row-owes : (how : How) (p amount : ℕ) (row : Instalment) → penalty_owed (settle_row how p amount row)
    ≡ penalty_owed row
settle_row-owes Paid p amount row = refl
settle_row-owes Waived p amount row = refl
settle_row-owes WrittenOff p amount row = refl

settled-owes : (instalment : ℕ) (rows : List Instalment) (parts : List Part)
    → penalties_owed instalment (with_settled rows parts) ≡ penalties_owed instalment rows
settled-owes instalment rows [] = refl
settled-owes instalment rows (part ∷ parts) =
    settled-owes instalment (settle rows part) parts
    ∙ read-changed penalty_owed (settle_row part.how (place_in_row part.cell.portion) part.amount) rows
    (part.cell.instalment - 1) (instalment - 1) (settle_row-owes part.how (place_in_row part.cell.portion)
    part.amount)

-- a penalty adds its amount to its own instalment, and nothing else adds to one
penalty-owes : (instalment : ℕ) (e : Entry) (rows : List Instalment) → AreWhole rows → 1 ≤ instalment → 1 ≤ e.instalment
    → e.instalment ≤ length rows → penalties_owed instalment (with_charge Penalty e rows) ≡ penalties_owed instalment
    rows + adds_by Penalty instalment e
penalty-owes instalment e rows whole first there last =
    let i : ℕ = e.instalment - 1 in
    let row : Instalment = row_at rows e.instalment in
    let charged : Instalment = owe_row 0 e.amount row in
    elim (cases_Bool (eqb e.instalment instalment)) [
      | inl own ↦
          let same : e.instalment ≡ instalment = eqb-true e.instalment instalment own in
          let within : i < length rows = omega (arith, there, last) in
          let size = (whole i no_row within).owed in
          let some : 0 < length row.owed = omega (arith, size) in
          let adds_is : adds_by Penalty instalment e ≡ e.amount =
          cond-true (eqb e.instalment instalment) e.amount 0 own in
          let read : penalties_owed e.instalment (with_charge Penalty e rows) ≡ penalties_owed e.instalment rows
          + e.amount =
          ap penalty_owed (get_or-set_same rows i charged no_row within)
          ∙ get_or-set_same row.owed 0 (get_or row.owed 0 0 + e.amount) 0 some in
          let after_is = ap (λ x. penalties_owed x (with_charge Penalty e rows)) same in
          let before_is = ap (λ x. penalties_owed x rows) same in
          omega (arith, adds_is, read, after_is, before_is)
      | inr other ↦
          let differ : e.instalment ≢ instalment = eqb-false e.instalment instalment other in
          let apart : instalment - 1 ≢ i = λ same. differ (omega (arith, same, first, there)) in
          let adds_is : adds_by Penalty instalment e ≡ 0 = cond-false (eqb e.instalment instalment) e.amount 0 other in
          let read : penalties_owed instalment (with_charge Penalty e rows) ≡ penalties_owed instalment rows =
          ap penalty_owed (get_or-set_other rows i (instalment - 1) charged no_row apart) in
          omega (arith, adds_is, read)
    ]

charge-owes : (kind : Kind) (instalment : ℕ) (e : Entry) (rows : List Instalment) → AreWhole rows → 1 ≤ instalment
    → HasInstalment kind e (length rows) → penalties_owed instalment (with_charge kind e rows)
    ≡ penalties_owed instalment rows + adds_by kind instalment e
charge-owes Penalty instalment e rows whole first has = penalty-owes instalment e rows whole first has.0 has.1
charge-owes Fee instalment e rows whole first has =
    let same : penalties_owed instalment (with_charge Fee e rows) ≡ penalties_owed instalment rows =
    read-changed penalty_owed (owe_row 1 e.amount) rows (e.instalment - 1) (instalment - 1)
    (λ row. get_or-set_other row.owed 1 0 (get_or row.owed 1 0 + e.amount) 0 (omega arith)) in
    omega (arith, same)
charge-owes Repay instalment e rows whole first has = omega arith
charge-owes Waive instalment e rows whole first has = omega arith
charge-owes WriteOff instalment e rows whole first has = omega arith
charge-owes Refund instalment e rows whole first has = omega arith

after-owes : (n used instalment : ℕ) (order : ℕ → Cell) (e : Entry) (before : State) → 1 ≤ instalment
    → HasInstalment e.kind e n → IsBounded n used before → penalties_owed instalment (after_entry order e before).rows
    ≡ penalties_owed instalment before.rows + adds instalment e
after-owes n used instalment order e before first has good =
    ap (penalties_owed instalment) (rows-after order e before)
    ∙ settled-owes instalment (rows_charged e before) (parts_of order e before)
    ∙ charge-owes e.kind instalment e before.rows good.whole first (subst (HasInstalment e.kind e) (sym good.size) has)

all-owes : (n used instalment : ℕ) (orders : Orders) (places : Entry → Cell → ℕ) (entries : List Entry) (before : State)
    → 1 ≤ instalment → ((e : Entry) → IsOrder n (orders e) (places e)) → All (IsReplayable n) entries
    → IsBounded n used before → penalties_owed instalment (after_entries orders entries before).rows
    ≡ penalties_owed instalment before.rows + added instalment entries
all-owes n used instalment orders places [] before first is each good = omega arith
all-owes n used instalment orders places (e ∷ entries) before first is each good =
    let one : IsReplayable n e = All-head (IsReplayable n) e entries each in
    let own = after-owes n used instalment (orders e) e before first one.there good in
    let rest = all-owes n (used + e.amount) instalment orders places entries (after_entry (orders e) e before) first is
    (All-tail (IsReplayable n) e entries each) (good-after n used (orders e) (places e) e before (is e) one.there
    good) in
    let all = sum_by-append (adds instalment) (e ∷ []) entries in
    omega (arith, own, rest, all)

first-owes : (schedule : List FreshInstalment) (i : ℕ) → penalty_owed (get_or (map row_of schedule) i no_row) ≡ 0
first-owes [] zero = refl
first-owes [] (suc i) = refl
first-owes (x ∷ schedule) zero = refl
first-owes (x ∷ schedule) (suc i) = first-owes schedule i

-- an instalment owes what its standing penalties come to
loan-owes : (loan : DisbursedLoan) (instalment : ℕ) → IsSoundDisbursed loan → 1 ≤ instalment
    → penalties_owed instalment (state_of_loan loan).rows ≡ added instalment (standing_entries loan.entries)
loan-owes loan instalment sound first =
    let all = all-owes loan.periods (2 ^ 54) instalment (orders_of loan) (cell_places_of loan)
    (standing_entries loan.entries) (first_state (schedule_of loan)) first
    (lawful-of loan) (each-standing loan sound) (first-good loan sound) in
    let none = first-owes (schedule_of loan) (instalment - 1) in
    omega (arith, all, none)

-- one of several adds at most what all do, and where they add something one of them does
one-adds : (instalment : ℕ) (x : Entry) (xs : List Entry) → IsAmong x xs → adds instalment x ≤ added instalment xs
one-adds instalment x [] among = absurd among
one-adds instalment x (y ∷ ys) (inl is) =
    let same : adds instalment x ≡ adds instalment y = ap (adds instalment) is in
    let all = sum_by-append (adds instalment) (y ∷ []) ys in
    omega (arith, same, all)
one-adds instalment x (y ∷ ys) (inr later) =
    let rest = one-adds instalment x ys later in
    let all = sum_by-append (adds instalment) (y ∷ []) ys in
    omega (arith, rest, all)

some-adds : (instalment : ℕ) (xs : List Entry) → 0 < added instalment xs → (x : Entry) × IsAmong x xs
    × (0 < adds instalment x)
some-adds instalment [] some = absurd (omega (arith, some))
some-adds instalment (x ∷ xs) some =
    elim (cases_lt 0 (adds instalment x)) [
      | inl here ↦ (x, inl refl, here)
      | inr none ↦
          let all = sum_by-append (adds instalment) (x ∷ []) xs in
          let rest = some-adds instalment xs (omega (arith, some, none, all)) in
          (rest.0, inr rest.1, rest.2)
    ]

-- each penalty comes to something
penalty-some : (kind : Kind) (n : ℕ) (e : Entry) → HasColumns kind n e → is_penalty kind ≡ true → 1 ≤ e.amount
penalty-some Penalty n e has is = has.0
penalty-some Repay n e has is = absurd (true≢false (sym is))
penalty-some Fee n e has is = absurd (true≢false (sym is))
penalty-some Waive n e has is = absurd (true≢false (sym is))
penalty-some WriteOff n e has is = absurd (true≢false (sym is))
penalty-some Refund n e has is = absurd (true≢false (sym is))

-- an entry that adds something is a penalty on the instalment
adds-penalty : (instalment : ℕ) (e : Entry) → 0 < adds instalment e → (is_penalty e.kind && eqb e.instalment instalment)
    ≡ true
adds-penalty instalment e some =
    elim (cases_Bool (is_penalty e.kind && eqb e.instalment instalment)) [
      | inl is ↦ is
      | inr other ↦ let none : adds instalment e ≡ 0 = cond-false (is_penalty e.kind && eqb e.instalment instalment)
          e.amount 0 other in absurd (omega (arith, some, none))
    ]

-- where an instalment owes penalties one stands on it
owing-has : (loan : DisbursedLoan) (instalment : ℕ) → IsSoundDisbursed loan
    → 0 < added instalment (standing_entries loan.entries)
    → has_penalty loan.entries instalment ≡ true
owing-has loan instalment sound some =
    let found = some-adds instalment (standing_entries loan.entries) some in
    let x : Entry = found.0 in
    let own = (standing-is-one loan.periods loan.day loan.entries sound.entries).0.from x found.1 in
    let index = among-index x loan.entries own.0 in
    let holds : is_penalty_on instalment x ≡ true = ap (λ b. not b && (is_penalty x.kind && eqb x.instalment
    instalment)) own.1 ∙ adds-penalty instalment x found.2 in
    list_any_at (is_penalty_on instalment) loan.entries index.0 no_entry index.1 (ap (is_penalty_on instalment) index.2
    ∙ holds)

-- and where one stands on it, it owes penalties
having-owes : (loan : DisbursedLoan) (instalment : ℕ) → IsSoundDisbursed loan → has_penalty loan.entries instalment
    ≡ true
    → 0 < added instalment (standing_entries loan.entries)
having-owes loan instalment sound any =
    let found = Any-from_list_any (is_penalty_on instalment) loan.entries any in
    let k : ℕ = found.0 in
    let x : Entry = found.1 in
    let read : entry_at loan.entries k ≡ x = get_or_default loan.entries k no_entry x found.2 ∙ found.3 in
    let both = and_parts (not x.reversed) (is_penalty x.kind && eqb x.instalment instalment) found.4 in
    let penalty = and_parts (is_penalty x.kind) (eqb x.instalment instalment) both.1 in
    let among : IsAmong x loan.entries =
    subst (λ (y : Entry). IsAmong y loan.entries) read (at-among loan.entries k found.2) in
    let stands : IsAmong x (standing_entries loan.entries) =
    (standing-is-one loan.periods loan.day loan.entries sound.entries).0.to x among (not_true x.reversed both.0) in
    let is : IsEntry loan.periods loan.day x =
    subst (IsEntry loan.periods loan.day) read (sound.entries.each k no_entry found.2) in
    let amount = penalty-some x.kind loan.periods x is.columns penalty.0 in
    let own : adds instalment x ≡ x.amount =
    cond-true (is_penalty x.kind && eqb x.instalment instalment) x.amount 0 both.1 in
    let most = one-adds instalment x (standing_entries loan.entries) stands in
    omega (arith, amount, own, most)

-- so the row alone tells it
pub owed-tells : (loan : DisbursedLoan) (instalment : ℕ) (row : Instalment) → IsSoundDisbursed loan → 1 ≤ instalment
    → row
    ≡ row_at (state_of_loan loan).rows instalment → ltb 0 (get_or row.owed 0 0) ≡ has_penalty loan.entries instalment
owed-tells loan instalment row sound first is =
    let owes = loan-owes loan instalment sound first in
    let here : penalty_owed row ≡ penalties_owed instalment (state_of_loan loan).rows = ap penalty_owed is in
    elim (cases_Bool (has_penalty loan.entries instalment)) [
      | inl any ↦ let some = having-owes loan instalment sound any in lt-ltb 0 (penalty_owed row)
          (omega (arith, owes, here, some)) ∙ sym any
      | inr without ↦
          elim (cases_lt 0 (penalty_owed row)) [
            | inl some ↦ absurd (true≢false (sym (owing-has loan instalment sound (omega (arith, owes, here, some)))
                ∙ without))
            | inr none ↦ le-ltb 0 (penalty_owed row) none ∙ sym without
          ]
    ]
