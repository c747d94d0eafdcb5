-- Who pays more has no more left to pay.
use Rattle.std.proofs.Common.{◌≡◌, ◌≢◌, ◌⊎◌, ◌+◌, ◌-◌, ◌*◌, ◌<◌, ◌≤◌, ◌^◌, ℕ, zero, suc, Bool, true, false, cond, List}
use Rattle.std.proofs.Common.{[], ◌∷◌, length, get_or, inl, inr, refl, sym, ap, ◌∙◌, subst, arith, add-one}
use Rattle.std.specs.Prelude.{◌==◌, ◌&&◌, ◌||◌, nat_lt, fold, All}
use Rattle.std.specs.List.{AllZip}
use Rattle.std.proofs.lemmas.Bool.{cases_eq}
use Rattle.std.proofs.lemmas.List.{get_or-set_same, get_or-set_other}
use Rattle.std.proofs.lemmas.List.Elements.{All-head, All-tail}
use Rattle.mf_catalog.specs.declared.terms.StrategyName.{StrategyName}
use Rattle.mf_alloc.specs.declared.row.Cell.{Cell}
use Rattle.mf_alloc.specs.declared.row.Portion.TheVariants as portion
use Rattle.mf_alloc.specs.Sums.{Instalment, AreWhole, AreWithin, open_at}
use Rattle.mf_alloc.specs.Order.{cell_by, place_by}
use Rattle.mf_alloc.specs.OrderLaws.{IsOrder, in_range-place_by, forth-place_by}
use Rattle.mf_alloc.specs.Payment.{start, rest_of}
use Rattle.mf_alloc.specs.Rows.{IsCell, no_row, row_at, outstanding, rows_changed_at, place_in_row}
use Rattle.mf_alloc.proofs.LeftOpen.{IsLine, rows_paid, outstanding-rows_paid, place_in_row-small}
use Rattle.mf_alloc.proofs.PaymentLemmas.{start-more, outstanding-changed, same_cell, same_portion}
use Rattle.mf_account.specs.declared.entry.Entry.{Entry}
use Rattle.mf_account.specs.declared.entry.Kind.{Kind}
use Rattle.mf_account.specs.declared.entry.Kind.TheVariants.{Repay, Fee, Penalty, Waive, WriteOff, Refund}
use Rattle.mf_account.specs.declared.settled.How.TheVariants.{Waived}
use Rattle.mf_account.specs.Account.{after_entries, first_state}
use Rattle.mf_account.specs.Applicable.{HasInstalment}
use Rattle.mf_account.specs.ClearingLaw.{cell_of}
use Rattle.mf_account.specs.Effect.{State, own_effect, after_entry, state_acted, owe_row, with_settled, parts_by}
use Rattle.mf_account.specs.Effect.{whole_part, is_some_part}
use Rattle.mf_account.specs.Loan.{DisbursedLoan, IsSoundDisbursed, orders_of, schedule_of, state_of_loan}
use Rattle.mf_account.specs.Loan.{cell_places_of}
use Rattle.mf_account.specs.Safe.{IsBounded}
use Rattle.mf_account.specs.Standing.{is_before, order_with, with_entry, standing_entries}
use Rattle.mf_account.proofs.ClearingLemmas.{writes-off_by_cells, waives-one_cell}
use Rattle.mf_account.proofs.ConserveLemmas.{whole-acted}
use Rattle.mf_account.proofs.EffectLemmas.{outstanding-settle}
use Rattle.mf_account.proofs.GoodLemmas.{IsReplayable, good-after}
use Rattle.mf_account.proofs.OnceLemmas.{length-acted}
use Rattle.mf_account.proofs.SoundLemmas.{lawful, lawful-of, due_at, due_at-le, each-standing, first-good}
use Rattle.mf_guarantees.specs.More.{PaysNoLess}
use Rattle.mf_guarantees.proofs.CutLemmas.{paid_once}

-- ---- one state has no more left than another

record IsLess (n : ℕ) (s t : State) : Type 0 where
  open_less : (cell : Cell) → IsCell n cell → outstanding s.rows cell ≤ outstanding t.rows cell
  over : t.overpaid ≤ s.overpaid

module _ (n due : ℕ) (name : StrategyName) (few : due ≤ n) where
  line_of : (rows : List Instalment) → length rows ≡ n → AreWhole rows
      → IsLine n (cell_by name due) (place_by name due) rows
  line_of rows size whole = record { size = size; is = lawful name n due few; whole = whole }

  -- an amount that is no less begins no later in each cell
  start_less : (rows other : List Instalment)
      → ((cell : Cell) → IsCell n cell → outstanding rows cell ≤ outstanding other cell) → (k : ℕ) → k ≤ 4 * n
      → start (cell_by name due) rows k ≤ start (cell_by name due) other k
  start_less rows other less zero within = omega arith
  start_less rows other less (suc k) within =
      let before = start_less rows other less k (omega (arith, within)) in
      let here = less (cell_by name due k) ((lawful name n due few).is_cell k (omega (arith, within))) in
      let a = start-more (cell_by name due) rows k in
      let b = start-more (cell_by name due) other k in
      subst (λ (x : ℕ). start (cell_by name due) rows x ≤ start (cell_by name due) other x) (add-one k)
      (omega (arith, before, here, a, b))

  -- a payment of no less leaves no more, and no less is overpaid
  pay_less : (rows other : List Instalment) (amount less_amount : ℕ) → length rows ≡ n → length other ≡ n
      → AreWhole rows → AreWhole other
      → ((cell : Cell) → IsCell n cell → outstanding rows cell ≤ outstanding other cell) → less_amount ≤ amount
      → ((cell : Cell) → IsCell n cell → outstanding (rows_paid (cell_by name due) rows amount) cell
      ≤ outstanding (rows_paid (cell_by name due) other less_amount) cell)
      × (rest_of (cell_by name due) other less_amount ≤ rest_of (cell_by name due) rows amount)
  pay_less rows other amount less_amount size_a size_b whole_a whole_b less money =
      let ends = start_less rows other less (4 * n) (omega arith) in
      let rest_a : rest_of (cell_by name due) rows amount ≡ amount - start (cell_by name due) rows (4 * n) =
      ap (λ x. amount - start (cell_by name due) rows (4 * x)) size_a in
      let rest_b : rest_of (cell_by name due) other less_amount
      ≡ less_amount - start (cell_by name due) other (4 * n) =
      ap (λ x. less_amount - start (cell_by name due) other (4 * x)) size_b in (
        λ cell is.
            let k : ℕ = place_by name due cell in
            let inside : k < 4 * n = in_range-place_by name n due cell few is in
            let back : cell_by name due k ≡ cell = forth-place_by name n due cell is in
            let paid_a = outstanding-rows_paid n (cell_by name due) (place_by name due) rows amount k
            (line_of rows size_a whole_a) inside in
            let paid_b = outstanding-rows_paid n (cell_by name due) (place_by name due) other less_amount k
            (line_of other size_b whole_b) inside in
            let begins = start_less rows other less k (omega (arith, inside)) in
            let here = less (cell_by name due k) ((lawful name n due few).is_cell k inside) in
            let left : outstanding (rows_paid (cell_by name due) rows amount) (cell_by name due k)
            ≤ outstanding (rows_paid (cell_by name due) other less_amount) (cell_by name due k) =
            omega (arith, paid_a, paid_b, begins, here, money) in
            subst (λ (c : Cell). outstanding (rows_paid (cell_by name due) rows amount) c
            ≤ outstanding (rows_paid (cell_by name due) other less_amount) c) back left,
        omega (arith, ends, rest_a, rest_b, money),
      )

-- ---- what an entry itself does to both

same_or_not : (a b : Cell) → (a ≡ b) ⊎ (a ≢ b)
same_or_not a b = elim (cases_eq a.instalment b.instalment) [
  | inl instalment ↦ elim (cases_eq (place_in_row a.portion) (place_in_row b.portion)) [
    | inl portion ↦ inl (same_cell a b instalment (same_portion a.portion b.portion portion))
    | inr apart ↦ inr (λ e. apart (ap (λ (c : Cell). place_in_row c.portion) e))
  ]
  | inr apart ↦ inr (λ e. apart (ap (λ (c : Cell). c.instalment) e))
]

owed_elsewhere : (p amount : ℕ) (row : Instalment) (q : ℕ) → q ≢ p → open_at (owe_row p amount row) q ≡ open_at row q
owed_elsewhere p amount row q apart =
    ap (λ x. x - get_or row.paid q 0 - get_or row.waived q 0 - get_or row.written_off q 0)
    (get_or-set_other row.owed p q (get_or row.owed p 0 + amount) 0 apart)

abbrev charged : Cell → ℕ → List Instalment → List Instalment
charged cell amount rows = rows_changed_at rows cell.instalment (owe_row (place_in_row cell.portion) amount)

owed_here : (cell : Cell) (amount : ℕ) (rows : List Instalment) → IsCell (length rows) cell → AreWhole rows
    → AreWithin rows → outstanding (charged cell amount rows) cell ≡ outstanding rows cell + amount
owed_here cell amount rows there whole within =
    let i : ℕ = cell.instalment - 1 in
    let p : ℕ = place_in_row cell.portion in
    let row : Instalment = row_at rows cell.instalment in
    let first = there.first in
    let last = there.last in
    let inside : i < length rows = omega (arith, first, last) in
    let small : p < 4 = place_in_row-small cell.portion in
    let four = (whole i no_row inside).owed in
    let settled = within i no_row inside p small in
    let at : outstanding (charged cell amount rows) cell ≡ open_at (owe_row p amount row) p =
    ap (λ x. open_at x p) (get_or-set_same rows i (owe_row p amount row) no_row inside) in
    let more : get_or (owe_row p amount row).owed p 0 ≡ get_or row.owed p 0 + amount =
    get_or-set_same row.owed p (get_or row.owed p 0 + amount) 0 (omega (arith, four, small)) in
    omega (arith, at, more, settled)

charge_less : (n amount : ℕ) (charge : Cell) (rows other : List Instalment) → length rows ≡ n → length other ≡ n
    → AreWhole rows → AreWhole other → AreWithin rows → AreWithin other → IsCell n charge
    → ((cell : Cell) → IsCell n cell → outstanding rows cell ≤ outstanding other cell)
    → (cell : Cell) → IsCell n cell
    → outstanding (charged charge amount rows) cell ≤ outstanding (charged charge amount other) cell
charge_less n amount charge rows other size_a size_b whole_a whole_b within_a within_b there less cell is =
    let there_a : IsCell (length rows) charge = subst (λ m. IsCell m charge) (sym size_a) there in
    let there_b : IsCell (length other) charge = subst (λ m. IsCell m charge) (sym size_b) there in
    elim (same_or_not cell charge) [
      | inl same ↦
          let a = owed_here charge amount rows there_a whole_a within_a in
          let b = owed_here charge amount other there_b whole_b within_b in
          let before = less charge there in
          let now : outstanding (charged charge amount rows) charge
          ≤ outstanding (charged charge amount other) charge = omega (arith, a, b, before) in
          subst (λ (c : Cell). outstanding (charged charge amount rows) c
          ≤ outstanding (charged charge amount other) c) (sym same) now
      | inr apart ↦
          let p : ℕ = place_in_row charge.portion in
          let a = outstanding-changed rows charge cell (owe_row p amount) there_a
          (subst (λ m. IsCell m cell) (sym size_a) is) apart (λ row q other_place. owed_elsewhere p amount row q
          other_place) in
          let b = outstanding-changed other charge cell (owe_row p amount) there_b
          (subst (λ m. IsCell m cell) (sym size_b) is) apart (λ row q other_place. owed_elsewhere p amount row q
          other_place) in
          let before = less cell is in
          omega (arith, a, b, before)
    ]

waived_elsewhere : (order : ℕ → Cell) (e : Entry) (rows : List Instalment) (cell : Cell)
    → IsCell (length rows) (cell_of e) → IsCell (length rows) cell → cell ≢ cell_of e
    → outstanding (with_settled rows (parts_by Waive order e rows)) cell ≡ outstanding rows cell
waived_elsewhere order e rows cell there here apart = go (is_some_part (whole_part Waived rows (cell_of e)))
  where
    go : (b : Bool) → outstanding (with_settled rows (cond b (whole_part Waived rows (cell_of e) ∷ []) [])) cell
        ≡ outstanding rows cell
    go true = outstanding-settle rows (whole_part Waived rows (cell_of e)) cell there here apart
    go false = refl

waive_less : (n : ℕ) (order : ℕ → Cell) (e : Entry) (rows other : List Instalment) → length rows ≡ n
    → length other ≡ n → AreWhole rows → AreWhole other → IsCell n (cell_of e)
    → ((cell : Cell) → IsCell n cell → outstanding rows cell ≤ outstanding other cell)
    → (cell : Cell) → IsCell n cell
    → outstanding (with_settled rows (parts_by Waive order e rows)) cell
    ≤ outstanding (with_settled other (parts_by Waive order e other)) cell
waive_less n order e rows other size_a size_b whole_a whole_b there less cell is =
    let there_a : IsCell (length rows) (cell_of e) = subst (λ m. IsCell m (cell_of e)) (sym size_a) there in
    let there_b : IsCell (length other) (cell_of e) = subst (λ m. IsCell m (cell_of e)) (sym size_b) there in
    elim (same_or_not cell (cell_of e)) [
      | inl same ↦
          let none = (waives-one_cell order e rows there_a whole_a).none_left in
          let now : outstanding (with_settled rows (parts_by Waive order e rows)) (cell_of e)
          ≤ outstanding (with_settled other (parts_by Waive order e other)) (cell_of e) = omega (arith, none) in
          subst (λ (c : Cell). outstanding (with_settled rows (parts_by Waive order e rows)) c
          ≤ outstanding (with_settled other (parts_by Waive order e other)) c) (sym same) now
      | inr apart ↦
          let a = waived_elsewhere order e rows cell there_a (subst (λ m. IsCell m cell) (sym size_a) is) apart in
          let b = waived_elsewhere order e other cell there_b (subst (λ m. IsCell m cell) (sym size_b) is) apart in
          let before = less cell is in
          omega (arith, a, b, before)
    ]

module _ (n due : ℕ) (name : StrategyName) (few : due ≤ n) where
  write_off_less : (e : Entry) (rows other : List Instalment) → length rows ≡ n → AreWhole rows
      → (cell : Cell) → IsCell n cell
      → outstanding (with_settled rows (parts_by WriteOff (cell_by name due) e rows)) cell
      ≤ outstanding (with_settled other (parts_by WriteOff (cell_by name due) e other)) cell
  write_off_less e rows other size whole cell is =
      let k : ℕ = place_by name due cell in
      let inside : k < 4 * n = in_range-place_by name n due cell few is in
      let ordered : IsOrder (length rows) (cell_by name due) (place_by name due) =
      subst (λ m. IsOrder m (cell_by name due) (place_by name due)) (sym size) (lawful name n due few) in
      let none = (writes-off_by_cells (cell_by name due) (place_by name due) e rows ordered whole).none_left k
      (omega (arith, inside, size)) in
      let cleared : outstanding (with_settled rows (parts_by WriteOff (cell_by name due) e rows)) cell ≡ 0 =
      ap (outstanding (with_settled rows (parts_by WriteOff (cell_by name due) e rows)))
      (sym (forth-place_by name n due cell is)) ∙ none in
      omega (arith, cleared)

  -- what an entry itself does, but for a repayment
  own_less : (kind : Kind) (e : Entry) (used_s used_t : ℕ) (s t : State) → (kind ≡ Repay → ⊥) → HasInstalment kind e n
      → IsBounded n used_s s → IsBounded n used_t t → IsLess n s t
      → IsLess n (own_effect kind (cell_by name due) e s) (own_effect kind (cell_by name due) e t)
  own_less Repay e used_s used_t s t apart has a b less = absurd (apart refl)
  own_less Fee e used_s used_t s t apart has a b less = record {
    open_less = charge_less n e.amount (record { instalment = e.instalment; portion = portion.Fee }) s.rows t.rows
        a.size b.size a.whole b.whole a.within b.within (record { first = has.0; last = has.1 }) less.open_less;
    over = less.over;
  }
  own_less Penalty e used_s used_t s t apart has a b less = record {
    open_less = charge_less n e.amount (record { instalment = e.instalment; portion = portion.Penalty }) s.rows t.rows
        a.size b.size a.whole b.whole a.within b.within (record { first = has.0; last = has.1 }) less.open_less;
    over = less.over;
  }
  own_less Waive e used_s used_t s t apart has a b less = record {
    open_less = waive_less n (cell_by name due) e s.rows t.rows a.size b.size a.whole b.whole
        (record { first = has.0; last = has.1 }) less.open_less;
    over = less.over;
  }
  own_less WriteOff e used_s used_t s t apart has a b less = record {
    open_less = write_off_less e s.rows t.rows a.size a.whole;
    over = less.over;
  }
  own_less Refund e used_s used_t s t apart has a b less = record {
    open_less = less.open_less;
    over = omega arith;
  }

  -- an entry that is no repayment
  other_less : (e : Entry) (used_s used_t : ℕ) (s t : State) → (e.kind ≡ Repay → ⊥) → HasInstalment e.kind e n
      → IsBounded n used_s s → IsBounded n used_t t → IsLess n s t
      → IsLess n (after_entry (cell_by name due) e s) (after_entry (cell_by name due) e t)
  other_less e used_s used_t s t apart has a b less =
      let acted_s : State = state_acted (cell_by name due) e s in
      let acted_t : State = state_acted (cell_by name due) e t in
      let own : IsLess n acted_s acted_t = own_less e.kind e used_s used_t s t apart has a b less in
      let paid = pay_less n due name few acted_s.rows acted_t.rows acted_s.overpaid acted_t.overpaid
      (length-acted e.kind (cell_by name due) e s ∙ a.size) (length-acted e.kind (cell_by name due) e t ∙ b.size)
      (whole-acted e.kind (cell_by name due) e s a.whole) (whole-acted e.kind (cell_by name due) e t b.whole)
      own.open_less own.over in
      record { open_less = paid.0; over = paid.1 }

  -- a repayment, and one of no less
  repay_less : (e : Entry) (amount used_s used_t : ℕ) (s t : State) → e.kind ≡ Repay → e.amount ≤ amount
      → IsBounded n used_s s → IsBounded n used_t t → IsLess n s t
      → IsLess n (after_entry (cell_by name due) (record e { amount = amount }) s) (after_entry (cell_by name due) e t)
  repay_less e amount used_s used_t s t kind more a b less =
      let line_s = line_of n due name few s.rows a.size a.whole in
      let line_t = line_of n due name few t.rows b.size b.whole in
      let over = less.over in
      let paid = pay_less n due name few s.rows t.rows (amount + s.overpaid) (e.amount + t.overpaid) a.size b.size
      a.whole b.whole less.open_less (omega (arith, more, over)) in
      let once_s = paid_once n (cell_by name due) (place_by name due) (record e { amount = amount }) s kind line_s in
      let once_t = paid_once n (cell_by name due) (place_by name due) e t kind line_t in
      subst (λ (x : State). IsLess n x (after_entry (cell_by name due) e t)) (sym once_s)
      (subst (λ (y : State). IsLess n (record {
        rows = rows_paid (cell_by name due) s.rows (amount + s.overpaid);
        overpaid = rest_of (cell_by name due) s.rows (amount + s.overpaid);
        refunded = s.refunded;
      }) y) (sym once_t) (record { open_less = paid.0; over = paid.1 }))

-- ---- the standing entries

-- what no raise changes
record IsAlike (a b : Entry) : Type 0 where
  day : a.day ≡ b.day
  seq : a.seq ≡ b.seq
  reversed : a.reversed ≡ b.reversed

alike : (a b : Entry) → PaysNoLess a b → IsAlike a b
alike a b (inl same) = record {
  day = ap (λ (e : Entry). e.day) same;
  seq = ap (λ (e : Entry). e.seq) same;
  reversed = ap (λ (e : Entry). e.reversed) same;
}
alike a b (inr raised) = record {
  day = ap (λ (e : Entry). e.day) raised.members;
  seq = ap (λ (e : Entry). e.seq) raised.members;
  reversed = ap (λ (e : Entry). e.reversed) raised.members;
}

before_alike : (a b x y : Entry) → IsAlike a b → IsAlike x y → is_before a x ≡ is_before b y
before_alike a b x y one other = λ t. nat_lt (one.day t) (other.day t)
    || ((one.day t == other.day t) && nat_lt (one.seq t) (other.seq t))

placed_zip : (a b : Entry) (xs ys : List Entry) → PaysNoLess a b → AllZip PaysNoLess xs ys
    → AllZip PaysNoLess (order_with a xs) (order_with b ys)
placed_zip a b [] [] own all = (own, tt)
placed_zip a b [] (y ∷ ys) own all = absurd all
placed_zip a b (x ∷ xs) [] own all = absurd all
placed_zip a b (x ∷ xs) (y ∷ ys) own all =
    go (is_before a x) (is_before b y) (before_alike a b x y (alike a b own) (alike x y all.0))
    (placed_zip a b xs ys own all.1)
  where
    go : (p q : Bool) → p ≡ q → AllZip PaysNoLess (order_with a xs) (order_with b ys)
        → AllZip PaysNoLess (cond p (a ∷ x ∷ xs) (x ∷ order_with a xs)) (cond q (b ∷ y ∷ ys) (y ∷ order_with b ys))
    go true true e rest = (own, all)
    go false false e rest = (all.0, rest)
    go true false e rest = absurd (cc)
    go false true e rest = absurd (cc)

with_zip : (xs ys : List Entry) (a b : Entry) → PaysNoLess a b → AllZip PaysNoLess xs ys
    → AllZip PaysNoLess (with_entry xs a) (with_entry ys b)
with_zip xs ys a b own all = go a.reversed b.reversed (alike a b own).reversed
  where
    go : (p q : Bool) → p ≡ q
        → AllZip PaysNoLess (cond p xs (order_with a xs)) (cond q ys (order_with b ys))
    go true true e = all
    go false false e = placed_zip a b xs ys own all
    go true false e = absurd (cc)
    go false true e = absurd (cc)

fold_zip : (entries others xs ys : List Entry) → AllZip PaysNoLess entries others → AllZip PaysNoLess xs ys
    → AllZip PaysNoLess (fold with_entry xs entries) (fold with_entry ys others)
fold_zip [] [] xs ys each so_far = so_far
fold_zip [] (b ∷ bs) xs ys each so_far = absurd each
fold_zip (a ∷ rest) [] xs ys each so_far = absurd each
fold_zip (a ∷ rest) (b ∷ bs) xs ys each so_far =
    fold_zip rest bs (with_entry xs a) (with_entry ys b) each.1 (with_zip xs ys a b each.0 so_far)

-- ---- the account

kind_cases : (k : Kind) → (k ≡ Repay) ⊎ (k ≡ Repay → ⊥)
kind_cases Repay = inl refl
kind_cases Fee = inr (λ e. cc)
kind_cases Penalty = inr (λ e. cc)
kind_cases Waive = inr (λ e. cc)
kind_cases WriteOff = inr (λ e. cc)
kind_cases Refund = inr (λ e. cc)

module _ (loan : DisbursedLoan) where
  same_less : (e : Entry) (used_s used_t : ℕ) (s t : State) → IsReplayable loan.periods e
      → IsBounded loan.periods used_s s → IsBounded loan.periods used_t t → IsLess loan.periods s t
      → IsLess loan.periods (after_entry (orders_of loan e) e s) (after_entry (orders_of loan e) e t)
  same_less e used_s used_t s t own a b less = elim (kind_cases e.kind) [
    | inl kind ↦ repay_less loan.periods (due_at loan e) loan.terms.strategy (due_at-le loan e) e e.amount used_s used_t
        s t kind (omega arith) a b less
    | inr apart ↦ other_less loan.periods (due_at loan e) loan.terms.strategy (due_at-le loan e) e used_s used_t s t
        apart own.there a b less
  ]

  one_less : (e d : Entry) (used_s used_t : ℕ) (s t : State) → PaysNoLess e d → IsReplayable loan.periods e
      → IsBounded loan.periods used_s s → IsBounded loan.periods used_t t → IsLess loan.periods s t
      → IsLess loan.periods (after_entry (orders_of loan d) d s) (after_entry (orders_of loan e) e t)
  one_less e d used_s used_t s t (inl same) own a b less =
      subst (λ (x : Entry). IsLess loan.periods (after_entry (orders_of loan x) x s) (after_entry (orders_of loan e) e
      t)) same (same_less e used_s used_t s t own a b less)
  one_less e d used_s used_t s t (inr raised) own a b less =
      subst (λ (x : Entry). IsLess loan.periods (after_entry (orders_of loan x) x s) (after_entry (orders_of loan e) e
      t)) raised.members
      (repay_less loan.periods (due_at loan e) loan.terms.strategy (due_at-le loan e) e d.amount used_s used_t s t
      raised.kind raised.amount a b less)

  all_less : (xs ys : List Entry) (used_s used_t : ℕ) (s t : State) → AllZip PaysNoLess xs ys
      → All (IsReplayable loan.periods) xs → All (IsReplayable loan.periods) ys
      → IsBounded loan.periods used_s s → IsBounded loan.periods used_t t → IsLess loan.periods s t
      → IsLess loan.periods (after_entries (orders_of loan) ys s) (after_entries (orders_of loan) xs t)
  all_less [] [] used_s used_t s t each own_x own_y a b less = less
  all_less [] (y ∷ ys) used_s used_t s t each own_x own_y a b less = absurd each
  all_less (x ∷ xs) [] used_s used_t s t each own_x own_y a b less = absurd each
  all_less (x ∷ xs) (y ∷ ys) used_s used_t s t each own_x own_y a b less =
      let n : ℕ = loan.periods in
      let one_x : IsReplayable n x = All-head (IsReplayable n) x xs own_x in
      let one_y : IsReplayable n y = All-head (IsReplayable n) y ys own_y in
      all_less xs ys (used_s + y.amount) (used_t + x.amount) (after_entry (orders_of loan y) y s)
      (after_entry (orders_of loan x) x t) each.1 (All-tail (IsReplayable n) x xs own_x)
      (All-tail (IsReplayable n) y ys own_y)
      (good-after n used_s (orders_of loan y) (cell_places_of loan y) y s (lawful-of loan y) one_y.there a)
      (good-after n used_t (orders_of loan x) (cell_places_of loan x) x t (lawful-of loan x) one_x.there b)
      (one_less x y used_s used_t s t each.0 one_x a b less)

pub no_more_left : (loan : DisbursedLoan) (others : List Entry) (cell : Cell) → IsSoundDisbursed loan
    → IsSoundDisbursed (record loan { entries = others }) → AllZip PaysNoLess loan.entries others
    → IsCell loan.periods cell
    → outstanding (state_of_loan (record loan { entries = others })).rows cell
    ≤ outstanding (state_of_loan loan).rows cell
no_more_left loan others cell sound other each is =
    let start : State = first_state (schedule_of loan) in
    let good = first-good loan sound in
    let none : IsLess loan.periods start start = record { open_less = λ c there. omega arith; over = omega arith } in
    (all_less loan (standing_entries loan.entries) (standing_entries others) (2 ^ 54) (2 ^ 54) start start
    (fold_zip loan.entries others [] [] each tt) (each-standing loan sound)
    (each-standing (record loan { entries = others }) other) good good none).open_less cell is
