-- Payment by lengths on a line: one place more, payment's sums, and cells that a share leaves alone.
use Rattle.std.proofs.Common.{◌≡◌, ℕ, zero, suc, ◌+◌, ◌-◌, ◌*◌, ◌<◌, ◌≤◌, true, false, cond, min, List, [], ◌∷◌, ◌++◌}
use Rattle.std.proofs.Common.{length, map, inl, inr, arith, refl, ◌∙◌, add-one, ap, subst, sym, append-nil}
use Rattle.std.specs.Prelude.{filter}
use Rattle.std.proofs.lemmas.Bool.{cases_lt, cond-true, cond-false, ltb-false, lt-ltb, le-ltb, cond_both}
use Rattle.std.proofs.lemmas.List.Sums.{sum_by-append}
use Rattle.std.proofs.lemmas.List.FromFn.{sum_by-map-range_with_len_more, filter_of_map_range_with_len_more}
use Rattle.std.specs.List.{range_with_len}
use Rattle.mf_alloc.specs.declared.row.Cell.{Cell}
use Rattle.mf_alloc.specs.Sums.{Instalment}
use Rattle.mf_alloc.specs.declared.row.Share.{Share}
use Rattle.std.proofs.Common.{get_or, set, ◌≢◌}
use Rattle.std.proofs.lemmas.Bool.{cases_eq}
use Rattle.std.proofs.lemmas.List.{get_or-set_same, get_or-set_other, set-set, set-get_or, set_past, length-set}
use Rattle.mf_alloc.specs.declared.row.Portion.{Portion}
use Rattle.mf_alloc.specs.declared.row.Portion.TheVariants.{Penalty, Fee, Interest, Principal}
use Rattle.mf_alloc.specs.Sums.{open_at}
use Rattle.mf_alloc.specs.Order.{standard}
use Rattle.mf_alloc.specs.Rows.{outstanding, no_row, row_at, plus_at, minus_at, rows_changed_at, pay_row, unpay_row}
use Rattle.mf_alloc.specs.Rows.{pay_into, take_out, with_paid, without_paid, place_in_row, IsCell, IsPayable}
use Rattle.mf_alloc.specs.OrderLaws.{IsOrder}
use Rattle.mf_alloc.specs.Payment.{start, share_at, is_some_share, shares_below, amount_of_shares, shares_of, rest_of}

-- the stretch of the next place begins where this one ends
pub start-more : (order : ℕ → Cell) (rows : List Instalment) (k : ℕ) → start order rows (k + 1) ≡ start order rows k
    + outstanding rows (order k)
start-more order rows k = sum_by-map-range_with_len_more (λ (x : ℕ). x) (λ j. outstanding rows (order j)) 0 k k
    (omega arith)

-- one place more
shares_below-more : (order : ℕ → Cell) (rows : List Instalment) (amount k : ℕ) → shares_below order rows amount (k + 1)
    ≡ shares_below order rows amount k ++ cond (is_some_share (share_at order rows amount k))
    (share_at order rows amount k ∷ []) []
shares_below-more order rows amount k =
    filter_of_map_range_with_len_more is_some_share (share_at order rows amount) 0 k k (omega arith)

-- with a share there
pub shares_below-with : (order : ℕ → Cell) (rows : List Instalment) (amount k : ℕ) (share : Share)
    → share ≡ share_at order rows amount k → 0 < share.amount → shares_below order rows amount (k + 1)
    ≡ shares_below order rows amount k ++ share ∷ []
shares_below-with order rows amount k share is some =
    let pass : is_some_share (share_at order rows amount k) ≡ true =
    lt-ltb 0 _ (subst (λ (s : Share). 0 < s.amount) is some) in
    shares_below-more order rows amount k
    ∙ ap (λ x. shares_below order rows amount k ++ x) (cond-true (is_some_share (share_at order rows amount k))
    (share_at order rows amount k ∷ []) [] pass)
    ∙ ap (λ s. shares_below order rows amount k ++ s ∷ []) (sym is)

-- with none
pub shares_below-without : (order : ℕ → Cell) (rows : List Instalment) (amount k : ℕ)
    → (share_at order rows amount k).amount
    ≡ 0 → shares_below order rows amount (k + 1) ≡ shares_below order rows amount k
shares_below-without order rows amount k none =
    let fail : is_some_share (share_at order rows amount k) ≡ false = le-ltb 0 _ (omega (arith, none)) in
    shares_below-more order rows amount k
    ∙ ap (λ x. shares_below order rows amount k ++ x) (cond-false (is_some_share (share_at order rows amount k))
    (share_at order rows amount k ∷ []) [] fail)
    ∙ append-nil _

-- the loop's step: the list so far gets this place's share
pub shares_below-push : (order : ℕ → Cell) (rows : List Instalment) (amount k : ℕ) (so_far all : List Share)
    (cell : Cell)
    (paid : ℕ) → so_far ≡ shares_below order rows amount k → all ≡ so_far ++ record { cell = cell; amount = paid } ∷ []
    → cell ≡ order k → paid ≡ min (outstanding rows (order k)) (amount - start order rows k) → 0 < paid
    → all ≡ shares_below order rows amount (k + 1)
shares_below-push order rows amount k so_far all cell paid before more here much some =
    let share : Share = record { cell = cell; amount = paid } in
    let is : share ≡ share_at order rows amount k = cc in
    more ∙ ap (λ x. x ++ share ∷ []) before ∙ sym (shares_below-with order rows amount k share is some)

-- what was raised and then lowered
pub minus_at-plus_at : (sums : List ℕ) (p amount : ℕ) → minus_at (plus_at sums p amount) p amount ≡ sums
minus_at-plus_at sums p amount =
    elim (cases_lt p (length sums)) [
      | inl within ↦
          let read : get_or (set sums p (get_or sums p 0 + amount)) p 0 ≡ get_or sums p 0 + amount =
          get_or-set_same sums p (get_or sums p 0 + amount) 0 within in
          let back : get_or (set sums p (get_or sums p 0 + amount)) p 0 - amount ≡ get_or sums p 0 =
          omega (arith, read) in
          set-set sums p _ _ ∙ ap (λ x. set sums p x) back ∙ set-get_or sums p 0
      | inr past ↦ set-set sums p _ _ ∙ set_past sums p _ past
    ]

pub unpay-pay : (p amount : ℕ) (row : Instalment) → unpay_row p amount (pay_row p amount row) ≡ row
unpay-pay p amount row = ap (λ (sums : List ℕ). record row { paid = sums }) (minus_at-plus_at row.paid p amount)

-- a row changed and changed back
pub changed-back : (rows : List Instalment) (instalment : ℕ) (there back : Instalment → Instalment)
    → ((row : Instalment) → back (there row) ≡ row)
    → rows_changed_at (rows_changed_at rows instalment there) instalment back ≡ rows
changed-back rows instalment there back undoes =
    let i : ℕ = instalment - 1 in
    elim (cases_lt i (length rows)) [
      | inl within ↦
          set-set rows i _ _
          ∙ ap (λ x. set rows i (back x)) (get_or-set_same rows i (there (get_or rows i no_row)) no_row within)
          ∙ ap (λ x. set rows i x) (undoes (get_or rows i no_row))
          ∙ set-get_or rows i no_row
      | inr past ↦ set-set rows i _ _ ∙ set_past rows i _ past
    ]

pub take_out-pay_into : (rows : List Instalment) (share : Share) → take_out (pay_into rows share) share ≡ rows
take_out-pay_into rows share = changed-back rows share.cell.instalment (pay_row (place_in_row share.cell.portion)
    share.amount) (unpay_row (place_in_row share.cell.portion) share.amount)
    (unpay-pay (place_in_row share.cell.portion) share.amount)

-- taking back all that was paid gives the rows
pub without_paid-with_paid : (rows : List Instalment) (shares : List Share)
    → without_paid (with_paid rows shares) shares
    ≡ rows
without_paid-with_paid rows [] = refl
without_paid-with_paid rows (share ∷ shares) =
    ap (λ x. take_out x share) (without_paid-with_paid (pay_into rows share) shares) ∙ take_out-pay_into rows share

pub same_cell : (a b : Cell) → a.instalment ≡ b.instalment → a.portion ≡ b.portion → a ≡ b
same_cell a b i p =
    let at : ℕ → Portion → Cell = λ x y. record { instalment = x; portion = y } in
    ap (λ x. at x a.portion) i ∙ ap (λ y. at b.instalment y) p

-- a portion is told by its place
pub same_portion : (a b : Portion) → place_in_row a ≡ place_in_row b → a ≡ b
same_portion a b same = back a ∙ ap standard same ∙ sym (back b) where
  back : (p : Portion) → p ≡ standard (place_in_row p)
  back Penalty = refl
  back Fee = refl
  back Interest = refl
  back Principal = refl

-- another sum of the row is as it was
open_at-pay_row : (row : Instalment) (p q amount : ℕ) → q ≢ p → open_at (pay_row p amount row) q ≡ open_at row q
open_at-pay_row row p q amount apart =
    ap (λ x. get_or row.owed q 0 - x - get_or row.waived q 0 - get_or row.written_off q 0)
    (get_or-set_other row.paid p q (get_or row.paid p 0 + amount) 0 apart)

-- a change of one sum of a row leaves what is outstanding in the other cells
pub outstanding-changed : (rows : List Instalment) (changing cell : Cell) (change : Instalment → Instalment)
    → IsCell (length rows) changing
    → IsCell (length rows) cell → cell ≢ changing → ((row : Instalment) (q : ℕ) → q ≢ place_in_row changing.portion
    → open_at (change row) q ≡ open_at row q) → outstanding (rows_changed_at rows changing.instalment change) cell
    ≡ outstanding rows cell
outstanding-changed rows changing cell change there here apart keeps =
    let i : ℕ = changing.instalment - 1 in
    let j : ℕ = cell.instalment - 1 in
    let q : ℕ = place_in_row cell.portion in
    elim (cases_eq cell.instalment changing.instalment) [
      | inl same ↦
          let other : q ≢ place_in_row changing.portion =
          λ e. apart (same_cell cell changing same (same_portion cell.portion changing.portion e)) in
          let at : j ≡ i = omega (arith, same) in
          let read : get_or (rows_changed_at rows changing.instalment change) j no_row ≡ change (get_or rows j no_row) =
          ap (λ x. get_or (rows_changed_at rows changing.instalment change) x no_row) at
          ∙ get_or-set_same rows i (change (get_or rows i no_row)) no_row (omega (arith, there.first, there.last))
          ∙ sym (ap (λ x. change (get_or rows x no_row)) at) in
          ap (λ x. open_at x q) read ∙ keeps (get_or rows j no_row) q other
      | inr differ ↦
          let other : j ≢ i = λ e. differ (omega (arith, there.first, here.first, e)) in
          ap (λ x. open_at x q) (get_or-set_other rows i j (change (get_or rows i no_row)) no_row other)
    ]

-- paying into one cell
pub outstanding-pay_into : (rows : List Instalment) (share : Share) (cell : Cell) → IsCell (length rows) share.cell
    → IsCell (length rows) cell → cell ≢ share.cell → outstanding (pay_into rows share) cell ≡ outstanding rows cell
outstanding-pay_into rows share cell there here apart =
    outstanding-changed rows share.cell cell (pay_row (place_in_row share.cell.portion) share.amount) there here apart
    (λ row q other. open_at-pay_row row (place_in_row share.cell.portion) q share.amount other)

-- the shares of places j to j + len - 1, of rows that differ from those on the line in earlier cells alone
payable_from : (n : ℕ) (order : ℕ → Cell) (place : Cell → ℕ) (line rows : List Instalment) (amount j len : ℕ)
    → IsOrder n order place → length rows ≡ n → j + len ≤ 4 * n → ((k : ℕ) → j ≤ k → k < 4 * n
    → outstanding rows (order k) ≡ outstanding line (order k))
    → IsPayable rows (filter is_some_share (map (share_at order line amount) (range_with_len j len)))
payable_from n order place line rows amount j zero is size within same = tt
payable_from n order place line rows amount j (suc len) is size within same =
    let share : Share = share_at order line amount j in
    let others : List Share = filter is_some_share (map (share_at order line amount) (range_with_len (j + 1) len)) in
    let here : IsCell n (order j) = is.is_cell j (omega arith) in
    let place_j : place (order j) ≡ j = is.back j (omega arith) in
    let at : IsCell (length rows) (order j) = subst (λ (x : ℕ). IsCell x (order j)) (sym size) here in
    let most : outstanding rows (order j) ≡ outstanding line (order j) = same j (omega arith) (omega arith) in
    cond_both (is_some_share share) (share ∷ others) others (IsPayable rows)
    (λ _.
    let paid : List Instalment = pay_into rows share in
    let size_paid : length paid ≡ n = length-set rows ((order j).instalment - 1)
    (pay_row (place_in_row (order j).portion) share.amount (row_at rows (order j).instalment)) ∙ size in (
      at,
      omega (arith, most),
      payable_from n order place line paid amount (j + 1) len is size_paid (omega arith)
          (λ k from to.
          let place_k : place (order k) ≡ k = is.back k to in
          let other : order k ≢ order j = λ e. let placed : place (order k) ≡ place (order j) =
          ap place e in omega (arith, placed, place_k, place_j) in
          outstanding-pay_into rows share (order k) at (subst (λ (x : ℕ). IsCell x (order k)) (sym size)
          (is.is_cell k to)) other
          ∙ same k (omega arith) to),
    ))
    (λ _. payable_from n order place line rows amount (j + 1) len is size (omega arith)
    (λ k from to. same k (omega arith) to))

-- the shares of an amount can be paid
pub shares_payable : (order : ℕ → Cell) (place : Cell → ℕ) (rows : List Instalment) (amount : ℕ)
    → IsOrder (length rows) order place → IsPayable rows (shares_of order rows amount)
shares_payable order place rows amount is =
    payable_from (length rows) order place rows rows amount 0 (4 * length rows) is refl (omega arith)
    (λ k from to. refl)

one_more : (order : ℕ → Cell) (rows : List Instalment) (amount k : ℕ)
    → amount_of_shares (shares_below order rows amount k)
    + (amount - start order rows k) ≡ amount → amount_of_shares (shares_below order rows amount (k + 1))
    + (amount - start order rows (k + 1)) ≡ amount
one_more order rows amount k so_far =
    let share : Share = share_at order rows amount k in
    let last : List Share = cond (is_some_share share) (share ∷ []) [] in
    let one : amount_of_shares last ≡ share.amount =
    cond_both (is_some_share share) (share ∷ []) [] (λ x. amount_of_shares x ≡ share.amount)
    (λ _. omega arith) (λ none. omega (arith, ltb-false 0 share.amount none)) in
    let parts = sum_by-append (λ (s : Share). s.amount) (shares_below order rows amount k) last in
    let all : amount_of_shares (shares_below order rows amount (k + 1))
    ≡ amount_of_shares (shares_below order rows amount k)
    + share.amount =
    ap amount_of_shares (shares_below-more order rows amount k) ∙ parts ∙ ap
    (λ x. amount_of_shares (shares_below order rows amount k)
    + x) one in
    let further = start-more order rows k in
    omega (arith, all, further, so_far)

-- shares and rest are the amount
total-below : (order : ℕ → Cell) (rows : List Instalment) (amount k : ℕ)
    → amount_of_shares (shares_below order rows amount k)
    + (amount - start order rows k) ≡ amount
total-below order rows amount zero = omega arith
total-below order rows amount (suc k) =
    subst (λ (x : ℕ). amount_of_shares (shares_below order rows amount x) + (amount - start order rows x) ≡ amount)
    (add-one k)
    (one_more order rows amount k (total-below order rows amount k))

pub total-shares : (order : ℕ → Cell) (rows : List Instalment) (amount : ℕ)
    → amount_of_shares (shares_of order rows amount)
    + rest_of order rows amount ≡ amount
total-shares order rows amount = total-below order rows amount (4 * length rows)

-- rows that were paid into, taken back
pub without_paid-from : (rows new : List Instalment) (shares : List Share) → new ≡ with_paid rows shares
    → without_paid new shares ≡ rows
without_paid-from rows new shares paid = ap (λ x. without_paid x shares) paid ∙ without_paid-with_paid rows shares

-- the same, of a list that is those shares
pub payable-from : (order : ℕ → Cell) (place : Cell → ℕ) (rows : List Instalment) (amount : ℕ) (shares : List Share)
    → IsOrder (length rows) order place → shares ≡ shares_of order rows amount → IsPayable rows shares
payable-from order place rows amount shares is same =
    subst (IsPayable rows) (sym same) (shares_payable order place rows amount is)

pub total-from : (order : ℕ → Cell) (rows : List Instalment) (amount rest : ℕ) (shares : List Share)
    → shares ≡ shares_of order rows amount → rest ≡ rest_of order rows amount → amount_of_shares shares + rest ≡ amount
total-from order rows amount rest shares same left =
    let total : amount_of_shares shares ≡ amount_of_shares (shares_of order rows amount) = ap amount_of_shares same in
    let whole = total-shares order rows amount in
    omega (arith, total, left, whole)

-- at the end of the line
pub at_end : {X : Type 0} (f : ℕ → X) (k n : ℕ) (x : X) → x ≡ f k → k ≡ n → x ≡ f n
at_end f k n x so_far end = so_far ∙ ap f end
