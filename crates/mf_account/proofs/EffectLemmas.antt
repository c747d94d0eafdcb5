-- Parts with their places, and that what an entry clears can be settled.
use Rattle.std.proofs.Common.{◌≡◌, ◌≢◌, ℕ, zero, suc, ◌+◌, ◌-◌, ◌*◌, ◌<◌, ◌≤◌, List, [], ◌∷◌, ◌++◌, length, map, arith}
use Rattle.std.proofs.Common.{refl, ◌∙◌, ap, subst, sym, get_or, take, append_assoc}
use Rattle.std.specs.Prelude.{filter}
use Rattle.std.specs.List.{range_with_len}
use Rattle.std.proofs.lemmas.Bool.{cond_both}
use Rattle.std.proofs.lemmas.List.{get_or-set_other, length-set, length-map, length-take-le, take_more, map-append}
use Rattle.std.proofs.lemmas.List.FromFn.{filter_of_map_range_with_len_more}
use Rattle.mf_alloc.specs.declared.row.Cell.{Cell}
use Rattle.mf_alloc.specs.declared.row.Portion.TheVariants as portion
use Rattle.mf_alloc.specs.declared.row.Share.{Share}
use Rattle.mf_alloc.specs.Sums.{Instalment, open_at}
use Rattle.mf_alloc.specs.Rows.{outstanding, row_at, place_in_row, IsCell, with_paid, pay_into}
use Rattle.mf_alloc.specs.Payment.{shares_of, rest_of}
use Rattle.mf_alloc.specs.OrderLaws.{IsOrder}
use Rattle.mf_alloc.proofs.PaymentLemmas.{outstanding-changed}
use Rattle.mf_account.specs.declared.entry.Entry.{Entry}
use Rattle.mf_account.specs.declared.entry.Kind.{Kind}
use Rattle.mf_account.specs.declared.entry.Kind.TheVariants.{Repay, Fee, Penalty, Waive, WriteOff, Refund}
use Rattle.mf_account.specs.declared.settled.SettledPart.{SettledPart}
use Rattle.mf_account.specs.declared.settled.How.{How}
use Rattle.mf_account.specs.declared.settled.How.TheVariants.{Paid, Waived, WrittenOff}
use Rattle.mf_account.specs.Kinds.{money_out}
use Rattle.mf_account.specs.Effect.{State, Part, settle, settle_row, with_settled, whole_part, is_some_part}
use Rattle.mf_account.specs.Effect.{with_charge, owe_row, parts_by, parts_cleared}
use Rattle.mf_account.specs.AtOnce.{with_cleared, after_at_once, parts_at_once, shares_at_once, rows_charged}
use Rattle.mf_account.specs.AtOnce.{rows_cleared, money_to_pay, paid_part}
use Rattle.mf_account.specs.Account.{parts_numbered, part_of}
use Rattle.mf_account.specs.Applicable.{HasCell, IsSettleable}

pub length-numbered : (seq place : ℕ) (parts : List Part) → length (parts_numbered seq place parts) ≡ length parts
length-numbered seq place [] = refl
length-numbered seq place (part ∷ parts) = ap suc (length-numbered seq (place + 1) parts)

pub numbered-append : (seq place : ℕ) (xs ys : List Part) → parts_numbered seq place (xs ++ ys)
    ≡ parts_numbered seq place xs ++ parts_numbered seq (place + length xs) ys
numbered-append seq place [] ys = let e : place ≡ place + 0 = omega arith in ap (λ x. parts_numbered seq x ys) e
numbered-append seq place (part ∷ parts) ys =
    let own : SettledPart = record { seq = seq; place = place; cell = part.cell; how = part.how; amount = part.amount }
    in
    let e : place + 1 + length parts ≡ place + suc (length parts) = omega arith in
    ap (λ x. own ∷ x) (numbered-append seq (place + 1) parts ys ∙ ap (λ x. parts_numbered seq (place + 1) parts
    ++ parts_numbered seq x ys) e)

pub part_of-numbered : (seq place : ℕ) (parts : List Part) → map part_of (parts_numbered seq place parts) ≡ parts
part_of-numbered seq place [] = refl
part_of-numbered seq place (part ∷ parts) = ap (λ x. part ∷ x) (part_of-numbered seq (place + 1) parts)

-- another sum of the row
open_at-settle_row : (how : How) (row : Instalment) (p q amount : ℕ) → q ≢ p → open_at (settle_row how p amount row) q
    ≡ open_at row q
open_at-settle_row Paid row p q amount apart =
    ap (λ x. get_or row.owed q 0 - x - get_or row.waived q 0 - get_or row.written_off q 0)
    (get_or-set_other row.paid p q (get_or row.paid p 0 + amount) 0 apart)
open_at-settle_row Waived row p q amount apart =
    ap (λ x. get_or row.owed q 0 - get_or row.paid q 0 - x - get_or row.written_off q 0)
    (get_or-set_other row.waived p q (get_or row.waived p 0 + amount) 0 apart)
open_at-settle_row WrittenOff row p q amount apart =
    ap (λ x. get_or row.owed q 0 - get_or row.paid q 0 - get_or row.waived q 0 - x)
    (get_or-set_other row.written_off p q (get_or row.written_off p 0 + amount) 0 apart)

pub outstanding-settle : (rows : List Instalment) (part : Part) (cell : Cell) → IsCell (length rows) part.cell
    → IsCell (length rows) cell → cell ≢ part.cell → outstanding (settle rows part) cell ≡ outstanding rows cell
outstanding-settle rows part cell there here apart =
    outstanding-changed rows part.cell cell (settle_row part.how (place_in_row part.cell.portion) part.amount) there
    here apart
    (λ row q other. open_at-settle_row part.how row (place_in_row part.cell.portion) q part.amount other)

-- what places j to j + len - 1 clear, of rows that differ from the first ones in earlier cells alone
settleable_from : (n : ℕ) (how : How) (order : ℕ → Cell) (place : Cell → ℕ) (line rows : List Instalment) (j len : ℕ)
    → IsOrder n order place → length rows ≡ n → j + len ≤ 4 * n → ((k : ℕ) → j ≤ k → k < 4 * n
    → outstanding rows (order k) ≡ outstanding line (order k))
    → IsSettleable rows (filter is_some_part (map (λ k. whole_part how line (order k)) (range_with_len j len)))
settleable_from n how order place line rows j zero is size within same = tt
settleable_from n how order place line rows j (suc len) is size within same =
    let part : Part = whole_part how line (order j) in
    let others : List Part =
    filter is_some_part (map (λ k. whole_part how line (order k)) (range_with_len (j + 1) len)) in
    let here : IsCell n (order j) = is.is_cell j (omega arith) in
    let place_j : place (order j) ≡ j = is.back j (omega arith) in
    let at : IsCell (length rows) (order j) = subst (λ (x : ℕ). IsCell x (order j)) (sym size) here in
    let most : outstanding rows (order j) ≡ outstanding line (order j) = same j (omega arith) (omega arith) in
    cond_both (is_some_part part) (part ∷ others) others (IsSettleable rows)
    (λ _.
    let settled : List Instalment = settle rows part in
    let size_settled : length settled ≡ n = length-set rows ((order j).instalment - 1)
    (settle_row how (place_in_row (order j).portion) part.amount (row_at rows (order j).instalment)) ∙ size in (
      at,
      omega (arith, most),
      settleable_from n how order place line settled (j + 1) len is size_settled (omega arith)
          (λ k from to.
          let place_k : place (order k) ≡ k = is.back k to in
          let other : order k ≢ order j = λ e. let placed : place (order k) ≡ place (order j) =
          ap place e in omega (arith, placed, place_k, place_j) in
          outstanding-settle rows part (order k) at (subst (λ (x : ℕ). IsCell x (order k)) (sym size) (is.is_cell k to))
          other
          ∙ same k (omega arith) to),
    ))
    (λ _. settleable_from n how order place line rows (j + 1) len is size (omega arith)
    (λ k from to. same k (omega arith) to))

-- one cell
settleable_one : (how : How) (rows : List Instalment) (cell : Cell) → IsCell (length rows) cell
    → IsSettleable rows (filter is_some_part (whole_part how rows cell ∷ []))
settleable_one how rows cell is =
    cond_both (is_some_part (whole_part how rows cell)) (whole_part how rows cell ∷ []) [] (IsSettleable rows)
    (λ _. (is, omega arith, tt)) (λ _. tt)

-- what an entry clears
pub cleared_settleable : (kind : Kind) (order : ℕ → Cell) (place : Cell → ℕ) (entry : Entry) (rows : List Instalment)
    → IsOrder (length rows) order place → HasCell kind entry (length rows)
    → IsSettleable rows (parts_by kind order entry rows)
cleared_settleable Repay order place entry rows is has = tt
cleared_settleable Fee order place entry rows is has = tt
cleared_settleable Penalty order place entry rows is has = tt
cleared_settleable Refund order place entry rows is has = tt
cleared_settleable Waive order place entry rows is has =
    settleable_one Waived rows (record { instalment = entry.instalment; portion = entry.portion })
    (record { first = has.0; last = has.1 })
cleared_settleable WriteOff order place entry rows is has =
    settleable_from (length rows) WrittenOff order place rows rows 0 (4 * length rows) is refl (omega arith)
    (λ k from to. refl)

-- the parts of the first k places
abbrev pub written_below : (ℕ → Cell) → List Instalment → ℕ → List Part
written_below order rows k = filter is_some_part (map (λ j. whole_part WrittenOff rows (order j)) (range_with_len 0 k))

-- one place more
pub written_more : (order : ℕ → Cell) (rows : List Instalment) (seq k : ℕ) (cell : Cell) (so_far all : List SettledPart)
    → so_far ≡ parts_numbered seq 1 (written_below order rows k) → cell ≡ order k → all ≡ so_far
    ++ parts_numbered seq (1 + length so_far) (filter is_some_part (whole_part WrittenOff rows cell ∷ []))
    → all ≡ parts_numbered seq 1 (written_below order rows (k + 1))
written_more order rows seq k cell so_far all before here more =
    let last : Cell → List Part = λ c. filter is_some_part (whole_part WrittenOff rows c ∷ []) in
    let size : length so_far ≡ length (written_below order rows k) =
    ap length before ∙ length-numbered seq 1 (written_below order rows k) in
    more
    ∙ ap (λ x. so_far ++ parts_numbered seq (1 + length so_far) (last x)) here
    ∙ ap (λ x. so_far ++ parts_numbered seq (1 + x) (last (order k))) size
    ∙ ap (λ x. x ++ parts_numbered seq (1 + length (written_below order rows k)) (last (order k))) before
    ∙ sym (numbered-append seq 1 (written_below order rows k) (last (order k)))
    ∙ ap (parts_numbered seq 1) (sym (filter_of_map_range_with_len_more is_some_part (λ j. whole_part WrittenOff rows
    (order j)) 0 k k (omega arith)))

-- a payment's parts
pub with_settled-paid : (rows : List Instalment) (shares : List Share) → with_settled rows (map paid_part shares)
    ≡ with_paid rows shares
with_settled-paid rows [] = refl
with_settled-paid rows (share ∷ shares) = with_settled-paid (pay_into rows share) shares

pub with_settled-append : (rows : List Instalment) (xs ys : List Part) → with_settled rows (xs ++ ys)
    ≡ with_settled (with_settled rows xs) ys
with_settled-append rows [] ys = refl
with_settled-append rows (part ∷ parts) ys = with_settled-append (settle rows part) parts ys

-- parts with places, of which the parts can be settled
pub settleable-numbered : (rows : List Instalment) (seq : ℕ) (parts : List Part) (settled : List SettledPart)
    → settled ≡ parts_numbered seq 1 parts → IsSettleable rows parts → IsSettleable rows (map part_of settled)
settleable-numbered rows seq parts settled same can =
    subst (IsSettleable rows) (sym (ap (map part_of) same ∙ part_of-numbered seq 1 parts)) can

pub length-with_charge : (kind : Kind) (entry : Entry) (rows : List Instalment) → length (with_charge kind entry rows)
    ≡ length rows
length-with_charge Fee entry rows =
    length-set rows (entry.instalment - 1) (owe_row 1 entry.amount (row_at rows entry.instalment))
length-with_charge Penalty entry rows =
    length-set rows (entry.instalment - 1) (owe_row 0 entry.amount (row_at rows entry.instalment))
length-with_charge Repay entry rows = refl
length-with_charge Waive entry rows = refl
length-with_charge WriteOff entry rows = refl
length-with_charge Refund entry rows = refl

pub length-with_settled : (rows : List Instalment) (parts : List Part) → length (with_settled rows parts) ≡ length rows
length-with_settled rows [] = refl
length-with_settled rows (part ∷ parts) =
    length-with_settled (settle rows part) parts
    ∙ length-set rows (part.cell.instalment - 1) (settle_row part.how (place_in_row part.cell.portion) part.amount
    (row_at rows part.cell.instalment))

-- one more of a payment's parts
pub add_more : (seq place here : ℕ) (shares : List Share) (k : ℕ) (default share : Share)
    (first so_far all : List SettledPart) → so_far ≡ first ++ parts_numbered seq place (map paid_part (take k shares))
    → k < length shares → share ≡ get_or shares k default → here ≡ place + k → all ≡ so_far ++ record {
      seq = seq;
      place = here;
      cell = share.cell;
      how = Paid;
      amount = share.amount;
    } ∷ [] → all ≡ first
    ++ parts_numbered seq place (map paid_part (take (k + 1) shares))
add_more seq place here shares k default share first so_far all before within is at more =
    let parts : List Part = map paid_part (take k shares) in
    let size : length parts ≡ k = length-map (take k shares) paid_part ∙ length-take-le k shares (omega arith) in
    let next : map paid_part (take (k + 1) shares) ≡ parts ++ paid_part share ∷ [] =
    ap (map paid_part) (take_more shares k default within ∙ ap (λ x. take k shares ++ x ∷ []) (sym is))
    ∙ map-append paid_part (take k shares) (share ∷ []) in
    let places : here ≡ place + length parts = at ∙ ap (λ x. place + x) (sym size) in
    more
    ∙ ap (λ x. so_far ++ parts_numbered seq x (paid_part share ∷ [])) places
    ∙ ap (λ x. x ++ parts_numbered seq (place + length parts) (paid_part share ∷ [])) before
    ∙ append_assoc first (parts_numbered seq place parts) (parts_numbered seq (place + length parts) (paid_part share
    ∷ []))
    ∙ ap (λ x. first ++ x) (sym (numbered-append seq place parts (paid_part share ∷ [])))
    ∙ ap (λ x. first ++ parts_numbered seq place x) (sym next)

-- the cleared parts settled
pub with_cleared-from : (order : ℕ → Cell) (entry : Entry) (seq : ℕ) (charged new : List Instalment)
    (parts : List SettledPart)
    → parts ≡ parts_numbered seq 1 (parts_cleared order entry charged) → new ≡ with_settled charged (map part_of parts)
    → new ≡ with_cleared order entry charged
with_cleared-from order entry seq charged new parts are settled =
    settled ∙ ap (λ x. with_settled charged (map part_of x)) are ∙ ap (with_settled charged)
    (part_of-numbered seq 1 (parts_cleared order entry charged))

abbrev pub no_share : Share
no_share = record { cell = record { instalment = 0; portion = portion.Penalty }; amount = 0 }

shares-are : (order : ℕ → Cell) (entry : Entry) (before : State) (cleared : List Instalment) (shares : List Share)
    (money : ℕ)
    → cleared ≡ rows_cleared order entry before → money ≡ money_to_pay entry before → shares ≡ shares_of order cleared
    money → shares ≡ shares_of order (rows_cleared order entry before) (money_to_pay entry before)
shares-are order entry before cleared shares money clear pays are =
    are ∙ ap (λ x. shares_of order x money) clear ∙ ap (shares_of order (rows_cleared order entry before)) pays

-- the state after an entry, from what its steps gave
pub state-applied : (order : ℕ → Cell) (entry : Entry) (before : State) (cleared paid : List Instalment)
    (shares : List Share)
    (money rest given : ℕ) → cleared ≡ rows_cleared order entry before → money ≡ money_to_pay entry before
    → given ≡ money_out entry.kind before.overpaid → shares ≡ shares_of order cleared money
    → rest ≡ rest_of order cleared money → paid ≡ with_paid cleared shares → (let now : State = record {
      rows = paid;
      overpaid = rest;
      refunded = before.refunded + given;
    } in now ≡ after_at_once order entry before)
state-applied order entry before cleared paid shares money rest given clear pays gives are left rows =
    let at : List Instalment → ℕ → ℕ → State = λ r o f. record { rows = r; overpaid = o; refunded = f } in
    let clean : List Instalment = rows_cleared order entry before in
    let all : List Share = shares_of order clean (money_to_pay entry before) in
    let rows_after : paid ≡ with_settled (rows_charged entry before) (parts_at_once order entry before) =
    rows ∙ ap (λ x. with_paid x shares) clear ∙ ap (with_paid clean) (shares-are order entry before cleared shares money
    clear pays are)
    ∙ sym (with_settled-append (rows_charged entry before) (parts_cleared order entry (rows_charged entry before))
    (map paid_part all) ∙ with_settled-paid clean all) in
    let rest_after : rest ≡ rest_of order clean (money_to_pay entry before) =
    left ∙ ap (λ x. rest_of order x money) clear ∙ ap (rest_of order clean) pays in
    ap (λ r. at r rest (before.refunded + given)) rows_after
    ∙ ap (λ o. at (after_at_once order entry before).rows o (before.refunded + given)) rest_after
    ∙ ap (λ g. at (after_at_once order entry before).rows (after_at_once order entry before).overpaid (before.refunded
    + g)) gives

-- and its parts
pub parts-applied : (order : ℕ → Cell) (entry : Entry) (before : State) (seq : ℕ) (cleared : List Instalment)
    (shares : List Share) (money : ℕ) (first all : List SettledPart) → cleared ≡ rows_cleared order entry before
    → money ≡ money_to_pay entry before → shares ≡ shares_of order cleared money
    → first ≡ parts_numbered seq 1 (parts_cleared order entry (rows_charged entry before)) → all ≡ first
    ++ parts_numbered seq (1 + length first) (map paid_part shares)
    → all ≡ parts_numbered seq 1 (parts_at_once order entry before)
parts-applied order entry before seq cleared shares money first all clear pays are own more =
    let clears : List Part = parts_cleared order entry (rows_charged entry before) in
    let size : length first ≡ length clears = ap length own ∙ length-numbered seq 1 clears in
    more
    ∙ ap (λ x. first ++ parts_numbered seq (1 + x) (map paid_part shares)) size
    ∙ ap (λ x. x ++ parts_numbered seq (1 + length clears) (map paid_part shares)) own
    ∙ ap (λ x. parts_numbered seq 1 clears ++ parts_numbered seq (1 + length clears) (map paid_part x))
    (shares-are order entry before cleared shares money clear pays are)
    ∙ sym (numbered-append seq 1 clears (map paid_part (shares_at_once order entry before)))
