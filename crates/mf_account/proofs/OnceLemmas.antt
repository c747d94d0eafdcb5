-- What an entry settles is what its rows gain, and one payment of all its money gives the same.
use Rattle.std.proofs.Common.{◌≡◌, ℕ, ◌+◌, ◌-◌, ◌*◌, ◌<◌, true, false, cond, List, [], ◌∷◌, ◌++◌, length, map, arith}
use Rattle.std.proofs.Common.{refl, ◌∙◌, ap, subst, sym}
use Rattle.std.specs.Prelude.{filter, sum_by}
use Rattle.std.specs.List.{range_with_len}
use Rattle.std.proofs.lemmas.Bool.{cond_both, ltb-false}
use Rattle.std.proofs.lemmas.List.Sums.{sum_by-append}
use Rattle.mf_alloc.specs.declared.row.Cell.{Cell}
use Rattle.mf_alloc.specs.declared.row.Share.{Share}
use Rattle.mf_alloc.specs.Sums.{Instalment}
use Rattle.mf_alloc.specs.Rows.{with_paid}
use Rattle.mf_alloc.specs.Payment.{share_at, rest_of, is_some_share, amount_of_shares}
use Rattle.mf_alloc.proofs.PaymentLemmas.{total-shares}
use Rattle.mf_alloc.proofs.TwoPayments.{share_in, shares_by, with_paid-some, with_paid-twice, pay_into-none}
use Rattle.mf_alloc.proofs.LeftOpen.{IsLine, amounts_of, rows_paid-by, length-rows_paid, shares_by-same, amounts-twice}
use Rattle.mf_alloc.proofs.LeftOpen.{rest-twice}
use Rattle.mf_account.specs.declared.entry.Entry.{Entry}
use Rattle.mf_account.specs.declared.entry.Kind.{Kind}
use Rattle.mf_account.specs.declared.entry.Kind.TheVariants.{Repay, Fee, Penalty, Waive, WriteOff, Refund}
use Rattle.mf_account.specs.declared.settled.How.TheVariants.{Waived, WrittenOff}
use Rattle.mf_account.specs.Kinds.{money_in, money_out}
use Rattle.mf_account.specs.Effect.{State, Part, with_settled, with_charge, whole_part, is_some_part, some_parts}
use Rattle.mf_account.specs.Effect.{parts_by, parts_cleared, own_effect, state_acted, after_entry, own_share}
use Rattle.mf_account.specs.Effect.{later_share}
use Rattle.mf_account.specs.Effect.{paid_at, parts_paid, parts_of}
use Rattle.mf_account.specs.AtOnce.{paid_part, rows_charged, rows_cleared, money_to_pay, shares_at_once, parts_at_once}
use Rattle.mf_account.specs.AtOnce.{after_at_once}
use Rattle.mf_account.specs.Undo.{paid_by, paid_in}
use Rattle.mf_account.proofs.EffectLemmas.{with_settled-paid, with_settled-append, length-with_charge}
use Rattle.mf_account.proofs.EffectLemmas.{length-with_settled}

-- the parts of places are their shares
parts-by : (order : ℕ → Cell) (amounts : ℕ → ℕ) (places : List ℕ) → some_parts (map (paid_at order amounts) places)
    ≡ map paid_part (filter is_some_share (shares_by order amounts places))
parts-by order amounts [] = refl
parts-by order amounts (k ∷ places) =
    let share : Share = share_in (order k) (amounts k) in
    let others : List Share = filter is_some_share (shares_by order amounts places) in
    let rest : List Part = some_parts (map (paid_at order amounts) places) in
    let same : rest ≡ map paid_part others = parts-by order amounts places in
    elim (is_some_share share) as (λ b. cond b (paid_part share ∷ rest) rest
    ≡ map paid_part (cond b (share ∷ others) others)) [
      | true ↦ ap (λ x. paid_part share ∷ x) same
      | false ↦ same
    ]

with_settled-by : (order : ℕ → Cell) (amounts : ℕ → ℕ) (places : List ℕ) (rows : List Instalment) → with_settled rows
    (some_parts (map (paid_at order amounts) places)) ≡ with_paid rows (shares_by order amounts places)
with_settled-by order amounts places rows =
    ap (with_settled rows) (parts-by order amounts places)
    ∙ with_settled-paid rows (filter is_some_share (shares_by order amounts places))
    ∙ with_paid-some rows (shares_by order amounts places)

-- nothing paid
with_paid-zero : (order : ℕ → Cell) (places : List ℕ) (rows : List Instalment)
    → with_paid rows (shares_by order (λ _. 0) places) ≡ rows
with_paid-zero order [] rows = refl
with_paid-zero order (k ∷ places) rows =
    ap (λ x. with_paid x (shares_by order (λ _. 0) places)) (pay_into-none rows (share_in (order k) 0) refl)
    ∙ with_paid-zero order places rows

-- the places of a state's cells
abbrev pub places_of : State → List ℕ
places_of before = range_with_len 0 (4 * length before.rows)

-- an entry that clears charges nothing
cleared-charged : (kind : Kind) (order : ℕ → Cell) (entry : Entry) (rows : List Instalment)
    → parts_by kind order entry (with_charge kind entry rows) ≡ parts_by kind order entry rows
cleared-charged Repay order entry rows = refl
cleared-charged Fee order entry rows = refl
cleared-charged Penalty order entry rows = refl
cleared-charged Waive order entry rows = refl
cleared-charged WriteOff order entry rows = refl
cleared-charged Refund order entry rows = refl

abbrev rows_by : Kind → (ℕ → Cell) → Entry → List Instalment → List Instalment
rows_by kind order entry rows =
    with_settled (with_charge kind entry rows) (parts_by kind order entry (with_charge kind entry rows))

-- the rows that the entry itself leaves: charged, cleared, and what it itself pays
acted-rows : (kind : Kind) (order : ℕ → Cell) (entry : Entry) (before : State)
    → (own_effect kind order entry before).rows ≡ with_paid (rows_by kind order entry before.rows)
    (shares_by order (own_share kind order entry before) (places_of before))
acted-rows Repay order entry before = rows_paid-by order before.rows entry.amount
acted-rows Fee order entry before = sym (with_paid-zero order (places_of before) (rows_by Fee order entry before.rows))
acted-rows Penalty order entry before =
    sym (with_paid-zero order (places_of before) (rows_by Penalty order entry before.rows))
acted-rows Waive order entry before =
    sym (with_paid-zero order (places_of before) (rows_by Waive order entry before.rows))
acted-rows WriteOff order entry before =
    sym (with_paid-zero order (places_of before) (rows_by WriteOff order entry before.rows))
acted-rows Refund order entry before =
    sym (with_paid-zero order (places_of before) (rows_by Refund order entry before.rows))

pub length-acted : (kind : Kind) (order : ℕ → Cell) (entry : Entry) (before : State)
    → length (own_effect kind order entry before).rows ≡ length before.rows
length-acted Repay order entry before = length-rows_paid order before.rows entry.amount
length-acted Fee order entry before = length-with_charge Fee entry before.rows
length-acted Penalty order entry before = length-with_charge Penalty entry before.rows
length-acted Waive order entry before = length-with_settled before.rows (parts_by Waive order entry before.rows)
length-acted WriteOff order entry before = length-with_settled before.rows (parts_by WriteOff order entry before.rows)
length-acted Refund order entry before = refl

-- what is overpaid, paid by places
later-rows : (order : ℕ → Cell) (entry : Entry) (before : State) → (after_entry order entry before).rows ≡ with_paid
    (state_acted order entry before).rows (shares_by order (later_share order entry before) (places_of before))
later-rows order entry before =
    let acted : State = state_acted order entry before in
    rows_paid-by order acted.rows acted.overpaid
    ∙ ap (λ n. with_paid acted.rows (shares_by order (later_share order entry before) (range_with_len 0 (4 * n))))
    (length-acted entry.kind order entry before)

-- the rows after an entry are those that it charges, with all that it settles
pub rows-after : (order : ℕ → Cell) (entry : Entry) (before : State) → (after_entry order entry before).rows
    ≡ with_settled (rows_charged entry before) (parts_of order entry before)
rows-after order entry before =
    let own : ℕ → ℕ = own_share entry.kind order entry before in
    let later : ℕ → ℕ = later_share order entry before in
    let charged : List Instalment = rows_charged entry before in
    let cleared : List Part = parts_cleared order entry before.rows in
    later-rows order entry before
    ∙ ap (λ x. with_paid x (shares_by order later (places_of before))) (acted-rows entry.kind order entry before)
    ∙ with_paid-twice order own later (places_of before) (rows_cleared order entry before)
    ∙ sym (with_settled-by order (λ k. own k + later k) (places_of before) (rows_cleared order entry before))
    ∙ ap (λ x. with_settled (with_settled charged x) (parts_paid order entry before))
    (cleared-charged entry.kind order entry before.rows)
    ∙ sym (with_settled-append charged cleared (parts_paid order entry before))

abbrev amount_paid : Part → ℕ
amount_paid part = paid_by part.how part.amount

paid_in-cons : (part : Part) (parts : List Part) → paid_in (part ∷ parts) ≡ amount_paid part + paid_in parts
paid_in-cons part parts = sum_by-append amount_paid (part ∷ []) parts ∙ omega arith

-- what the parts of places pay
paid_in-by : (order : ℕ → Cell) (amounts : ℕ → ℕ) (places : List ℕ)
    → paid_in (some_parts (map (paid_at order amounts) places)) ≡ sum_by amounts places
paid_in-by order amounts [] = refl
paid_in-by order amounts (k ∷ places) =
    let rest : List Part = some_parts (map (paid_at order amounts) places) in
    let so_far = paid_in-by order amounts places in
    let all = sum_by-append amounts (k ∷ []) places in
    cond_both (is_some_part (paid_at order amounts k)) (paid_at order amounts k ∷ rest) rest (λ x. paid_in x
    ≡ sum_by amounts (k ∷ places))
    (λ _. paid_in-cons (paid_at order amounts k) rest ∙ omega (arith, so_far, all))
    (λ none. let low = ltb-false 0 (amounts k) none in omega (arith, so_far, all, low))

total-by : (order : ℕ → Cell) (amounts : ℕ → ℕ) (places : List ℕ)
    → amount_of_shares (filter is_some_share (shares_by order amounts places)) ≡ sum_by amounts places
total-by order amounts [] = refl
total-by order amounts (k ∷ places) =
    let share : Share = share_in (order k) (amounts k) in
    let rest : List Share = filter is_some_share (shares_by order amounts places) in
    let so_far = total-by order amounts places in
    let all = sum_by-append amounts (k ∷ []) places in
    let one = sum_by-append (λ (s : Share). s.amount) (share ∷ []) rest in
    cond_both (is_some_share share) (share ∷ rest) rest (λ x. amount_of_shares x ≡ sum_by amounts (k ∷ places))
    (λ _. omega (arith, so_far, all, one))
    (λ none. let low = ltb-false 0 (amounts k) none in omega (arith, so_far, all, low))

sum_by-add : (f g : ℕ → ℕ) (places : List ℕ) → sum_by (λ k. f k + g k) places ≡ sum_by f places + sum_by g places
sum_by-add f g [] = refl
sum_by-add f g (k ∷ places) =
    let so_far = sum_by-add f g places in
    let both = sum_by-append (λ j. f j + g j) (k ∷ []) places in
    let first = sum_by-append f (k ∷ []) places in
    let second = sum_by-append g (k ∷ []) places in
    omega (arith, so_far, both, first, second)

sum_by-zero : (places : List ℕ) → sum_by (λ (k : ℕ). 0) places ≡ 0
sum_by-zero [] = refl
sum_by-zero (k ∷ places) = let all = sum_by-append (λ (j : ℕ). 0) (k ∷ []) places in let rest =
    sum_by-zero places in omega (arith, all, rest)

-- shares and rest of an amount, by places
amounts-rest : (order : ℕ → Cell) (rows : List Instalment) (amount : ℕ) → sum_by (amounts_of order rows amount)
    (range_with_len 0 (4 * length rows)) + rest_of order rows amount ≡ amount
amounts-rest order rows amount =
    let total = total-by order (amounts_of order rows amount) (range_with_len 0 (4 * length rows)) in
    let whole = total-shares order rows amount in
    omega (arith, total, whole)

-- the money that an entry itself brings, pays and leaves
own_money : (kind : Kind) (order : ℕ → Cell) (entry : Entry) (before : State)
    → sum_by (own_share kind order entry before) (places_of before) + (own_effect kind order entry before).overpaid
    ≡ money_in kind entry.amount + (before.overpaid - money_out kind before.overpaid)
own_money Repay order entry before = let whole = amounts-rest order before.rows entry.amount in omega (arith, whole)
own_money Fee order entry before = let none = sum_by-zero (places_of before) in omega (arith, none)
own_money Penalty order entry before = let none = sum_by-zero (places_of before) in omega (arith, none)
own_money Waive order entry before = let none = sum_by-zero (places_of before) in omega (arith, none)
own_money WriteOff order entry before = let none = sum_by-zero (places_of before) in omega (arith, none)
own_money Refund order entry before = let none = sum_by-zero (places_of before) in omega (arith, none)

unpaid_parts : (f : ℕ → Part) (places : List ℕ) → ((x : ℕ) → amount_paid (f x) ≡ 0)
    → paid_in (filter is_some_part (map f places)) ≡ 0
unpaid_parts f [] none = refl
unpaid_parts f (x ∷ places) none =
    let others : List Part = filter is_some_part (map f places) in
    let rest : paid_in others ≡ 0 = unpaid_parts f places none in
    let own : amount_paid (f x) ≡ 0 = none x in
    cond_both (is_some_part (f x)) (f x ∷ others) others (λ y. paid_in y ≡ 0)
    (λ _. paid_in-cons (f x) others ∙ omega (arith, own, rest)) (λ _. rest)

-- clearing pays nothing
pub clears_unpaid : (kind : Kind) (order : ℕ → Cell) (entry : Entry) (rows : List Instalment)
    → paid_in (parts_by kind order entry rows) ≡ 0
clears_unpaid Repay order entry rows = refl
clears_unpaid Fee order entry rows = refl
clears_unpaid Penalty order entry rows = refl
clears_unpaid Refund order entry rows = refl
clears_unpaid Waive order entry rows = unpaid_parts (λ _. whole_part Waived rows
    (record { instalment = entry.instalment; portion = entry.portion })) (0 ∷ []) (λ x. refl)
clears_unpaid WriteOff order entry rows =
    unpaid_parts (λ k. whole_part WrittenOff rows (order k)) (range_with_len 0 (4 * length rows)) (λ x. refl)

-- what an entry's parts pay and what it leaves overpaid is the money that it brings and finds, less what it gives back
pub money-after : (order : ℕ → Cell) (entry : Entry) (before : State) → paid_in (parts_of order entry before)
    + (after_entry order entry before).overpaid ≡ money_to_pay entry before
money-after order entry before =
    let acted : State = state_acted order entry before in
    let places : List ℕ = places_of before in
    let own : ℕ → ℕ = own_share entry.kind order entry before in
    let later : ℕ → ℕ = later_share order entry before in
    let none : paid_in (parts_cleared order entry before.rows) ≡ 0 = clears_unpaid entry.kind order entry before.rows in
    let parts = sum_by-append amount_paid (parts_cleared order entry before.rows) (parts_paid order entry before) in
    let paid = paid_in-by order (λ k. own k + later k) places in
    let both = sum_by-add own later places in
    let first = own_money entry.kind order entry before in
    let second : sum_by later places + rest_of order acted.rows acted.overpaid ≡ acted.overpaid =
    subst (λ (n : ℕ). sum_by later (range_with_len 0 (4 * n)) + rest_of order acted.rows acted.overpaid
    ≡ acted.overpaid) (length-acted entry.kind order entry before)
    (amounts-rest order acted.rows acted.overpaid) in
    omega (arith, none, parts, paid, both, first, second)

pub refunded-after : (kind : Kind) (order : ℕ → Cell) (entry : Entry) (before : State)
    → (own_effect kind order entry before).refunded ≡ before.refunded + money_out kind before.overpaid
refunded-after Repay order entry before = omega arith
refunded-after Fee order entry before = omega arith
refunded-after Penalty order entry before = omega arith
refunded-after Waive order entry before = omega arith
refunded-after WriteOff order entry before = omega arith
refunded-after Refund order entry before = refl

-- one payment of all the money pays the same into each cell
amounts-once : (kind : Kind) (n : ℕ) (order : ℕ → Cell) (place : Cell → ℕ) (entry : Entry) (before : State) (k : ℕ)
    → IsLine n order place before.rows → k < 4 * n → own_share kind order entry before k
    + amounts_of order (own_effect kind order entry before).rows (own_effect kind order entry before).overpaid k
    ≡ amounts_of order (rows_by kind order entry before.rows) (money_in kind entry.amount
    + (before.overpaid - money_out kind before.overpaid)) k
amounts-once Repay n order place entry before k line within =
    let money : entry.amount + before.overpaid ≡ entry.amount + (before.overpaid - 0) = omega arith in
    amounts-twice n order place before.rows entry.amount before.overpaid k line within
    ∙ ap (λ x. amounts_of order before.rows x k) money
amounts-once Fee n order place entry before k line within =
    let money : before.overpaid ≡ 0 + (before.overpaid - 0) = omega arith in
    let none : 0 + amounts_of order (with_charge Fee entry before.rows) before.overpaid k
    ≡ amounts_of order (with_charge Fee entry before.rows) before.overpaid k = omega arith in
    none ∙ ap (λ x. amounts_of order (with_charge Fee entry before.rows) x k) money
amounts-once Penalty n order place entry before k line within =
    let money : before.overpaid ≡ 0 + (before.overpaid - 0) = omega arith in
    let none : 0 + amounts_of order (with_charge Penalty entry before.rows) before.overpaid k
    ≡ amounts_of order (with_charge Penalty entry before.rows) before.overpaid k = omega arith in
    none ∙ ap (λ x. amounts_of order (with_charge Penalty entry before.rows) x k) money
amounts-once Waive n order place entry before k line within =
    let money : before.overpaid ≡ 0 + (before.overpaid - 0) = omega arith in
    let none : 0 + amounts_of order (rows_by Waive order entry before.rows) before.overpaid k
    ≡ amounts_of order (rows_by Waive order entry before.rows) before.overpaid k = omega arith in
    none ∙ ap (λ x. amounts_of order (rows_by Waive order entry before.rows) x k) money
amounts-once WriteOff n order place entry before k line within =
    let money : before.overpaid ≡ 0 + (before.overpaid - 0) = omega arith in
    let none : 0 + amounts_of order (rows_by WriteOff order entry before.rows) before.overpaid k
    ≡ amounts_of order (rows_by WriteOff order entry before.rows) before.overpaid k = omega arith in
    none ∙ ap (λ x. amounts_of order (rows_by WriteOff order entry before.rows) x k) money
amounts-once Refund n order place entry before k line within =
    let money : 0 ≡ 0 + (before.overpaid - before.overpaid) = omega arith in
    let none : 0 + amounts_of order before.rows 0 k ≡ amounts_of order before.rows 0 k = omega arith in
    none ∙ ap (λ x. amounts_of order before.rows x k) money

rest-once : (kind : Kind) (n : ℕ) (order : ℕ → Cell) (place : Cell → ℕ) (entry : Entry) (before : State)
    → IsLine n order place before.rows → rest_of order (own_effect kind order entry before).rows
    (own_effect kind order entry before).overpaid ≡ rest_of order (rows_by kind order entry before.rows)
    (money_in kind entry.amount + (before.overpaid - money_out kind before.overpaid))
rest-once Repay n order place entry before line =
    let money : entry.amount + before.overpaid ≡ entry.amount + (before.overpaid - 0) = omega arith in
    rest-twice n order place before.rows entry.amount before.overpaid line ∙ ap (rest_of order before.rows) money
rest-once Fee n order place entry before line =
    let money : before.overpaid ≡ 0 + (before.overpaid - 0) =
    omega arith in ap (rest_of order (with_charge Fee entry before.rows)) money
rest-once Penalty n order place entry before line =
    let money : before.overpaid ≡ 0 + (before.overpaid - 0) =
    omega arith in ap (rest_of order (with_charge Penalty entry before.rows)) money
rest-once Waive n order place entry before line =
    let money : before.overpaid ≡ 0 + (before.overpaid - 0) =
    omega arith in ap (rest_of order (rows_by Waive order entry before.rows)) money
rest-once WriteOff n order place entry before line =
    let money : before.overpaid ≡ 0 + (before.overpaid - 0) =
    omega arith in ap (rest_of order (rows_by WriteOff order entry before.rows)) money
rest-once Refund n order place entry before line =
    let money : 0 ≡ 0 + (before.overpaid - before.overpaid) = omega arith in ap (rest_of order before.rows) money

length-cleared : (order : ℕ → Cell) (entry : Entry) (before : State) → length (rows_cleared order entry before)
    ≡ length before.rows
length-cleared order entry before =
    length-with_settled (rows_charged entry before) (parts_cleared order entry (rows_charged entry before))
    ∙ length-with_charge entry.kind entry before.rows

-- so the parts are the same
pub parts-once : (n : ℕ) (order : ℕ → Cell) (place : Cell → ℕ) (entry : Entry) (before : State)
    → IsLine n order place before.rows → parts_of order entry before ≡ parts_at_once order entry before
parts-once n order place entry before line =
    let own : ℕ → ℕ = own_share entry.kind order entry before in
    let later : ℕ → ℕ = later_share order entry before in
    let cleared : List Instalment = rows_cleared order entry before in
    let money : ℕ = money_to_pay entry before in
    let shares : shares_by order (λ k. own k + later k) (places_of before) ≡ map (share_at order cleared money)
    (range_with_len 0 (4 * length cleared)) =
    shares_by-same order (λ k. own k + later k) (amounts_of order cleared money) 0 (4 * length before.rows)
    (λ k from to. amounts-once entry.kind n order place entry before k line (omega (arith, line.size)))
    ∙ ap (λ x. shares_by order (amounts_of order cleared money) (range_with_len 0 (4 * x)))
    (sym (length-cleared order entry before)) in
    ap (λ x. parts_cleared order entry before.rows ++ x) (parts-by order (λ k. own k + later k) (places_of before)
    ∙ ap (λ x. map paid_part (filter is_some_share x)) shares)
    ∙ ap (λ x. x ++ map paid_part (shares_at_once order entry before))
    (sym (cleared-charged entry.kind order entry before.rows))

-- and so is the state
pub after-once : (n : ℕ) (order : ℕ → Cell) (place : Cell → ℕ) (entry : Entry) (before : State)
    → IsLine n order place before.rows → after_entry order entry before ≡ after_at_once order entry before
after-once n order place entry before line =
    let at : List Instalment → ℕ → ℕ → State = λ r o f. record { rows = r; overpaid = o; refunded = f } in
    let then : State = after_entry order entry before in
    let once : State = after_at_once order entry before in
    ap (λ r. at r then.overpaid then.refunded) (rows-after order entry before
    ∙ ap (with_settled (rows_charged entry before)) (parts-once n order place entry before line))
    ∙ ap (λ o. at once.rows o then.refunded) (rest-once entry.kind n order place entry before line)
    ∙ ap (λ f. at once.rows once.overpaid f) (refunded-after entry.kind order entry before)
