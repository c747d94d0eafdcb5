-- What every state of a sound loan keeps: four sums of each kind, what is settled at most what is owed, and room for
-- more.
use Rattle.std.proofs.Common.{◌≡◌, ◌≢◌, ℕ, zero, suc, ◌+◌, ◌-◌, ◌^◌, ◌<◌, ◌≤◌, ◌⊎◌, List, [], ◌∷◌, ◌++◌, length, map}
use Rattle.std.proofs.Common.{get_or, inl, inr, arith, ◌∙◌, ap, subst, sym}
use Rattle.std.specs.Prelude.{sum_by, All}
use Rattle.std.proofs.lemmas.Bool.{cases_lt, cases_eq}
use Rattle.std.proofs.lemmas.List.{get_or-set_same, get_or-set_other, set_past, length-set}
use Rattle.std.proofs.lemmas.List.Elements.{All-set, All-head, All-tail}
use Rattle.std.proofs.lemmas.List.Sums.{sum_by-append, sum_by-set}
use Rattle.mf_alloc.specs.declared.row.Cell.{Cell}
use Rattle.mf_alloc.specs.declared.row.Share.{Share}
use Rattle.mf_alloc.specs.Sums.{Instalment, open_at, IsRowWithin, AreWithin, IsWhole, AreWhole}
use Rattle.mf_alloc.specs.Rows.{no_row, row_at, rows_changed_at, plus_at, place_in_row, IsPayable, pay_into}
use Rattle.mf_alloc.specs.OrderLaws.{IsOrder}
use Rattle.mf_alloc.proofs.PaymentLemmas.{shares_payable}
use Rattle.mf_alloc.proofs.LeftOpen.{IsLine, place_in_row-small}
use Rattle.mf_account.specs.declared.entry.Entry.{Entry}
use Rattle.mf_account.specs.declared.entry.Kind.{Kind}
use Rattle.mf_account.specs.declared.entry.Kind.TheVariants.{Repay, Fee, Penalty, Waive, WriteOff, Refund}
use Rattle.mf_account.specs.declared.settled.How.{How}
use Rattle.mf_account.specs.declared.settled.How.TheVariants.{Paid, Waived, WrittenOff}
use Rattle.mf_account.specs.Kinds.{money_in}
use Rattle.mf_account.specs.Effect.{State, Part, after_entry, settle, settle_row, owe_row, with_settled, with_charge}
use Rattle.mf_account.specs.Effect.{parts_cleared, parts_of}
use Rattle.mf_account.specs.AtOnce.{paid_part, rows_charged, rows_cleared, money_to_pay, shares_at_once}
use Rattle.mf_account.specs.Account.{Orders, after_entries}
use Rattle.mf_account.specs.Safe.{IsBounded, IsShaped}
use Rattle.mf_account.specs.Applicable.{HasInstalment, HasRow, HasCell, AreApplicable, IsSettleable}
use Rattle.mf_account.proofs.EffectLemmas.{cleared_settleable, length-with_charge, length-with_settled}
use Rattle.mf_account.proofs.OnceLemmas.{rows-after, parts-once, money-after, refunded-after}
use Rattle.mf_account.proofs.UndoLemmas.{money_out-le}

-- one row changed, where it is one of the rows and where it is none
changed-keeps : (P : List Instalment → Type 0) (rows : List Instalment) (instalment : ℕ)
    (change : Instalment → Instalment) → P rows
    → (instalment - 1 < length rows → P (rows_changed_at rows instalment change))
    → P (rows_changed_at rows instalment change)
changed-keeps P rows instalment change now here =
    elim (cases_lt (instalment - 1) (length rows)) [
      | inl within ↦ here within
      | inr past ↦ subst P (sym (set_past rows (instalment - 1) (change (row_at rows instalment)) past)) now
    ]

pub whole-changed : (rows : List Instalment) (instalment : ℕ) (change : Instalment → Instalment)
    → ((row : Instalment) → IsWhole row
    → IsWhole (change row)) → AreWhole rows → AreWhole (rows_changed_at rows instalment change)
whole-changed rows instalment change keeps whole =
    changed-keeps AreWhole rows instalment change whole
    (λ within. All-set IsWhole rows (instalment - 1) (change (row_at rows instalment)) (keeps (row_at rows instalment)
    (whole (instalment - 1) no_row within)) whole)

whole-settle_row : (how : How) (p amount : ℕ) (row : Instalment) → IsWhole row → IsWhole (settle_row how p amount row)
whole-settle_row Paid p amount row is = record {
  owed = is.owed;
  paid = length-set row.paid p (get_or row.paid p 0
      + amount) ∙ is.paid;
  waived = is.waived;
  written_off = is.written_off;
}
whole-settle_row Waived p amount row is = record {
  owed = is.owed;
  paid = is.paid;
  waived = length-set row.waived p (get_or row.waived p 0 + amount) ∙ is.waived;
  written_off = is.written_off;
}
whole-settle_row WrittenOff p amount row is = record {
  owed = is.owed;
  paid = is.paid;
  waived = is.waived;
  written_off = length-set row.written_off p (get_or row.written_off p 0 + amount) ∙ is.written_off;
}

whole-owe_row : (p amount : ℕ) (row : Instalment) → IsWhole row → IsWhole (owe_row p amount row)
whole-owe_row p amount row is = record {
  owed = length-set row.owed p (get_or row.owed p 0 + amount) ∙ is.owed;
  paid = is.paid;
  waived = is.waived;
  written_off = is.written_off;
}

pub whole-with_settled : (rows : List Instalment) (parts : List Part) → AreWhole rows
    → AreWhole (with_settled rows parts)
whole-with_settled rows [] whole = whole
whole-with_settled rows (part ∷ parts) whole =
    whole-with_settled (settle rows part) parts
    (whole-changed rows part.cell.instalment (settle_row part.how (place_in_row part.cell.portion) part.amount)
    (whole-settle_row part.how (place_in_row part.cell.portion) part.amount) whole)

pub whole-with_charge : (kind : Kind) (entry : Entry) (rows : List Instalment) → AreWhole rows
    → AreWhole (with_charge kind entry rows)
whole-with_charge Fee entry rows whole =
    whole-changed rows entry.instalment (owe_row 1 entry.amount) (whole-owe_row 1 entry.amount) whole
whole-with_charge Penalty entry rows whole =
    whole-changed rows entry.instalment (owe_row 0 entry.amount) (whole-owe_row 0 entry.amount) whole
whole-with_charge Repay entry rows whole = whole
whole-with_charge Waive entry rows whole = whole
whole-with_charge WriteOff entry rows whole = whole
whole-with_charge Refund entry rows whole = whole

-- one sum raised, read at any place
pub read-plus_at : (sums : List ℕ) (p amount q : ℕ) → p < length sums → (get_or (plus_at sums p amount) q 0
    ≡ get_or sums q 0 + amount) × (q ≡ p) ⊎ (get_or (plus_at sums p amount) q 0 ≡ get_or sums q 0) × (q ≢ p)
read-plus_at sums p amount q within =
    elim (cases_eq q p) [
      | inl here ↦ inl (
        ap (λ x. get_or (plus_at sums p amount) x 0) here ∙ get_or-set_same sums p (get_or sums p 0
            + amount) 0 within ∙ ap (λ x. get_or sums x 0 + amount) (sym here),
        here,
      )
      | inr other ↦ inr (get_or-set_other sums p q (get_or sums p 0 + amount) 0 other, other)
    ]

within-settle_row : (how : How) (p amount : ℕ) (row : Instalment) → p < 4 → IsWhole row → IsRowWithin row
    → amount ≤ open_at row p → IsRowWithin (settle_row how p amount row)
within-settle_row Paid p amount row small is within most q less =
    let now = within q less in
    elim (read-plus_at row.paid p amount q (omega (arith, is.paid))) [
      | inl here ↦ let room : amount ≤ open_at row q =
          subst (λ (x : ℕ). amount ≤ open_at row x) (sym here.1) most in omega (arith, here.0, now, room)
      | inr other ↦ omega (arith, other.0, now)
    ]
within-settle_row Waived p amount row small is within most q less =
    let now = within q less in
    elim (read-plus_at row.waived p amount q (omega (arith, is.waived))) [
      | inl here ↦ let room : amount ≤ open_at row q =
          subst (λ (x : ℕ). amount ≤ open_at row x) (sym here.1) most in omega (arith, here.0, now, room)
      | inr other ↦ omega (arith, other.0, now)
    ]
within-settle_row WrittenOff p amount row small is within most q less =
    let now = within q less in
    elim (read-plus_at row.written_off p amount q (omega (arith, is.written_off))) [
      | inl here ↦ let room : amount ≤ open_at row q =
          subst (λ (x : ℕ). amount ≤ open_at row x) (sym here.1) most in omega (arith, here.0, now, room)
      | inr other ↦ omega (arith, other.0, now)
    ]

within-owe_row : (p amount : ℕ) (row : Instalment) → p < 4 → IsWhole row → IsRowWithin row
    → IsRowWithin (owe_row p amount row)
within-owe_row p amount row small is within q less =
    let now = within q less in
    elim (read-plus_at row.owed p amount q (omega (arith, is.owed))) [
      | inl here ↦ omega (arith, here.0, now)
      | inr other ↦ omega (arith, other.0, now)
    ]

pub within-with_settled : (rows : List Instalment) (parts : List Part) → AreWhole rows → AreWithin rows
    → IsSettleable rows parts → AreWithin (with_settled rows parts)
within-with_settled rows [] whole within fits = within
within-with_settled rows (part ∷ parts) whole within fits =
    let p : ℕ = place_in_row part.cell.portion in
    let i : ℕ = part.cell.instalment - 1 in
    let here : i < length rows = omega (arith, fits.0.first, fits.0.last) in
    let row : Instalment = row_at rows part.cell.instalment in
    within-with_settled (settle rows part) parts
    (whole-changed rows part.cell.instalment (settle_row part.how p part.amount)
    (whole-settle_row part.how p part.amount) whole)
    (All-set IsRowWithin rows i (settle_row part.how p part.amount row)
    (within-settle_row part.how p part.amount row (place_in_row-small part.cell.portion) (whole i no_row here)
    (within i no_row here) fits.1) within)
    fits.2

within-charged : (rows : List Instalment) (instalment p amount : ℕ) → p < 4 → AreWhole rows → AreWithin rows
    → AreWithin (rows_changed_at rows instalment (owe_row p amount))
within-charged rows instalment p amount small whole within =
    changed-keeps AreWithin rows instalment (owe_row p amount) within
    (λ here. All-set IsRowWithin rows (instalment - 1) (owe_row p amount (row_at rows instalment))
    (within-owe_row p amount (row_at rows instalment) small (whole (instalment - 1) no_row here)
    (within (instalment - 1) no_row here)) within)

pub within-with_charge : (kind : Kind) (entry : Entry) (rows : List Instalment) → AreWhole rows → AreWithin rows
    → AreWithin (with_charge kind entry rows)
within-with_charge Fee entry rows whole within =
    within-charged rows entry.instalment 1 entry.amount (omega arith) whole within
within-with_charge Penalty entry rows whole within =
    within-charged rows entry.instalment 0 entry.amount (omega arith) whole within
within-with_charge Repay entry rows whole within = within
within-with_charge Waive entry rows whole within = within
within-with_charge WriteOff entry rows whole within = within
within-with_charge Refund entry rows whole within = within

-- what can be settled after what can be settled
settleable-append : (rows : List Instalment) (xs ys : List Part) → IsSettleable rows xs
    → IsSettleable (with_settled rows xs)
    ys → IsSettleable rows (xs ++ ys)
settleable-append rows [] ys first then = then
settleable-append rows (part ∷ parts) ys first then =
    (first.0, first.1, settleable-append (settle rows part) parts ys first.2 then)

settleable-paid : (rows : List Instalment) (shares : List Share) → IsPayable rows shares
    → IsSettleable rows (map paid_part shares)
settleable-paid rows [] fits = tt
settleable-paid rows (share ∷ shares) fits = (fits.0, fits.1, settleable-paid (pay_into rows share) shares fits.2)

has_cell-there : (kind : Kind) (entry : Entry) (n m : ℕ) → m ≡ n → HasInstalment kind entry n → HasCell kind entry m
has_cell-there Waive entry n m same has = (has.0, omega (arith, same, has.1))
has_cell-there Repay entry n m same has = tt
has_cell-there Fee entry n m same has = tt
has_cell-there Penalty entry n m same has = tt
has_cell-there WriteOff entry n m same has = tt
has_cell-there Refund entry n m same has = tt

-- all that an entry settles can be settled
pub settleable-after : (n : ℕ) (order : ℕ → Cell) (place : Cell → ℕ) (entry : Entry) (before : State)
    → IsLine n order place before.rows → HasInstalment entry.kind entry n → IsSettleable (rows_charged entry before)
    (parts_of order entry before)
settleable-after n order place entry before line has =
    let charged : List Instalment = rows_charged entry before in
    let cleared : List Instalment = rows_cleared order entry before in
    let size_charged : length charged ≡ n = length-with_charge entry.kind entry before.rows ∙ line.size in
    let size_cleared : length cleared ≡ n = length-with_settled charged (parts_cleared order entry charged)
    ∙ size_charged in
    let there : IsOrder (length charged) order place =
    subst (λ (x : ℕ). IsOrder x order place) (sym size_charged) line.is in
    let then : IsOrder (length cleared) order place =
    subst (λ (x : ℕ). IsOrder x order place) (sym size_cleared) line.is in
    subst (IsSettleable charged) (sym (parts-once n order place entry before line))
    (settleable-append charged (parts_cleared order entry charged) (map paid_part (shares_at_once order entry before))
    (cleared_settleable entry.kind order place entry charged there (has_cell-there entry.kind entry n (length charged)
    size_charged has))
    (settleable-paid cleared (shares_at_once order entry before)
    (shares_payable order place cleared (money_to_pay entry before) then)))

-- what is owed in all of a portion: a charge raises it by its amount at most, and settling leaves it
abbrev pub owed_at : ℕ → Instalment → ℕ
owed_at q row = get_or row.owed q 0

pub sum-changed : (f : Instalment → ℕ) (rows : List Instalment) (instalment more : ℕ) (change : Instalment → Instalment)
    → ((row : Instalment)
    → f (change row) ≤ f row + more) → sum_by f (rows_changed_at rows instalment change) ≤ sum_by f rows + more
sum-changed f rows instalment more change grows =
    changed-keeps (λ x. sum_by f x ≤ sum_by f rows + more) rows instalment change (omega arith)
    (λ within.
    let at = sum_by-set f rows (instalment - 1) (change (row_at rows instalment)) no_row within in
    let one = grows (row_at rows instalment) in
    omega (arith, at, one))

owed-owe_row : (p amount q : ℕ) (row : Instalment) → owed_at q (owe_row p amount row) ≤ owed_at q row + amount
owed-owe_row p amount q row =
    elim (cases_lt p (length row.owed)) [
      | inl within ↦ elim (read-plus_at row.owed p amount q within) [
        | inl here ↦ omega (arith, here.0)
        | inr other ↦
            omega (arith, other.0)
      ]
      | inr past ↦ let same : get_or (plus_at row.owed p amount) q 0 ≡ get_or row.owed q 0 =
          ap (λ x. get_or x q 0) (set_past row.owed p (get_or row.owed p 0 + amount) past) in omega (arith, same)
    ]

owed-with_charge : (kind : Kind) (entry : Entry) (q : ℕ) (rows : List Instalment) → sum_by (owed_at q)
    (with_charge kind entry rows) ≤ sum_by (owed_at q) rows + entry.amount
owed-with_charge Fee entry q rows = sum-changed (owed_at q) rows entry.instalment entry.amount (owe_row 1 entry.amount)
    (owed-owe_row 1 entry.amount q)
owed-with_charge Penalty entry q rows =
    sum-changed (owed_at q) rows entry.instalment entry.amount (owe_row 0 entry.amount) (owed-owe_row 0 entry.amount q)
owed-with_charge Repay entry q rows = omega arith
owed-with_charge Waive entry q rows = omega arith
owed-with_charge WriteOff entry q rows = omega arith
owed-with_charge Refund entry q rows = omega arith

owed-settle_row : (how : How) (p amount q : ℕ) (row : Instalment) → owed_at q (settle_row how p amount row)
    ≤ owed_at q row
    + 0
owed-settle_row Paid p amount q row = omega arith
owed-settle_row Waived p amount q row = omega arith
owed-settle_row WrittenOff p amount q row = omega arith

owed-with_settled : (q : ℕ) (rows : List Instalment) (parts : List Part) → sum_by (owed_at q) (with_settled rows parts)
    ≤ sum_by (owed_at q) rows
owed-with_settled q rows [] = omega arith
owed-with_settled q rows (part ∷ parts) =
    let p : ℕ = place_in_row part.cell.portion in
    let rest = owed-with_settled q (settle rows part) parts in
    let one = sum-changed (owed_at q) rows part.cell.instalment 0 (settle_row part.how p part.amount)
    (owed-settle_row part.how p part.amount q) in
    omega (arith, rest, one)

pub money_in-most : (kind : Kind) (amount : ℕ) → money_in kind amount ≤ amount
money_in-most Repay amount = omega arith
money_in-most Fee amount = omega arith
money_in-most Penalty amount = omega arith
money_in-most Waive amount = omega arith
money_in-most WriteOff amount = omega arith
money_in-most Refund amount = omega arith

pub good-after : (n used : ℕ) (order : ℕ → Cell) (place : Cell → ℕ) (entry : Entry) (before : State)
    → IsOrder n order place → HasInstalment entry.kind entry n → IsBounded n used before
    → IsBounded n (used + entry.amount) (after_entry order entry before)
good-after n used order place entry before is has good =
    let line : IsLine n order place before.rows = record { size = good.size; is = is; whole = good.whole } in
    let charged : List Instalment = rows_charged entry before in
    let parts : List Part = parts_of order entry before in
    let rows : (after_entry order entry before).rows ≡ with_settled charged parts = rows-after order entry before in
    let whole_charged : AreWhole charged = whole-with_charge entry.kind entry before.rows good.whole in
    let within_charged : AreWithin charged = within-with_charge entry.kind entry before.rows good.whole good.within in
    let money = money-after order entry before in
    let given = refunded-after entry.kind order entry before in
    let out = money_out-le entry.kind before.overpaid in
    let brings = money_in-most entry.kind entry.amount in
    record {
      size = ap length rows ∙ length-with_settled charged parts ∙ length-with_charge entry.kind entry before.rows
          ∙ good.size;
      whole = subst AreWhole (sym rows) (whole-with_settled charged parts whole_charged);
      within = subst AreWithin (sym rows) (within-with_settled charged parts whole_charged within_charged
          (settleable-after n order place entry before line has));
      owed = λ q.
          let settled = owed-with_settled q charged parts in
          let charge = owed-with_charge entry.kind entry q before.rows in
          let now = good.owed q in
          subst (λ (x : List Instalment). sum_by (owed_at q) x ≤ used + entry.amount) (sym rows)
          (omega (arith, settled, charge, now));
      money = omega (arith, money, given, out, brings, good.money);
    }

-- a row's sum is at most that of all rows
owed-row : (q : ℕ) (rows : List Instalment) (i : ℕ) → i < length rows → get_or (get_or rows i no_row).owed q 0
    ≤ sum_by (owed_at q) rows
owed-row q [] i within = absurd (omega arith)
owed-row q (row ∷ rows) zero within = let all = sum_by-append (owed_at q) (row ∷ []) rows in omega (arith, all)
owed-row q (row ∷ rows) (suc i) within = let all = sum_by-append (owed_at q) (row ∷ []) rows in let rest =
    owed-row q rows i (omega arith) in omega (arith, all, rest)

has_row : (kind : Kind) (n used : ℕ) (entry : Entry) (before : State) → HasInstalment kind entry n
    → IsBounded n used before → used + entry.amount < 2 ^ 63 → HasRow kind entry before.rows
has_row Fee n used entry before has good room =
    let row = owed-row 1 before.rows (entry.instalment - 1) (omega (arith, has.0, has.1, good.size)) in
    let all = good.owed 1 in
    (has.0, omega (arith, has.1, good.size), omega (arith, row, all, room))
has_row Penalty n used entry before has good room =
    let row = owed-row 0 before.rows (entry.instalment - 1) (omega (arith, has.0, has.1, good.size)) in
    let all = good.owed 0 in
    (has.0, omega (arith, has.1, good.size), omega (arith, row, all, room))
has_row Waive n used entry before has good room = (has.0, omega (arith, has.1, good.size))
has_row Repay n used entry before has good room = tt
has_row WriteOff n used entry before has good room = tt
has_row Refund n used entry before has good room = tt

-- an entry that can be replayed on n instalments
pub record IsReplayable (n : ℕ) (entry : Entry) : Type 0 where
  pub most : entry.amount ≤ 10 ^ 12
  pub there : HasInstalment entry.kind entry n

abbrev pub amounts : List Entry → ℕ
amounts entries = sum_by (λ (e : Entry). e.amount) entries

amounts-cons : (entry : Entry) (entries : List Entry) → amounts (entry ∷ entries) ≡ entry.amount + amounts entries
amounts-cons entry entries = let all =
    sum_by-append (λ (e : Entry). e.amount) (entry ∷ []) entries in omega (arith, all)

-- so every entry can be applied in its turn
pub applicable-all : (n used : ℕ) (orders : Orders) (places : Entry → Cell → ℕ) (entries : List Entry) (before : State)
    → ((e : Entry) → IsOrder n (orders e) (places e)) → All (IsReplayable n) entries → IsBounded n used before
    → used + amounts entries < 2 ^ 63 → AreApplicable orders entries before
applicable-all n used orders places [] before is each good room = tt
applicable-all n used orders places (entry ∷ entries) before is each good room =
    let sum = amounts-cons entry entries in
    let one : IsReplayable n entry = All-head (IsReplayable n) entry entries each in
    let here : used + entry.amount < 2 ^ 63 = omega (arith, sum, room) in
    let next : IsBounded n (used + entry.amount) (after_entry (orders entry) entry before) =
    good-after n used (orders entry) (places entry) entry before (is entry) one.there good in (
      record {
        row = has_row entry.kind n used entry before one.there good here;
        money = omega (arith, good.money, here);
        refund = omega (arith, good.money, here);
        whole = good.whole;
      },
      applicable-all n (used + entry.amount) orders places entries (after_entry (orders entry) entry before) is
          (All-tail (IsReplayable n) entry entries each) next (omega (arith, sum, room)),
    )

pub good-all : (n used : ℕ) (orders : Orders) (places : Entry → Cell → ℕ) (entries : List Entry) (before : State)
    → ((e : Entry) → IsOrder n (orders e) (places e)) → All (IsReplayable n) entries → IsBounded n used before
    → IsBounded n (used + amounts entries) (after_entries orders entries before)
good-all n used orders places [] before is each good = subst (λ (x : ℕ). IsBounded n x before) (omega arith) good
good-all n used orders places (entry ∷ entries) before is each good =
    let sum = amounts-cons entry entries in
    let one : IsReplayable n entry = All-head (IsReplayable n) entry entries each in
    let next : IsBounded n (used + entry.amount) (after_entry (orders entry) entry before) =
    good-after n used (orders entry) (places entry) entry before (is entry) one.there good in
    let room : used + entry.amount + amounts entries ≡ used + amounts (entry ∷ entries) = omega (arith, sum) in
    subst (λ (x : ℕ). IsBounded n x (after_entries orders (entry ∷ entries) before)) room
    (good-all n (used + entry.amount) orders places entries (after_entry (orders entry) entry before) is
    (All-tail (IsReplayable n) entry entries each) next)

pub still-after : (n : ℕ) (order : ℕ → Cell) (place : Cell → ℕ) (entry : Entry) (before : State) → IsOrder n order place
    → HasInstalment entry.kind entry n → IsShaped n before → IsShaped n (after_entry order entry before)
still-after n order place entry before is has still =
    let line : IsLine n order place before.rows = record { size = still.size; is = is; whole = still.whole } in
    let charged : List Instalment = rows_charged entry before in
    let parts : List Part = parts_of order entry before in
    let rows : (after_entry order entry before).rows ≡ with_settled charged parts = rows-after order entry before in
    let whole_charged : AreWhole charged = whole-with_charge entry.kind entry before.rows still.whole in
    let within_charged : AreWithin charged = within-with_charge entry.kind entry before.rows still.whole still.within in
    record {
      size = ap length rows ∙ length-with_settled charged parts ∙ length-with_charge entry.kind entry before.rows
          ∙ still.size;
      whole = subst AreWhole (sym rows) (whole-with_settled charged parts whole_charged);
      within = subst AreWithin (sym rows) (within-with_settled charged parts whole_charged within_charged
          (settleable-after n order place entry before line has));
    }
