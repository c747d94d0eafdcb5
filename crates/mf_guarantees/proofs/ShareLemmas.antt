-- No entry settles more than its amount.
use Rattle.std.proofs.Common.{◌≡◌, ◌≤◌, ◌<◌, ◌+◌, ◌-◌, ◌*◌, ◌^◌, ℕ, zero, suc, Bool, true, false, cond, List, [], ◌∷◌}
use Rattle.std.proofs.Common.{◌++◌, length, map, get_or, sum, Some, refl, ap, ◌∙◌, subst, arith, inl, inr}
use Rattle.std.specs.Prelude.{◌==◌, All, filter, fold, slice_get, sum_by}
use Rattle.std.specs.List.{AllByRecursion, range_with_len}
use Rattle.std.proofs.lemmas.Bool.{cases_lt, cond_both, eqb-true}
use Rattle.std.proofs.lemmas.List.Elements.{All-cons, All-from_recursion, All-head, All-nil, All-tail, filter-append}
use Rattle.std.proofs.lemmas.List.Elements.{recursion_from_All}
use Rattle.std.proofs.lemmas.List.Sums.{sum_by-append, sum_by-cons, sum_by-set}
use Rattle.mf_catalog.specs.declared.terms.StrategyName.{StrategyName}
use Rattle.mf_alloc.specs.declared.row.Cell.{Cell}
use Rattle.mf_alloc.specs.declared.row.Share.{Share}
use Rattle.mf_alloc.specs.Sums.{Instalment, IsWhole, AreWhole, open_at}
use Rattle.mf_alloc.specs.Order.{cell_by, place_by}
use Rattle.mf_alloc.specs.OrderLaws.{IsOrder}
use Rattle.mf_alloc.specs.Payment.{amount_of_shares}
use Rattle.mf_alloc.specs.Rows.{no_row, row_at, place_in_row}
use Rattle.mf_alloc.proofs.LeftOpen.{IsLine, place_in_row-small}
use Rattle.mf_account.specs.declared.entry.Entry.{Entry}
use Rattle.mf_account.specs.declared.entry.Kind.{Kind}
use Rattle.mf_account.specs.declared.entry.Kind.TheVariants.{Repay, Fee, Penalty, Waive, WriteOff, Refund}
use Rattle.mf_account.specs.declared.settled.How.{How}
use Rattle.mf_account.specs.declared.settled.How.TheVariants.{Paid, Waived, WrittenOff}
use Rattle.mf_account.specs.declared.settled.SettledPart.{SettledPart}
use Rattle.mf_account.specs.Account.{Orders, first_state, parts_numbered, settled_by, share_of}
use Rattle.mf_account.specs.Account.{sum_at}
use Rattle.mf_account.specs.Applicable.{HasInstalment, IsSettleable}
use Rattle.mf_account.specs.AtOnce.{rows_charged}
use Rattle.mf_account.specs.Effect.{State, Part, after_entry, settle, settle_row, owe_row, with_settled, with_charge}
use Rattle.mf_account.specs.Effect.{paid_at, parts_by, parts_cleared, parts_paid, parts_of, some_parts}
use Rattle.mf_account.specs.Effect.{own_share, later_share, is_some_part}
use Rattle.mf_account.specs.Kinds.{money_in}
use Rattle.mf_account.specs.Loan.{DisbursedLoan, IsSoundDisbursed, orders_of, schedule_of, settled_of_loan}
use Rattle.mf_account.specs.Loan.{state_of_loan}
use Rattle.mf_account.specs.Safe.{IsBounded}
use Rattle.mf_account.specs.Standing.{is_before, order_with, standing_entries, with_entry}
use Rattle.mf_account.specs.Told.{settled_amount}
use Rattle.mf_account.specs.Undo.{paid_by, paid_in}
use Rattle.mf_account.proofs.ConserveLemmas.{IsClosed, balanced, closed-all, none-open, sum-four, sum-plus_at, sum-same}
use Rattle.mf_account.proofs.ConserveLemmas.{whole-settled}
use Rattle.mf_account.proofs.GoodLemmas.{IsReplayable, good-after, settleable-after, whole-with_charge}
use Rattle.mf_account.proofs.OnceLemmas.{money-after, rows-after}
use Rattle.mf_account.proofs.SoundLemmas.{All-standing, due_at, due_at-le, each-standing, first-good, lawful}
use Rattle.mf_statement.specs.declared.lines.EntryLine.{EntryLine}
use Rattle.mf_statement.specs.Lines.{amount_told, cleared_by, cleared_by_part, cleared_in, entries_of, entry_line}
use Rattle.mf_guarantees.specs.Shares.{SettlesAtMostItsAmount}
use Rattle.mf_guarantees.proofs.LoanSteps.{some_same}
use Rattle.mf_guarantees.proofs.ReorderLemmas.{Numbered, numbered_from}
use Rattle.mf_guarantees.proofs.SourceLemmas.{charge_at, entered}

-- ---- what parts come to

abbrev parts_amount : List Part → ℕ
parts_amount parts = sum_by (λ (part : Part). part.amount) parts

-- what of parts is waived or written off
abbrev parts_clear : List Part → ℕ
parts_clear parts = sum_by (λ (part : Part). cleared_by part.how part.amount) parts

one_way : (how : How) (amount : ℕ) → amount ≡ paid_by how amount + cleared_by how amount
one_way Paid amount = omega arith
one_way Waived amount = omega arith
one_way WrittenOff amount = omega arith

paid_or_cleared : (parts : List Part) → parts_amount parts ≡ paid_in parts + parts_clear parts
paid_or_cleared [] = refl
paid_or_cleared (part ∷ parts) =
    let rest = paid_or_cleared parts in
    let own = one_way part.how part.amount in
    let all = sum_by-cons (λ (p : Part). p.amount) part parts in
    let paid = sum_by-cons (λ (p : Part). paid_by p.how p.amount) part parts in
    let cleared = sum_by-cons (λ (p : Part). cleared_by p.how p.amount) part parts in
    omega (arith, rest, own, all, paid, cleared)

-- ---- what is settled in rows

abbrev row_settled : Instalment → ℕ
row_settled row = sum row.paid + sum row.waived + sum row.written_off

abbrev total_settled : List Instalment → ℕ
total_settled rows = sum_by row_settled rows

settled_in_row : (how : How) (p amount : ℕ) (row : Instalment) → p < 4 → IsWhole row
    → row_settled (settle_row how p amount row) ≡ row_settled row + amount
settled_in_row Paid p amount row small is =
    let more = sum-plus_at row.paid p amount (omega (arith, small, is.paid)) in omega (arith, more)
settled_in_row Waived p amount row small is =
    let more = sum-plus_at row.waived p amount (omega (arith, small, is.waived)) in omega (arith, more)
settled_in_row WrittenOff p amount row small is =
    let more = sum-plus_at row.written_off p amount (omega (arith, small, is.written_off)) in omega (arith, more)

settled_in_rows : (rows : List Instalment) (parts : List Part) → AreWhole rows → IsSettleable rows parts
    → total_settled (with_settled rows parts) ≡ total_settled rows + parts_amount parts
settled_in_rows rows [] whole fits = omega arith
settled_in_rows rows (part ∷ parts) whole fits =
    let i : ℕ = part.cell.instalment - 1 in
    let p : ℕ = place_in_row part.cell.portion in
    let row : Instalment = row_at rows part.cell.instalment in
    let here : i < length rows = omega (arith, fits.0.first, fits.0.last) in
    let one = sum_by-set row_settled rows i (settle_row part.how p part.amount row) no_row here in
    let own = settled_in_row part.how p part.amount row (place_in_row-small part.cell.portion) (whole i no_row here) in
    let rest = settled_in_rows (settle rows part) parts (whole-settled rows part whole) fits.2 in
    let all = sum_by-cons (λ (x : Part). x.amount) part parts in
    omega (arith, one, own, rest, all)

settled_by_charge : (kind : Kind) (entry : Entry) (rows : List Instalment)
    → total_settled (with_charge kind entry rows) ≡ total_settled rows
settled_by_charge Fee entry rows = sum-same row_settled rows entry.instalment (owe_row 1 entry.amount) (λ row. refl)
settled_by_charge Penalty entry rows = sum-same row_settled rows entry.instalment (owe_row 0 entry.amount) (λ row. refl)
settled_by_charge Repay entry rows = refl
settled_by_charge Waive entry rows = refl
settled_by_charge WriteOff entry rows = refl
settled_by_charge Refund entry rows = refl

settled_more : (n used : ℕ) (order : ℕ → Cell) (place : Cell → ℕ) (entry : Entry) (before : State)
    → IsOrder n order place → HasInstalment entry.kind entry n → IsBounded n used before
    → total_settled (after_entry order entry before).rows
    ≡ total_settled before.rows + parts_amount (parts_of order entry before)
settled_more n used order place entry before is has good =
    let line : IsLine n order place before.rows = record { size = good.size; is = is; whole = good.whole } in
    let charged : List Instalment = rows_charged entry before in
    let rows = ap total_settled (rows-after order entry before) in
    let settled = settled_in_rows charged (parts_of order entry before)
    (whole-with_charge entry.kind entry before.rows good.whole)
    (settleable-after n order place entry before line has) in
    let charge = settled_by_charge entry.kind entry before.rows in
    omega (arith, rows, settled, charge)

-- what is settled of a portion
abbrev settled_at : ℕ → List Instalment → ℕ
settled_at p rows = sum_at (λ r. r.paid) p rows + sum_at (λ r. r.waived) p rows + sum_at (λ r. r.written_off) p rows

abbrev row_settled_at : ℕ → Instalment → ℕ
row_settled_at p row = get_or row.paid p 0 + get_or row.waived p 0 + get_or row.written_off p 0

settled_at-cons : (p : ℕ) (row : Instalment) (rows : List Instalment)
    → settled_at p (row ∷ rows) ≡ row_settled_at p row + settled_at p rows
settled_at-cons p row rows =
    let paid = sum_by-cons (λ (r : Instalment). get_or r.paid p 0) row rows in
    let waived = sum_by-cons (λ (r : Instalment). get_or r.waived p 0) row rows in
    let written_off = sum_by-cons (λ (r : Instalment). get_or r.written_off p 0) row rows in
    omega (arith, paid, waived, written_off)

by_portions : (rows : List Instalment) → AreWhole rows
    → total_settled rows ≡ settled_at 0 rows + settled_at 1 rows + settled_at 2 rows + settled_at 3 rows
by_portions [] whole = refl
by_portions (row ∷ rows) whole =
    let is : IsWhole row = All-head IsWhole row rows whole in
    let paid = sum-four row.paid is.paid in
    let waived = sum-four row.waived is.waived in
    let written_off = sum-four row.written_off is.written_off in
    let rest = by_portions rows (All-tail IsWhole row rows whole) in
    let all = sum_by-cons row_settled row rows in
    let a = settled_at-cons 0 row rows in
    let b = settled_at-cons 1 row rows in
    let c = settled_at-cons 2 row rows in
    let d = settled_at-cons 3 row rows in
    omega (arith, paid, waived, written_off, rest, all, a, b, c, d)

abbrev open_in : ℕ → List Instalment → ℕ
open_in p rows = sum_by (λ (r : Instalment). open_at r p) rows

abbrev owed_in : ℕ → List Instalment → ℕ
owed_in p rows = sum_at (λ r. r.owed) p rows

-- what is settled and what is outstanding is what is owed
abbrev four : (ℕ → List Instalment → ℕ) → List Instalment → ℕ
four of rows = of 0 rows + of 1 rows + of 2 rows + of 3 rows

settled_and_open : (n used : ℕ) (s : State) → IsBounded n used s
    → total_settled s.rows + four open_in s.rows ≡ four owed_in s.rows
settled_and_open n used s good =
    let all = by_portions s.rows good.whole in
    let a = balanced 0 s.rows (omega arith) good.within in
    let b = balanced 1 s.rows (omega arith) good.within in
    let c = balanced 2 s.rows (omega arith) good.within in
    let d = balanced 3 s.rows (omega arith) good.within in
    omega (arith, all, a, b, c, d)

nothing_open : (s : State) → IsClosed s → 0 < s.overpaid → four open_in s.rows ≡ 0
nothing_open s closed some =
    let none : (p : ℕ) → p < 4 → open_in p s.rows ≡ 0 =
    λ p small. none-open p s.rows (λ i within. closed some i p within small) in
    let a = none 0 (omega arith) in
    let b = none 1 (omega arith) in
    let c = none 2 (omega arith) in
    let d = none 3 (omega arith) in
    omega (arith, a, b, c, d)

-- ---- one entry

-- the amount of an entry, where it has one that it can settle
abbrev own : Kind → ℕ → ℕ
own Repay amount = amount
own Fee amount = amount
own Penalty amount = amount
own Waive amount = 0
own WriteOff amount = 0
own Refund amount = 0

own_money : (kind : Kind) (amount : ℕ) → money_in kind amount ≤ own kind amount
own_money Repay amount = omega arith
own_money Fee amount = omega arith
own_money Penalty amount = omega arith
own_money Waive amount = omega arith
own_money WriteOff amount = omega arith
own_money Refund amount = omega arith

own_charge : (kind : Kind) (amount : ℕ)
    → charge_at 0 kind amount + charge_at 1 kind amount + charge_at 2 kind amount + charge_at 3 kind amount
    ≤ own kind amount
own_charge Repay amount = omega arith
own_charge Fee amount = omega arith
own_charge Penalty amount = omega arith
own_charge Waive amount = omega arith
own_charge WriteOff amount = omega arith
own_charge Refund amount = omega arith

-- what an entry settles is at most what it clears and its own amount
at_most_own : (n used : ℕ) (order : ℕ → Cell) (place : Cell → ℕ) (entry : Entry) (before : State)
    → IsOrder n order place → HasInstalment entry.kind entry n → IsBounded n used before → IsClosed before
    → parts_amount (parts_of order entry before)
    ≤ parts_clear (parts_of order entry before) + own entry.kind entry.amount
at_most_own n used order place entry before is has good closed = elim (cases_lt 0 before.overpaid) [
  | inl some ↦
      let none = nothing_open before closed some in
      let was = settled_and_open n used before good in
      let now = settled_and_open n (used + entry.amount) (after_entry order entry before)
      (good-after n used order place entry before is has good) in
      let more = settled_more n used order place entry before is has good in
      let a = entered 0 n used order entry before has good in
      let b = entered 1 n used order entry before has good in
      let c = entered 2 n used order entry before has good in
      let d = entered 3 n used order entry before has good in
      let charge = own_charge entry.kind entry.amount in
      omega (arith, none, was, now, more, a, b, c, d, charge)
  | inr nothing ↦
      let all = paid_or_cleared (parts_of order entry before) in
      let money = money-after order entry before in
      let brought = own_money entry.kind entry.amount in
      omega (arith, nothing, all, money, brought)
]

-- ---- the parts of one number

abbrev is_of : ℕ → SettledPart → Bool
is_of s p = p.seq == s

-- what is weighed of the parts of an entry
weighed : (w : How → ℕ → ℕ) (seq place s : ℕ) (parts : List Part)
    → sum_by (λ (x : SettledPart). w x.how x.amount) (filter (is_of s) (parts_numbered seq place parts))
    ≡ cond (seq == s) (sum_by (λ (p : Part). w p.how p.amount) parts) 0
weighed w seq place s [] = go (seq == s) 0
  where
    go : (b : Bool) (n : ℕ) → n ≡ cond b n n
    go true n = refl
    go false n = refl
weighed w seq place s (part ∷ parts) = go (seq == s) (weighed w seq (place + 1) s parts)
  where
    x : SettledPart
    x = record { seq = seq; place = place; cell = part.cell; how = part.how; amount = part.amount }

    others : List SettledPart
    others = filter (is_of s) (parts_numbered seq (place + 1) parts)

    go : (b : Bool)
        → sum_by (λ (y : SettledPart). w y.how y.amount) others
        ≡ cond b (sum_by (λ (p : Part). w p.how p.amount) parts) 0
        → sum_by (λ (y : SettledPart). w y.how y.amount) (cond b (x ∷ others) others)
        ≡ cond b (sum_by (λ (p : Part). w p.how p.amount) (part ∷ parts)) 0
    go true rest =
        let left = sum_by-cons (λ (y : SettledPart). w y.how y.amount) x others in
        let right = sum_by-cons (λ (p : Part). w p.how p.amount) part parts in
        omega (arith, rest, left, right)
    go false rest = rest

abbrev all_of : ℕ → List SettledPart → ℕ
all_of s settled = settled_amount (filter (is_of s) settled)

abbrev if_of : ℕ → Entry → ℕ
if_of s e = cond (e.seq == s) (own e.kind e.amount) 0

either_way : (b : Bool) (all cleared amount : ℕ) → all ≤ cleared + amount
    → cond b all 0 ≤ cond b cleared 0 + cond b amount 0
either_way true all cleared amount most = most
either_way false all cleared amount most = omega arith

of_both : (s : ℕ) (xs ys : List SettledPart)
    → (all_of s (xs ++ ys) ≡ all_of s xs + all_of s ys) × (cleared_in s (xs ++ ys) ≡ cleared_in s xs + cleared_in s ys)
of_both s xs ys = (
  ap settled_amount (filter-append (is_of s) xs ys)
      ∙ sum_by-append (λ (x : SettledPart). x.amount) (filter (is_of s) xs) (filter (is_of s) ys),
  ap (sum_by cleared_by_part) (filter-append (is_of s) xs ys)
      ∙ sum_by-append cleared_by_part (filter (is_of s) xs) (filter (is_of s) ys),
)

module _ (n : ℕ) (name : StrategyName) (dues : Entry → ℕ) (few : (e : Entry) → dues e ≤ n) where
  abbrev orders : Orders
  orders e = cell_by name (dues e)

  at_most_all : (used s : ℕ) (entries : List Entry) (before : State) → All (IsReplayable n) entries
      → IsBounded n used before → IsClosed before
      → all_of s (settled_by orders entries before)
      ≤ cleared_in s (settled_by orders entries before) + sum_by (if_of s) entries
  at_most_all used s [] before each good closed = omega arith
  at_most_all used s (e ∷ es) before each good closed =
      let one : IsReplayable n e = All-head (IsReplayable n) e es each in
      let order : ℕ → Cell = orders e in
      let place : Cell → ℕ = place_by name (dues e) in
      let is : IsOrder n order place = lawful name n (dues e) (few e) in
      let next : State = after_entry order e before in
      let parts : List Part = parts_of order e before in
      let later : List SettledPart = settled_by orders es next in
      let here = either_way (e.seq == s) (parts_amount parts) (parts_clear parts) (own e.kind e.amount)
      (at_most_own n used order place e before is one.there good closed) in
      let amount = weighed (λ how amount. amount) e.seq 1 s parts in
      let clear = weighed cleared_by e.seq 1 s parts in
      let still : IsClosed next = closed-all n used name dues (e ∷ []) before few each_one
      good closed in
      let rest = at_most_all (used + e.amount) s es next (All-tail (IsReplayable n) e es each)
      (good-after n used order place e before is one.there good) still in
      let both = of_both s (parts_numbered e.seq 1 parts) later in
      let whole = both.0 in
      let cleared = both.1 in
      let sum = sum_by-cons (if_of s) e es in
      omega (arith, here, amount, clear, rest, whole, cleared, sum)
    where
      each_one : All (IsReplayable n) (e ∷ [])
      each_one = All-cons (IsReplayable n) e [] (All-head (IsReplayable n) e es each) (All-nil (IsReplayable n))

-- ---- what clears nothing

abbrev clears : Kind → Bool
clears Waive = true
clears WriteOff = true
clears Repay = false
clears Fee = false
clears Penalty = false
clears Refund = false

paid_clears : (order : ℕ → Cell) (amounts : ℕ → ℕ) (places : List ℕ)
    → parts_clear (some_parts (map (paid_at order amounts) places)) ≡ 0
paid_clears order amounts [] = refl
paid_clears order amounts (k ∷ places) =
    let part : Part = paid_at order amounts k in
    let others : List Part = some_parts (map (paid_at order amounts) places) in
    let rest = paid_clears order amounts places in
    let all = sum_by-cons (λ (p : Part). cleared_by p.how p.amount) part others in
    cond_both (is_some_part part) (part ∷ others) others (λ ps. parts_clear ps ≡ 0)
    (λ _. omega (arith, rest, all)) (λ _. rest)

kind_clears : (kind : Kind) (order : ℕ → Cell) (e : Entry) (rows : List Instalment) → clears kind ≡ false
    → parts_clear (parts_by kind order e rows) ≡ 0
kind_clears Repay order e rows none = refl
kind_clears Fee order e rows none = refl
kind_clears Penalty order e rows none = refl
kind_clears Refund order e rows none = refl
kind_clears Waive order e rows none = absurd (cc)
kind_clears WriteOff order e rows none = absurd (cc)

entry_clears : (order : ℕ → Cell) (e : Entry) (before : State) → clears e.kind ≡ false
    → parts_clear (parts_of order e before) ≡ 0
entry_clears order e before none =
    let first = kind_clears e.kind order e before.rows none in
    let second = paid_clears order
    (λ k. own_share e.kind order e before k + later_share order e before k)
    (range_with_len 0 (4 * length before.rows)) in
    let all = sum_by-append (λ (p : Part). cleared_by p.how p.amount) (parts_cleared order e before.rows)
    (parts_paid order e before) in
    omega (arith, first, second, all)

-- an entry of this number clears nothing
abbrev ClearsNone : ℕ → Entry → Type 0
ClearsNone s e = e.seq ≡ s → clears e.kind ≡ false

number_clears : (orders : Orders) (s : ℕ) (entries : List Entry) (before : State)
    → AllByRecursion (ClearsNone s) entries → cleared_in s (settled_by orders entries before) ≡ 0
number_clears orders s [] before each = refl
number_clears orders s (e ∷ es) before each =
    let parts : List Part = parts_of (orders e) e before in
    let clear = weighed cleared_by e.seq 1 s parts in
    let here : cond (e.seq == s) (parts_clear parts) 0 ≡ 0 =
    go (e.seq == s) refl (λ is. entry_clears (orders e) e before (each.0 is)) in
    let rest = number_clears orders s es (after_entry (orders e) e before) each.1 in
    let both = of_both s (parts_numbered e.seq 1 parts) (settled_by orders es (after_entry (orders e) e before)) in
    let cleared = both.1 in
    omega (arith, clear, here, rest, cleared)
  where
    go : (b : Bool) → (e.seq == s) ≡ b
        → (e.seq ≡ s → parts_clear (parts_of (orders e) e before) ≡ 0)
        → cond b (parts_clear (parts_of (orders e) e before)) 0 ≡ 0
    go true is none = none (eqb-true e.seq s is)
    go false is none = refl

-- ---- the entry of a number

sum_placed : (f : Entry → ℕ) (e : Entry) (xs : List Entry) → sum_by f (order_with e xs) ≡ f e + sum_by f xs
sum_placed f e [] = sum_by-cons f e []
sum_placed f e (x ∷ xs) =
    let first = sum_by-cons f x xs in
    let later = sum_by-cons f x (order_with e xs) in
    let rest = sum_placed f e xs in
    cond_both (is_before e x) (e ∷ x ∷ xs) (x ∷ order_with e xs) (λ ys. sum_by f ys ≡ f e + sum_by f (x ∷ xs))
    (λ _. sum_by-cons f e (x ∷ xs)) (λ _. omega (arith, first, later, rest))

sum_standing : (f : Entry → ℕ) (order es : List Entry)
    → sum_by f (fold with_entry order es) ≤ sum_by f order + sum_by f es
sum_standing f order [] = omega arith
sum_standing f order (e ∷ es) =
    let one : sum_by f (with_entry order e) ≤ sum_by f order + f e =
    let more = sum_placed f e order in
    cond_both e.reversed order (order_with e order) (λ ys. sum_by f ys ≤ sum_by f order + f e)
    (λ _. omega arith) (λ _. omega (arith, more)) in
    let rest = sum_standing f (with_entry order e) es in
    let all = sum_by-cons f e es in
    omega (arith, one, rest, all)

apart_zero : (e : Entry) (s : ℕ) → (e.seq ≡ s → ⊥) → if_of s e ≡ 0
apart_zero e s apart = go (e.seq == s) refl
  where
    go : (b : Bool) → (e.seq == s) ≡ b → cond b (own e.kind e.amount) 0 ≡ 0
    go true is = absurd (apart (eqb-true e.seq s is))
    go false is = refl

at_most_one : (b : Bool) (amount : ℕ) → cond b amount 0 ≤ amount
at_most_one true amount = omega arith
at_most_one false amount = omega arith

sum_none : (k s : ℕ) (es : List Entry) → s < k → Numbered k es → sum_by (if_of s) es ≡ 0
sum_none k s [] less numbers = refl
sum_none k s (x ∷ xs) less numbers =
    let number = numbers.0 in
    let here = apart_zero x s (λ is. omega (arith, is, number, less)) in
    let rest = sum_none (k + 1) s xs (omega (arith, less)) numbers.1 in
    let all = sum_by-cons (if_of s) x xs in
    omega (arith, here, rest, all)

number_at : (k : ℕ) (es : List Entry) (place : ℕ) (e : Entry) → Numbered k es → slice_get es place ≡ Some e
    → e.seq ≡ k + place
number_at k [] place e numbers h = absurd (cc)
number_at k (x ∷ xs) zero e numbers h =
    let same : x ≡ e = cc in
    let number = numbers.0 in
    let own = ap (λ (y : Entry). y.seq) same in
    omega (arith, number, own)
number_at k (x ∷ xs) (suc place) e numbers h =
    let rest = number_at (k + 1) xs place e numbers.1 h in omega (arith, rest)

sum_one : (k : ℕ) (es : List Entry) (place : ℕ) (e : Entry) → Numbered k es → slice_get es place ≡ Some e
    → sum_by (if_of e.seq) es ≤ own e.kind e.amount
sum_one k [] place e numbers h = absurd (cc)
sum_one k (x ∷ xs) zero e numbers h =
    let same : x ≡ e = cc in
    let number = number_at k (x ∷ xs) zero e numbers h in
    let rest = sum_none (k + 1) e.seq xs (omega (arith, number)) numbers.1 in
    let all = sum_by-cons (if_of e.seq) x xs in
    let here = at_most_one (x.seq == e.seq) (own x.kind x.amount) in
    let amount = ap (λ (y : Entry). own y.kind y.amount) same in
    omega (arith, rest, all, here, amount)
sum_one k (x ∷ xs) (suc place) e numbers h =
    let number = number_at k (x ∷ xs) (suc place) e numbers h in
    let first = numbers.0 in
    let here = apart_zero x e.seq (λ is. omega (arith, is, number, first)) in
    let rest = sum_one (k + 1) xs place e numbers.1 h in
    let all = sum_by-cons (if_of e.seq) x xs in
    omega (arith, here, rest, all)

-- the other entries have other numbers
others_clear : (k s : ℕ) (es : List Entry) → s < k → Numbered k es → AllByRecursion (ClearsNone s) es
others_clear k s [] less numbers = tt
others_clear k s (x ∷ xs) less numbers = (
  λ is. let number = numbers.0 in absurd (omega (arith, is, number, less)),
  others_clear (k + 1) s xs (omega (arith, less)) numbers.1,
)

all_clear : (k : ℕ) (es : List Entry) (place : ℕ) (e : Entry) → Numbered k es → slice_get es place ≡ Some e
    → clears e.kind ≡ false → AllByRecursion (ClearsNone e.seq) es
all_clear k [] place e numbers h none = absurd (cc)
all_clear k (x ∷ xs) zero e numbers h none =
    let same : x ≡ e = cc in
    let number = number_at k (x ∷ xs) zero e numbers h in (
      λ is. ap (λ (y : Entry). clears y.kind) same ∙ none,
      others_clear (k + 1) e.seq xs (omega (arith, number)) numbers.1,
    )
all_clear k (x ∷ xs) (suc place) e numbers h none =
    let number = number_at k (x ∷ xs) (suc place) e numbers h in
    let first = numbers.0 in
    (λ is. absurd (omega (arith, is, number, first)), all_clear (k + 1) xs place e numbers.1 h none)

-- ---- the lines of an account

as_shares : (xs : List SettledPart) → amount_of_shares (map share_of xs) ≡ settled_amount xs
as_shares [] = refl
as_shares (x ∷ xs) =
    let rest = as_shares xs in
    let left = sum_by-cons (λ (share : Share). share.amount) (share_of x) (map share_of xs) in
    let right = sum_by-cons (λ (y : SettledPart). y.amount) x xs in
    omega (arith, rest, left, right)

as_told : (kind : Kind) (e : Entry) (all cleared refunded : ℕ) → all ≤ cleared + own kind e.amount
    → (clears kind ≡ false → cleared ≡ 0) → all ≤ amount_told kind e cleared refunded
as_told Repay e all cleared refunded most none = let nothing = none refl in omega (arith, most, nothing)
as_told Fee e all cleared refunded most none = let nothing = none refl in omega (arith, most, nothing)
as_told Penalty e all cleared refunded most none = let nothing = none refl in omega (arith, most, nothing)
as_told Waive e all cleared refunded most none = omega (arith, most)
as_told WriteOff e all cleared refunded most none = omega (arith, most)
as_told Refund e all cleared refunded most none = let nothing = none refl in omega (arith, most, nothing)

entry_within : (a : DisbursedLoan) (place : ℕ) (e : Entry) → IsSoundDisbursed a → slice_get a.entries place ≡ Some e
    → SettlesAtMostItsAmount (entry_line a e)
entry_within a place e sound there =
    let settled : List SettledPart = settled_of_loan a in
    let numbers : Numbered 1 a.entries = numbered_from 1 a.entries
    (λ i within. let number = sound.entries.numbers i within in omega (arith, number)) in
    let shares = as_shares (filter (is_of e.seq) settled) in
    let most = at_most_all a.periods a.terms.strategy (due_at a) (due_at-le a) (2 ^ 54) e.seq
    (standing_entries a.entries) (first_state (schedule_of a)) (each-standing a sound) (first-good a sound)
    (λ some. absurd (omega (arith, some))) in
    let standing = sum_standing (if_of e.seq) [] a.entries in
    let one = sum_one 1 a.entries place e numbers there in
    let none : clears e.kind ≡ false → cleared_in e.seq settled ≡ 0 = λ no.
    number_clears (orders_of a) e.seq (standing_entries a.entries) (first_state (schedule_of a))
    (recursion_from_All (ClearsNone e.seq) (standing_entries a.entries) (All-standing (ClearsNone e.seq) a.entries
    (All-from_recursion (ClearsNone e.seq) a.entries (all_clear 1 a.entries place e numbers there no)))) in
    let told = as_told e.kind e (all_of e.seq settled) (cleared_in e.seq settled) (state_of_loan a).refunded
    (omega (arith, most, standing, one)) none in
    omega (arith, shares, told)

-- a line of the entries is that of the entry at its place
line_at : (a : DisbursedLoan) (es : List Entry) (place : ℕ) (line : EntryLine)
    → slice_get (map (entry_line a) es) place ≡ Some line
    → (e : Entry) × (slice_get es place ≡ Some e) × (entry_line a e ≡ line)
line_at a [] place line h = absurd (cc)
line_at a (x ∷ xs) zero line h = (x, refl, some_same (entry_line a x) line h)
line_at a (x ∷ xs) (suc place) line h = line_at a xs place line h

pub line_within : (a : DisbursedLoan) (place : ℕ) (line : EntryLine) → IsSoundDisbursed a
    → slice_get (entries_of a) place ≡ Some line → SettlesAtMostItsAmount line
line_within a place line sound there =
    let is = line_at a a.entries place line there in
    subst SettlesAtMostItsAmount is.2 (entry_within a place is.0 sound is.1)
