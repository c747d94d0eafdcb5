-- What holds of every account's rows and parts, so that they can be told.
use Rattle.std.proofs.Common.{◌≡◌, ℕ, zero, suc, ◌+◌, ◌-◌, ◌^◌, ◌<◌, ◌≤◌, List, [], ◌∷◌, length, map, get_or, sum}
use Rattle.std.proofs.Common.{arith, refl, ap, ◌∙◌}
use Rattle.std.specs.Prelude.{sum_by, All}
use Rattle.std.proofs.lemmas.List.Elements.{All-nil, All-cons, All-head, All-tail, All-append}
use Rattle.std.proofs.lemmas.List.{get_or_default}
use Rattle.std.proofs.lemmas.List.Sums.{sum_by-append, sum_by-set}
use Rattle.mf_schedule.specs.declared.instalment.FreshInstalment.{FreshInstalment}
use Rattle.mf_alloc.specs.declared.row.Cell.{Cell}
use Rattle.mf_alloc.specs.Sums.{Instalment, IsWhole, AreWhole, IsRowWithin, AreWithin, open_at}
use Rattle.mf_alloc.specs.Rows.{no_row, row_at, place_in_row}
use Rattle.mf_alloc.specs.OrderLaws.{IsOrder}
use Rattle.mf_alloc.proofs.LeftOpen.{IsLine, place_in_row-small}
use Rattle.mf_account.specs.declared.entry.Entry.{Entry}
use Rattle.mf_account.specs.declared.entry.Kind.{Kind}
use Rattle.mf_account.specs.declared.entry.Kind.TheVariants.{Repay, Fee, Penalty, Waive, WriteOff, Refund}
use Rattle.mf_account.specs.declared.settled.How.{How}
use Rattle.mf_account.specs.declared.settled.How.TheVariants.{Paid, Waived, WrittenOff}
use Rattle.mf_account.specs.declared.settled.SettledPart.{SettledPart}
use Rattle.mf_account.specs.Effect.{State, Part, after_entry, settle, settle_row, owe_row, with_settled, with_charge}
use Rattle.mf_account.specs.Effect.{parts_of}
use Rattle.mf_account.specs.AtOnce.{rows_charged}
use Rattle.mf_account.specs.Account.{Orders, after_entries, parts_numbered, settled_by, first_state, row_of, sum_at}
use Rattle.mf_account.specs.Standing.{standing_entries, no_entry, entry_at}
use Rattle.mf_account.specs.Applicable.{HasInstalment, IsSettleable, AreInRows}
use Rattle.mf_account.specs.Loan.{DisbursedLoan, IsSoundDisbursed, schedule_of, orders_of, cell_places_of}
use Rattle.mf_account.specs.Loan.{state_of_loan, settled_of_loan}
use Rattle.mf_account.specs.Told.{settled_amount, IsNumberedTo, AreNumberedTo, AreRowsSmall}
use Rattle.mf_account.proofs.OnceLemmas.{rows-after}
use Rattle.mf_account.specs.Safe.{most_kept, IsBounded, IsSafe}
use Rattle.mf_account.proofs.GoodLemmas.{IsReplayable, settleable-after, good-after, whole-with_charge}
use Rattle.mf_account.proofs.RewindLemmas.{cells-settled_by}
use Rattle.mf_account.proofs.SoundLemmas.{All-standing, lawful-of, first-good, each-standing, good-sound}
use Rattle.mf_account.proofs.SoundLemmas.{standing-amounts}
use Rattle.mf_account.proofs.ConserveLemmas.{sum-plus_at, whole-settled, sum-same, sum-four}

-- what is settled in a row, and in all rows
abbrev row_settled : Instalment → ℕ
row_settled row = sum row.paid + sum row.waived + sum row.written_off

abbrev total_settled : List Instalment → ℕ
total_settled rows = sum_by row_settled rows

-- what parts come to
abbrev parts_amount : List Part → ℕ
parts_amount parts = sum_by (λ (part : Part). part.amount) parts

settled-settle_row : (how : How) (p amount : ℕ) (row : Instalment) → p < 4 → IsWhole row
    → row_settled (settle_row how p amount row) ≡ row_settled row + amount
settled-settle_row Paid p amount row small is = let more =
    sum-plus_at row.paid p amount (omega (arith, is.paid)) in omega (arith, more)
settled-settle_row Waived p amount row small is = let more =
    sum-plus_at row.waived p amount (omega (arith, is.waived)) in omega (arith, more)
settled-settle_row WrittenOff p amount row small is = let more =
    sum-plus_at row.written_off p amount (omega (arith, is.written_off)) in omega (arith, more)

settled-with_settled : (rows : List Instalment) (parts : List Part) → AreWhole rows → IsSettleable rows parts
    → total_settled (with_settled rows parts) ≡ total_settled rows + parts_amount parts
settled-with_settled rows [] whole fits = omega arith
settled-with_settled rows (part ∷ parts) whole fits =
    let i : ℕ = part.cell.instalment - 1 in
    let p : ℕ = place_in_row part.cell.portion in
    let row : Instalment = row_at rows part.cell.instalment in
    let here : i < length rows = omega (arith, fits.0.first, fits.0.last) in
    let one = sum_by-set row_settled rows i (settle_row part.how p part.amount row) no_row here in
    let own = settled-settle_row part.how p part.amount row (place_in_row-small part.cell.portion)
    (whole i no_row here) in
    let rest = settled-with_settled (settle rows part) parts (whole-settled rows part whole) fits.2 in
    let all = sum_by-append (λ (x : Part). x.amount) (part ∷ []) parts in
    omega (arith, one, own, rest, all)

settled-with_charge : (kind : Kind) (entry : Entry) (rows : List Instalment)
    → total_settled (with_charge kind entry rows)
    ≡ total_settled rows
settled-with_charge Fee entry rows = sum-same row_settled rows entry.instalment (owe_row 1 entry.amount) (λ row. refl)
settled-with_charge Penalty entry rows = sum-same row_settled rows entry.instalment (owe_row 0 entry.amount)
    (λ row. refl)
settled-with_charge Repay entry rows = refl
settled-with_charge Waive entry rows = refl
settled-with_charge WriteOff entry rows = refl
settled-with_charge Refund entry rows = refl

settled-after : (n used : ℕ) (order : ℕ → Cell) (place : Cell → ℕ) (entry : Entry) (before : State)
    → IsOrder n order place → HasInstalment entry.kind entry n → IsBounded n used before
    → total_settled (after_entry order entry before).rows ≡ total_settled before.rows
    + parts_amount (parts_of order entry before)
settled-after n used order place entry before is has good =
    let line : IsLine n order place before.rows = record { size = good.size; is = is; whole = good.whole } in
    let charged : List Instalment = rows_charged entry before in
    let parts : List Part = parts_of order entry before in
    let rows : total_settled (after_entry order entry before).rows ≡ total_settled (with_settled charged parts) =
    ap total_settled (rows-after order entry before) in
    let settled = settled-with_settled charged parts (whole-with_charge entry.kind entry before.rows good.whole)
    (settleable-after n order place entry before line has) in
    let charge = settled-with_charge entry.kind entry before.rows in
    omega (arith, rows, settled, charge)

amount-numbered : (seq place : ℕ) (parts : List Part) → settled_amount (parts_numbered seq place parts)
    ≡ parts_amount parts
amount-numbered seq place [] = refl
amount-numbered seq place (part ∷ parts) =
    let rest = amount-numbered seq (place + 1) parts in
    let left = sum_by-append (λ (s : SettledPart). s.amount) (record {
      seq = seq;
      place = place;
      cell = part.cell;
      how = part.how;
      amount = part.amount;
    } ∷ []) (parts_numbered seq (place + 1) parts) in
    let right = sum_by-append (λ (x : Part). x.amount) (part ∷ []) parts in
    omega (arith, rest, left, right)

settled-all : (n used : ℕ) (orders : Orders) (places : Entry → Cell → ℕ) (entries : List Entry) (before : State)
    → ((e : Entry) → IsOrder n (orders e) (places e)) → All (IsReplayable n) entries → IsBounded n used before
    → total_settled (after_entries orders entries before).rows ≡ total_settled before.rows
    + settled_amount (settled_by orders entries before)
settled-all n used orders places [] before is each good = omega arith
settled-all n used orders places (entry ∷ entries) before is each good =
    let one : IsReplayable n entry = All-head (IsReplayable n) entry entries each in
    let next : State = after_entry (orders entry) entry before in
    let own_parts : List SettledPart = parts_numbered entry.seq 1 (parts_of (orders entry) entry before) in
    let own = settled-after n used (orders entry) (places entry) entry before (is entry) one.there good in
    let amount = amount-numbered entry.seq 1 (parts_of (orders entry) entry before) in
    let rest = settled-all n (used + entry.amount) orders places entries next is (All-tail (IsReplayable n) entry
    entries each) (good-after n used (orders entry) (places entry) entry before (is entry) one.there good) in
    let all = sum_by-append (λ (s : SettledPart). s.amount) own_parts (settled_by orders entries next) in
    omega (arith, own, amount, rest, all)

settled-first : (schedule : List FreshInstalment) → total_settled (map row_of schedule) ≡ 0
settled-first [] = refl
settled-first (i ∷ schedule) = let rest = settled-first schedule in let all =
    sum_by-append row_settled (row_of i ∷ []) (map row_of schedule) in omega (arith, rest, all)

-- what the parts of a loan come to is what is settled in its rows
amount-sound : (loan : DisbursedLoan) → IsSoundDisbursed loan → settled_amount (settled_of_loan loan)
    ≡ total_settled (state_of_loan loan).rows
amount-sound loan sound =
    let all = settled-all loan.periods (2 ^ 54) (orders_of loan) (cell_places_of loan) (standing_entries loan.entries)
    (first_state (schedule_of loan))
    (lawful-of loan) (each-standing loan sound) (first-good loan sound) in
    let none = settled-first (schedule_of loan) in
    omega (arith, all, none)

-- what is settled is at most what is owed
settled-owed : (rows : List Instalment) → AreWhole rows → AreWithin rows → total_settled rows
    ≤ sum_at (λ r. r.owed) 0 rows
    + sum_at (λ r. r.owed) 1 rows + sum_at (λ r. r.owed) 2 rows + sum_at (λ r. r.owed) 3 rows
settled-owed [] whole within = omega arith
settled-owed (row ∷ rows) whole within =
    let is : IsWhole row = All-head IsWhole row rows whole in
    let fits : IsRowWithin row = All-head IsRowWithin row rows within in
    let paid = sum-four row.paid is.paid in
    let waived = sum-four row.waived is.waived in
    let written_off = sum-four row.written_off is.written_off in
    let own_0 = fits 0 (omega arith) in
    let own_1 = fits 1 (omega arith) in
    let own_2 = fits 2 (omega arith) in
    let own_3 = fits 3 (omega arith) in
    let own : row_settled row ≤ get_or row.owed 0 0 + get_or row.owed 1 0 + get_or row.owed 2 0 + get_or row.owed 3 0 =
    omega (arith, paid, waived, written_off, own_0, own_1, own_2, own_3) in
    let rest = settled-owed rows (All-tail IsWhole row rows whole) (All-tail IsRowWithin row rows within) in
    let all = sum_by-append row_settled (row ∷ []) rows in
    let a = sum_by-append (λ (r : Instalment). get_or r.owed 0 0) (row ∷ []) rows in
    let b = sum_by-append (λ (r : Instalment). get_or r.owed 1 0) (row ∷ []) rows in
    let c = sum_by-append (λ (r : Instalment). get_or r.owed 2 0) (row ∷ []) rows in
    let d = sum_by-append (λ (r : Instalment). get_or r.owed 3 0) (row ∷ []) rows in
    omega (arith, own, rest, all, a, b, c, d)

-- so the parts come to no more than is kept
pub amount-kept : (loan : DisbursedLoan) → IsSoundDisbursed loan → settled_amount (settled_of_loan loan) ≤ most_kept
amount-kept loan sound =
    let good = good-sound loan sound in
    let most = standing-amounts loan sound in
    let is = amount-sound loan sound in
    let owed = settled-owed (state_of_loan loan).rows good.whole good.within in
    let a = good.owed 0 in
    let b = good.owed 1 in
    let c = good.owed 2 in
    let d = good.owed 3 in
    omega (arith, most, is, owed, a, b, c, d)

-- what is outstanding in a row is at most what is owed
owed-here : (p : ℕ) (rows : List Instalment) (i : ℕ) (default : Instalment) → i < length rows
    → get_or (get_or rows i default).owed
    p 0 ≤ sum_at (λ r. r.owed) p rows
owed-here p [] i default within = absurd (omega arith)
owed-here p (row ∷ rows) zero default within = let all =
    sum_by-append (λ (r : Instalment). get_or r.owed p 0) (row ∷ []) rows in omega (arith, all)
owed-here p (row ∷ rows) (suc i) default within =
    let all = sum_by-append (λ (r : Instalment). get_or r.owed p 0) (row ∷ []) rows in
    let rest = owed-here p rows i default (omega arith) in
    omega (arith, all, rest)

open-le : (row : Instalment) (p : ℕ) → open_at row p ≤ get_or row.owed p 0
open-le row p = omega arith

open-here : (rows : List Instalment) (i p used : ℕ) (default : Instalment) → i < length rows
    → sum_at (λ r. r.owed) p rows ≤ used
    → open_at (get_or rows i default) p ≤ used
open-here rows i p used default within room =
    let here = owed-here p rows i default within in
    let less = open-le (get_or rows i default) p in
    omega (arith, here, less, room)

-- so it fits 64 bits
pub rows-small : (n : ℕ) (state : State) → IsBounded n most_kept state → AreRowsSmall state.rows
rows-small n state is i default within =
    let a = open-here state.rows i 0 most_kept default within (is.owed 0) in
    let b = open-here state.rows i 1 most_kept default within (is.owed 1) in
    let c = open-here state.rows i 2 most_kept default within (is.owed 2) in
    let d = open-here state.rows i 3 most_kept default within (is.owed 3) in
    omega (arith, a, b, c, d)

-- each part has its entry's number
abbrev pub IsEntryTo : ℕ → Entry → Type 0
IsEntryTo n e = (1 ≤ e.seq) × (e.seq ≤ n)

numbers-numbered : (n seq place : ℕ) (parts : List Part) → (1 ≤ seq) × (seq ≤ n)
    → AreNumberedTo n (parts_numbered seq place parts)
numbers-numbered n seq place [] is = All-nil (IsNumberedTo n)
numbers-numbered n seq place (part ∷ parts) is =
    All-cons (IsNumberedTo n) (record {
      seq = seq;
      place = place;
      cell = part.cell;
      how = part.how;
      amount = part.amount;
    }) (parts_numbered seq (place + 1) parts) is
    (numbers-numbered n seq (place + 1) parts is)

pub numbers-settled : (n : ℕ) (orders : Orders) (entries : List Entry) (before : State) → All (IsEntryTo n) entries
    → AreNumberedTo n (settled_by orders entries before)
numbers-settled n orders [] before each = All-nil (IsNumberedTo n)
numbers-settled n orders (entry ∷ entries) before each =
    All-append (IsNumberedTo n) (parts_numbered entry.seq 1 (parts_of (orders entry) entry before))
    (settled_by orders entries (after_entry (orders entry) entry before))
    (numbers-numbered n entry.seq 1 (parts_of (orders entry) entry before) (All-head (IsEntryTo n) entry entries each))
    (numbers-settled n orders entries (after_entry (orders entry) entry before)
    (All-tail (IsEntryTo n) entry entries each))

-- each part of a loan has the number of one of its entries
pub parts-numbered : (loan : DisbursedLoan) → IsSoundDisbursed loan
    → AreNumberedTo (length loan.entries) (settled_of_loan loan)
parts-numbered loan sound =
    let n : ℕ = length loan.entries in
    let each : All (IsEntryTo n) loan.entries = λ k default within.
    let same : get_or loan.entries k default ≡ entry_at loan.entries k =
    get_or_default loan.entries k default no_entry within in
    let is = ap (λ (e : Entry). e.seq) same ∙ sound.entries.numbers k within in
    (omega (arith, is), omega (arith, is, within)) in
    numbers-settled n (orders_of loan) (standing_entries loan.entries) (first_state (schedule_of loan))
    (All-standing (IsEntryTo n) loan.entries each)

-- each part of a loan is of one of its cells
cells-sound : (loan : DisbursedLoan) → IsSoundDisbursed loan → AreInRows loan.periods (settled_of_loan loan)
cells-sound loan sound =
    let good = first-good loan sound in
    cells-settled_by loan.periods (orders_of loan) (cell_places_of loan) (standing_entries loan.entries)
    (first_state (schedule_of loan)) (lawful-of loan)
    (λ j below. (each-standing loan sound j no_entry below).there) (record {
      size = good.size;
      whole = good.whole;
      within = good.within;
    })

-- what a replay gives is safe
pub safe-sound : (loan : DisbursedLoan) → IsSoundDisbursed loan
    → IsSafe loan.periods (length loan.entries) (state_of_loan loan)
    (settled_of_loan loan)
safe-sound loan sound =
    let good = good-sound loan sound in
    let most = standing-amounts loan sound in
    record {
      bounded = record {
        size = good.size;
        whole = good.whole;
        within = good.within;
        owed = λ p. (let owed = good.owed p in omega (arith, owed, most));
        money =
            (let money = good.money in omega (arith, money, most));
      };
      placed = record {
        cells = cells-sound loan sound;
        numbers = parts-numbered loan sound;
        amount = amount-kept loan sound;
      };
    }
