-- A write-off that stands leaves nothing outstanding, so a loan is active exactly where something is.
use Rattle.std.proofs.Common.{◌≡◌, ◌≤◌, ℕ, ◌+◌, ◌-◌, ◌*◌, ◌<◌, Bool, true, false, true≢false, cond, not, ◌&&◌, ◌||◌}
use Rattle.std.proofs.Common.{◌==◌, nat_lt, List, [], ◌∷◌, length, take, drop, get_or, suc, inl, inr, arith, refl, ◌∙◌}
use Rattle.std.proofs.Common.{ap, subst, sym}
use Rattle.std.specs.List.{list_any}
use Rattle.std.proofs.lemmas.Bool.{cases_lt}
use Rattle.std.proofs.lemmas.List.{drop_more, drop_all, take-append-drop}
use Rattle.mf_catalog.specs.declared.terms.StrategyName.{StrategyName}
use Rattle.mf_alloc.specs.declared.row.Cell.{Cell}
use Rattle.mf_alloc.specs.Sums.{Instalment, is_open, open_at, row_outstanding}
use Rattle.mf_alloc.specs.Rows.{outstanding, no_row, IsCell}
use Rattle.mf_alloc.specs.Order.{cell_by, place_by, standard}
use Rattle.mf_alloc.specs.OrderLaws.{IsOrder, in_range-place_by, forth-place_by}
use Rattle.mf_alloc.proofs.LeftOpen.{IsLine, rows_paid, amounts_of, outstanding-rows_paid, length-rows_paid}
use Rattle.mf_account.specs.declared.entry.Entry.{Entry}
use Rattle.mf_account.specs.declared.entry.Kind.{Kind}
use Rattle.mf_account.specs.declared.entry.Kind.TheVariants.{Repay, Fee, Penalty, Waive, WriteOff, Refund}
use Rattle.mf_account.specs.Kinds.{is_write_off}
use Rattle.mf_account.specs.Effect.{State, after_entry, with_settled, parts_by, own_effect, state_acted}
use Rattle.mf_account.specs.Account.{after_entries, first_state}
use Rattle.mf_account.specs.Standing.{standing_entries, entry_at, no_entry}
use Rattle.mf_account.specs.Loan.{DisbursedLoan, IsSoundDisbursed, schedule_of, orders_of, state_of_loan}
use Rattle.mf_account.specs.Loan.{status_of_loan}
use Rattle.mf_account.specs.Rewind.{state_before}
use Rattle.mf_account.proofs.ClearingLemmas.{writes-off_by_cells}
use Rattle.mf_account.proofs.ConserveLemmas.{whole-acted, portion-at}
use Rattle.mf_account.specs.Safe.{IsBounded}
use Rattle.mf_account.proofs.OnceLemmas.{length-acted}
use Rattle.mf_account.proofs.SealLemmas.{written_off-none, written_off-last}
use Rattle.mf_account.proofs.SoundLemmas.{lawful, due_at, due_at-le}
use Rattle.mf_account.proofs.TailLemmas.{after_all-append, good-before}

-- nothing is outstanding in any cell of these rows
abbrev pub AreClosed : List Instalment → Type 0
AreClosed rows = (i p : ℕ) → i < length rows → p < 4 → open_at (get_or rows i no_row) p ≡ 0

written_off-closed : (n used : ℕ) (name : StrategyName) (due : ℕ) (entry : Entry) (before : State) → due ≤ n
    → IsBounded n used before → entry.kind ≡ WriteOff → AreClosed (after_entry (cell_by name due) entry before).rows
written_off-closed n used name due entry before few good is i p within small =
    let order : ℕ → Cell = cell_by name due in
    let place : Cell → ℕ = place_by name due in
    let acted : State = state_acted order entry before in
    let size : length acted.rows ≡ n = length-acted entry.kind order entry before ∙ good.size in
    let line : IsLine n order place acted.rows = record {
      size = size;
      is = lawful name n due few;
      whole = whole-acted entry.kind order entry before good.whole;
    } in
    let cell : Cell = record { instalment = i + 1; portion = standard p } in
    let k : ℕ = place cell in
    let length_after : length (rows_paid order acted.rows acted.overpaid) ≡ length acted.rows =
    length-rows_paid order acted.rows acted.overpaid in
    let there : IsCell n cell = record { first = omega arith; last = omega (arith, within, length_after, size) } in
    let inside : k < 4 * n = in_range-place_by name n due cell few there in
    let ordered : IsOrder (length before.rows) order place =
    subst (λ m. IsOrder m order place) (sym good.size) (lawful name n due few) in
    let cleared = writes-off_by_cells order place entry before.rows ordered good.whole in
    let none : outstanding (with_settled before.rows (parts_by WriteOff order entry before.rows)) (order k) ≡ 0 =
    cleared.none_left k (subst (λ m. k < 4 * m) (sym good.size) inside) in
    let here : outstanding acted.rows (order k) ≡ 0 =
    ap (λ kind. outstanding (own_effect kind order entry before).rows (order k)) is ∙ none in
    let paid = outstanding-rows_paid n order place acted.rows acted.overpaid k line inside in
    let left : outstanding (after_entry order entry before).rows (order k) ≡ 0 =
    paid ∙ ap (λ x. x - amounts_of order acted.rows acted.overpaid k) here ∙ omega arith in
    let at : outstanding (after_entry order entry before).rows cell ≡ 0 =
    ap (outstanding (after_entry order entry before).rows) (sym (forth-place_by name n due cell there)) ∙ left in
    let row : i + 1 - 1 ≡ i = omega arith in
    ap (λ x. open_at (get_or (after_entry order entry before).rows x no_row) p) (sym row)
    ∙ ap (λ x. open_at (get_or (after_entry order entry before).rows (i + 1 - 1) no_row) x) (sym (portion-at p small))
    ∙ at

pub closed-none : (rows : List Instalment) → AreClosed rows → list_any is_open rows ≡ false
closed-none [] closed = refl
closed-none (row ∷ rows) closed =
    let a = closed 0 0 (omega arith) (omega arith) in
    let b = closed 0 1 (omega arith) (omega arith) in
    let c = closed 0 2 (omega arith) (omega arith) in
    let d = closed 0 3 (omega arith) (omega arith) in
    let nothing_left : row_outstanding row ≡ 0 = omega (arith, a, b, c, d) in
    ap (λ x. nat_lt 0 x || list_any is_open rows) nothing_left
    ∙ closed-none rows (λ i p within small. closed (suc i) p (omega (arith, within)) small)

-- the last standing entry is made on what those before it leave
pub last-state : (loan : DisbursedLoan) (k : ℕ) → k + 1 ≡ length (standing_entries loan.entries) → state_of_loan loan
    ≡ after_entry (orders_of loan (entry_at (standing_entries loan.entries) k))
    (entry_at (standing_entries loan.entries) k)
    (state_before loan k)
last-state loan k is =
    let all : List Entry = standing_entries loan.entries in
    let first : State = first_state (schedule_of loan) in
    let end : drop k all ≡ entry_at all k ∷ [] = drop_more all k no_entry (omega (arith, is))
    ∙ ap (λ l. entry_at all k ∷ l) (drop_all (k + 1) all (omega (arith, is))) in
    ap (λ es. after_entries (orders_of loan) es first) (sym (take-append-drop k all))
    ∙ after_all-append (orders_of loan) (take k all) (drop k all) first
    ∙ ap (λ es. after_entries (orders_of loan) es (state_before loan k)) end

write_off-is : (k : Kind) → is_write_off k ≡ true → k ≡ WriteOff
write_off-is WriteOff is = refl
write_off-is Repay is = absurd (true≢false (sym is))
write_off-is Fee is = absurd (true≢false (sym is))
write_off-is Penalty is = absurd (true≢false (sym is))
write_off-is Waive is = absurd (true≢false (sym is))
write_off-is Refund is = absurd (true≢false (sym is))

-- a write-off stands
abbrev is_written_off : List Entry → Bool
is_written_off entries = list_any (λ (e : Entry). not e.reversed && is_write_off e.kind) entries

none_open : (loan : DisbursedLoan) → IsSoundDisbursed loan → is_written_off loan.entries ≡ true
    → list_any is_open (state_of_loan loan).rows ≡ false
none_open loan sound stands =
    let all : List Entry = standing_entries loan.entries in
    elim (cases_lt 0 (length all)) [
      | inl some ↦
          let k : ℕ = length all - 1 in
          let e : Entry = entry_at all k in
          let kind : e.kind ≡ WriteOff = write_off-is e.kind (written_off-last loan.periods loan.day loan.entries all
          e.kind sound.entries refl some refl ∙ stands) in
          closed-none (state_of_loan loan).rows (subst (λ (s : State). AreClosed s.rows)
          (sym (last-state loan k (omega (arith, some))))
          (written_off-closed loan.periods _ loan.terms.strategy (due_at loan e) e (state_before loan k)
          (due_at-le loan e) (good-before loan k sound) kind))
      | inr empty ↦ absurd (true≢false (sym stands ∙ sym (written_off-none loan.periods loan.day loan.entries all
          sound.entries refl (omega (arith, empty)))))
    ]

status-is : (written left over : Bool) → (cond written 601 (cond left 300 (cond over 700 600)) == 300)
    ≡ (not written && left)
status-is true left over = refl
status-is false true over = refl
status-is false false true = refl
status-is false false false = refl

unless_written : (written left : Bool) → (written ≡ true → left ≡ false) → (not written && left) ≡ left
unless_written true left none = sym (none refl)
unless_written false left none = refl

pub active-where_open : (loan : DisbursedLoan) → IsSoundDisbursed loan → (status_of_loan loan == 300)
    ≡ list_any is_open (state_of_loan loan).rows
active-where_open loan sound =
    let written : Bool = is_written_off loan.entries in
    let left : Bool = list_any is_open (state_of_loan loan).rows in
    status-is written left (nat_lt 0 (state_of_loan loan).overpaid) ∙ unless_written written left (none_open loan sound)
