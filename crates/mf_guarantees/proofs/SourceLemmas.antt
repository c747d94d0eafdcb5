-- What a sound loan owes comes from its fresh schedule and its standing fees and penalties.
use Rattle.std.proofs.Common.{◌≡◌, ◌≤◌, ◌<◌, ◌+◌, ◌-◌, ◌^◌, ℕ, zero, suc, List, [], ◌∷◌, length, map, get_or, refl, ap}
use Rattle.std.proofs.Common.{◌∙◌, arith}
use Rattle.std.specs.Prelude.{sum_by, All}
use Rattle.std.proofs.lemmas.List.{get_or-set_same, get_or-set_other}
use Rattle.std.proofs.lemmas.List.Elements.{All-head, All-tail}
use Rattle.std.proofs.lemmas.List.Sums.{sum_by-append, sum_by-set}
use Rattle.mf_schedule.specs.declared.instalment.FreshInstalment.{FreshInstalment}
use Rattle.mf_alloc.specs.declared.row.Cell.{Cell}
use Rattle.mf_alloc.specs.Sums.{Instalment, AreWhole}
use Rattle.mf_alloc.specs.Rows.{no_row, row_at, rows_changed_at, place_in_row}
use Rattle.mf_alloc.specs.OrderLaws.{IsOrder}
use Rattle.mf_account.specs.declared.entry.Entry.{Entry}
use Rattle.mf_account.specs.declared.entry.Kind.{Kind}
use Rattle.mf_account.specs.declared.entry.Kind.TheVariants.{Repay, Fee, Penalty, Waive, WriteOff, Refund}
use Rattle.mf_account.specs.declared.settled.How.{How}
use Rattle.mf_account.specs.declared.settled.How.TheVariants.{Paid, Waived, WrittenOff}
use Rattle.mf_account.specs.Account.{Orders, after_entries, first_state, row_of}
use Rattle.mf_account.specs.Applicable.{HasInstalment}
use Rattle.mf_account.specs.AtOnce.{rows_charged}
use Rattle.mf_account.specs.Effect.{State, Part, after_entry, settle, settle_row, owe_row, with_settled, with_charge}
use Rattle.mf_account.specs.Effect.{parts_of}
use Rattle.mf_account.specs.Loan.{DisbursedLoan, IsSoundDisbursed, schedule_of, orders_of, cell_places_of}
use Rattle.mf_account.specs.Loan.{state_of_loan}
use Rattle.mf_account.specs.Safe.{IsBounded}
use Rattle.mf_account.specs.Standing.{standing_entries}
use Rattle.mf_account.proofs.ConserveLemmas.{sum-same, principal-sound}
use Rattle.mf_account.proofs.GoodLemmas.{IsReplayable, good-after}
use Rattle.mf_account.proofs.OnceLemmas.{rows-after}
use Rattle.mf_account.proofs.SoundLemmas.{lawful-of, each-standing, first-good}
use Rattle.mf_guarantees.specs.Sources.{fee_in, penalty_in, HasSources}

-- what a row owes of the portion at a place
abbrev pub owed : ℕ → Instalment → ℕ
owed q row = get_or row.owed q 0

-- what an entry of a kind charges of the portion at a place
abbrev pub charge_at : ℕ → Kind → ℕ → ℕ
charge_at zero kind amount = penalty_in kind amount
charge_at (suc zero) kind amount = fee_in kind amount
charge_at (suc (suc q)) kind amount = 0

settled_row : (how : How) (p amount q : ℕ) (row : Instalment) → owed q (settle_row how p amount row) ≡ owed q row
settled_row Paid p amount q row = refl
settled_row Waived p amount q row = refl
settled_row WrittenOff p amount q row = refl

settled_rows : (q : ℕ) (rows : List Instalment) (parts : List Part)
    → sum_by (owed q) (with_settled rows parts) ≡ sum_by (owed q) rows
settled_rows q rows [] = refl
settled_rows q rows (part ∷ parts) =
    let p : ℕ = place_in_row part.cell.portion in
    settled_rows q (settle rows part) parts
    ∙ sum-same (owed q) rows part.cell.instalment (settle_row part.how p part.amount)
    (settled_row part.how p part.amount q)

raised : (p amount instalment : ℕ) (rows : List Instalment) → p < 4 → AreWhole rows → 1 ≤ instalment
    → instalment ≤ length rows
    → sum_by (owed p) (rows_changed_at rows instalment (owe_row p amount)) ≡ sum_by (owed p) rows + amount
raised p amount instalment rows small whole low high =
    let within : instalment - 1 < length rows = omega (arith, low, high) in
    let row : Instalment = row_at rows instalment in
    let at = sum_by-set (owed p) rows (instalment - 1) (owe_row p amount row) no_row within in
    let four = (whole (instalment - 1) no_row within).owed in
    let one : owed p (owe_row p amount row) ≡ owed p row + amount =
    get_or-set_same row.owed p (get_or row.owed p 0 + amount) 0 (omega (arith, four, small)) in
    omega (arith, at, one)

-- a charge raises what is owed of its portion alone
charged : (kind : Kind) (entry : Entry) (n : ℕ) (rows : List Instalment) (q : ℕ) → AreWhole rows → length rows ≡ n
    → HasInstalment kind entry n
    → sum_by (owed q) (with_charge kind entry rows) ≡ sum_by (owed q) rows + charge_at q kind entry.amount
charged Fee entry n rows zero whole size has =
    let same = sum-same (owed 0) rows entry.instalment (owe_row 1 entry.amount)
    (λ row. get_or-set_other row.owed 1 0 (get_or row.owed 1 0 + entry.amount) 0 (omega arith)) in
    omega (arith, same)
charged Fee entry n rows (suc zero) whole size has =
    raised 1 entry.amount entry.instalment rows (omega arith) whole has.0 (omega (arith, size, has.1))
charged Fee entry n rows (suc (suc q)) whole size has =
    let same = sum-same (owed (suc (suc q))) rows entry.instalment (owe_row 1 entry.amount)
    (λ row. get_or-set_other row.owed 1 (suc (suc q)) (get_or row.owed 1 0 + entry.amount) 0 (omega arith)) in
    omega (arith, same)
charged Penalty entry n rows zero whole size has =
    raised 0 entry.amount entry.instalment rows (omega arith) whole has.0 (omega (arith, size, has.1))
charged Penalty entry n rows (suc zero) whole size has =
    let same = sum-same (owed 1) rows entry.instalment (owe_row 0 entry.amount)
    (λ row. get_or-set_other row.owed 0 1 (get_or row.owed 0 0 + entry.amount) 0 (omega arith)) in
    omega (arith, same)
charged Penalty entry n rows (suc (suc q)) whole size has =
    let same = sum-same (owed (suc (suc q))) rows entry.instalment (owe_row 0 entry.amount)
    (λ row. get_or-set_other row.owed 0 (suc (suc q)) (get_or row.owed 0 0 + entry.amount) 0 (omega arith)) in
    omega (arith, same)
charged Repay entry n rows zero whole size has = omega arith
charged Repay entry n rows (suc zero) whole size has = omega arith
charged Repay entry n rows (suc (suc q)) whole size has = omega arith
charged Waive entry n rows zero whole size has = omega arith
charged Waive entry n rows (suc zero) whole size has = omega arith
charged Waive entry n rows (suc (suc q)) whole size has = omega arith
charged WriteOff entry n rows zero whole size has = omega arith
charged WriteOff entry n rows (suc zero) whole size has = omega arith
charged WriteOff entry n rows (suc (suc q)) whole size has = omega arith
charged Refund entry n rows zero whole size has = omega arith
charged Refund entry n rows (suc zero) whole size has = omega arith
charged Refund entry n rows (suc (suc q)) whole size has = omega arith

pub entered : (q n used : ℕ) (order : ℕ → Cell) (entry : Entry) (before : State) → HasInstalment entry.kind entry n
    → IsBounded n used before → sum_by (owed q) (after_entry order entry before).rows
    ≡ sum_by (owed q) before.rows + charge_at q entry.kind entry.amount
entered q n used order entry before has good =
    ap (sum_by (owed q)) (rows-after order entry before)
    ∙ settled_rows q (rows_charged entry before) (parts_of order entry before)
    ∙ charged entry.kind entry n before.rows q good.whole good.size has

all_entered : (q n used : ℕ) (orders : Orders) (places : Entry → Cell → ℕ) (entries : List Entry) (before : State)
    → ((e : Entry) → IsOrder n (orders e) (places e)) → All (IsReplayable n) entries → IsBounded n used before
    → sum_by (owed q) (after_entries orders entries before).rows
    ≡ sum_by (owed q) before.rows + sum_by (λ (e : Entry). charge_at q e.kind e.amount) entries
all_entered q n used orders places [] before is each good = omega arith
all_entered q n used orders places (entry ∷ entries) before is each good =
    let one : IsReplayable n entry = All-head (IsReplayable n) entry entries each in
    let own = entered q n used (orders entry) entry before one.there good in
    let rest = all_entered q n (used + entry.amount) orders places entries (after_entry (orders entry) entry before) is
    (All-tail (IsReplayable n) entry entries each)
    (good-after n used (orders entry) (places entry) entry before (is entry) one.there good) in
    let all = sum_by-append (λ (e : Entry). charge_at q e.kind e.amount) (entry ∷ []) entries in
    omega (arith, own, rest, all)

-- what the fresh schedule owes of each portion
abbrev fresh_owed : ℕ → FreshInstalment → ℕ
fresh_owed q i = owed q (row_of i)

first_rows : (q : ℕ) (schedule : List FreshInstalment)
    → sum_by (owed q) (map row_of schedule) ≡ sum_by (fresh_owed q) schedule
first_rows q [] = refl
first_rows q (i ∷ schedule) =
    let rest = first_rows q schedule in
    let left = sum_by-append (owed q) (row_of i ∷ []) (map row_of schedule) in
    let right = sum_by-append (fresh_owed q) (i ∷ []) schedule in
    omega (arith, rest, left, right)

no_penalties : (schedule : List FreshInstalment) → sum_by (fresh_owed 0) schedule ≡ 0
no_penalties [] = refl
no_penalties (i ∷ schedule) =
    let rest = no_penalties schedule in
    let all = sum_by-append (fresh_owed 0) (i ∷ []) schedule in
    omega (arith, rest, all)

owed_in_all : (q : ℕ) (loan : DisbursedLoan) → IsSoundDisbursed loan
    → sum_by (owed q) (state_of_loan loan).rows
    ≡ sum_by (fresh_owed q) (schedule_of loan)
    + sum_by (λ (e : Entry). charge_at q e.kind e.amount) (standing_entries loan.entries)
owed_in_all q loan sound =
    let all = all_entered q loan.periods (2 ^ 54) (orders_of loan) (cell_places_of loan) (standing_entries loan.entries)
    (first_state (schedule_of loan)) (lawful-of loan) (each-standing loan sound) (first-good loan sound) in
    let first = first_rows q (schedule_of loan) in
    omega (arith, all, first)

none_charged : (entries : List Entry) → sum_by (λ (e : Entry). charge_at 2 e.kind e.amount) entries ≡ 0
none_charged [] = refl
none_charged (e ∷ es) =
    let rest = none_charged es in
    let all = sum_by-append (λ (x : Entry). charge_at 2 x.kind x.amount) (e ∷ []) es in
    omega (arith, rest, all)

pub sources : (loan : DisbursedLoan) → IsSoundDisbursed loan → HasSources loan
sources loan sound = record {
  principal = (principal-sound loan sound).owed;
  interest = let all = owed_in_all 2 loan sound in let none = none_charged (standing_entries loan.entries) in
      omega (arith, all, none);
  fees = owed_in_all 1 loan sound;
  penalties = let all = owed_in_all 0 loan sound in let none = no_penalties (schedule_of loan) in
      omega (arith, all, none);
}
