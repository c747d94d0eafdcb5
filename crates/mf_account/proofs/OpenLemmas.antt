-- While something is outstanding nothing is overpaid, and a refund that stands gave nothing back.
use Rattle.std.proofs.Common.{◌≡◌, ◌≢◌, ◌≤◌, ℕ, ◌+◌, ◌-◌, ◌*◌, ◌^◌, ◌<◌, ◌⊎◌, true, true≢false, List, length, take}
use Rattle.std.proofs.Common.{get_or, inl, inr, arith, refl, ◌∙◌, ap, subst, sym}
use Rattle.std.specs.List.{list_any}
use Rattle.std.proofs.lemmas.Bool.{cases_lt}
use Rattle.std.proofs.lemmas.List.Elements.{All-take}
use Rattle.mf_catalog.specs.declared.terms.StrategyName.{StrategyName}
use Rattle.mf_catalog.specs.declared.terms.Terms.{Terms}
use Rattle.mf_schedule.specs.Fresh.{fee_at_disbursement, fresh_schedule}
use Rattle.mf_alloc.specs.declared.row.Cell.{Cell}
use Rattle.mf_alloc.specs.Sums.{Instalment, is_open, open_at}
use Rattle.mf_alloc.specs.Rows.{outstanding, no_row, place_in_row, IsCell}
use Rattle.mf_alloc.specs.Order.{cell_by, place_by, standard}
use Rattle.mf_alloc.specs.OrderLaws.{in_range-place_by, forth-place_by}
use Rattle.mf_alloc.proofs.LeftOpen.{IsLine, rows_paid, amounts_of, outstanding-rows_paid, length-rows_paid}
use Rattle.mf_account.specs.declared.entry.Entry.{Entry}
use Rattle.mf_account.specs.declared.entry.Kind.{Kind}
use Rattle.mf_account.specs.declared.entry.Kind.TheVariants.{Repay, Fee, Penalty, Waive, WriteOff, Refund}
use Rattle.mf_account.specs.Kinds.{is_seal, is_write_off, money_out}
use Rattle.mf_account.specs.Effect.{State, after_entry, own_effect, state_acted}
use Rattle.mf_account.specs.Account.{first_state}
use Rattle.mf_account.specs.Standing.{standing_entries, entry_at}
use Rattle.mf_account.specs.Balance.{balances_by, balances_of}
use Rattle.mf_account.specs.Loan.{DisbursedLoan, IsSoundDisbursed, schedule_of, orders_of, state_of_loan, fee_of_loan}
use Rattle.mf_account.specs.OpenLaw.{OpenLoansHoldNoMoney}
use Rattle.mf_account.specs.Rewind.{state_before}
use Rattle.mf_account.specs.Safe.{IsBounded}
use Rattle.mf_account.proofs.ActiveLemmas.{AreClosed, closed-none, last-state}
use Rattle.mf_account.proofs.ConserveLemmas.{IsClosed, closed-all, closed-sound, whole-acted, portion-at}
use Rattle.mf_account.proofs.GoodLemmas.{IsReplayable}
use Rattle.mf_account.proofs.OnceLemmas.{length-acted, refunded-after}
use Rattle.mf_account.proofs.ResumeLemmas.{EndsInRefund, none-refunded-all, book_at}
use Rattle.mf_account.proofs.SoundLemmas.{lawful, due_at, due_at-le, each-standing, first-good}
use Rattle.mf_account.proofs.TailLemmas.{good-before, none-before}

-- a refund leaves rows closed that were
refund-closed : (n used : ℕ) (name : StrategyName) (due : ℕ) (entry : Entry) (before : State) → due ≤ n
    → IsBounded n used before → entry.kind ≡ Refund → AreClosed before.rows
    → AreClosed (after_entry (cell_by name due) entry before).rows
refund-closed n used name due entry before few good is closed i p within small =
    let order : ℕ → Cell = cell_by name due in
    let place : Cell → ℕ = place_by name due in
    let acted : State = state_acted order entry before in
    let size : length acted.rows ≡ n = length-acted entry.kind order entry before ∙ good.size in
    let line : IsLine n order place acted.rows = record {
      size = size;
      is = lawful name n due few;
      whole = whole-acted entry.kind order entry before good.whole;
    } in
    let cell : Cell = record { instalment = i + 1; portion = standard p } in
    let k : ℕ = place cell in
    let length_after : length (rows_paid order acted.rows acted.overpaid) ≡ length acted.rows =
    length-rows_paid order acted.rows acted.overpaid in
    let there : IsCell n cell = record { first = omega arith; last = omega (arith, within, length_after, size) } in
    let inside : k < 4 * n = in_range-place_by name n due cell few there in
    let back : order k ≡ cell = forth-place_by name n due cell there in
    let row : i + 1 - 1 ≡ i = omega arith in
    let own : outstanding before.rows cell ≡ 0 =
    ap (λ x. open_at (get_or before.rows x no_row) (place_in_row (standard p))) row
    ∙ ap (λ x. open_at (get_or before.rows i no_row) x) (portion-at p small)
    ∙ closed i p (omega (arith, within, length_after, size, good.size)) small in
    let here : outstanding acted.rows (order k) ≡ 0 =
    ap (λ kind. outstanding (own_effect kind order entry before).rows (order k)) is
    ∙ ap (outstanding before.rows) back ∙ own in
    let paid = outstanding-rows_paid n order place acted.rows acted.overpaid k line inside in
    let left : outstanding (after_entry order entry before).rows (order k) ≡ 0 =
    paid ∙ ap (λ x. x - amounts_of order acted.rows acted.overpaid k) here ∙ omega arith in
    let at : outstanding (after_entry order entry before).rows cell ≡ 0 =
    ap (outstanding (after_entry order entry before).rows) (sym back) ∙ left in
    ap (λ x. open_at (get_or (after_entry order entry before).rows x no_row) p) (sym row)
    ∙ ap (λ x. open_at (get_or (after_entry order entry before).rows (i + 1 - 1) no_row) x) (sym (portion-at p small))
    ∙ at

-- what is overpaid closes the rows, before any of the standing entries too
closed-before : (loan : DisbursedLoan) (k : ℕ) → IsSoundDisbursed loan → IsClosed (state_before loan k)
closed-before loan k sound =
    closed-all loan.periods (2 ^ 54) loan.terms.strategy (due_at loan) (take k (standing_entries loan.entries))
    (first_state (schedule_of loan)) (due_at-le loan)
    (All-take (IsReplayable loan.periods) k (standing_entries loan.entries) (each-standing loan sound))
    (first-good loan sound) (λ some. absurd (omega (arith, some)))

-- a refund that stands while something is outstanding gave nothing back
none-given : (loan : DisbursedLoan) → IsSoundDisbursed loan → list_any is_open (state_of_loan loan).rows ≡ true
    → EndsInRefund (standing_entries loan.entries) (length (standing_entries loan.entries))
    → (state_of_loan loan).refunded ≡ 0
none-given loan sound left ends =
    let all : List Entry = standing_entries loan.entries in
    let k : ℕ = length all - 1 in
    let within : k < length all = omega (arith, ends.0) in
    let e : Entry = entry_at all k in
    let past : State = state_before loan k in
    let state : state_of_loan loan ≡ after_entry (orders_of loan e) e past = last-state loan k (omega (arith, ends.0))
    in
    let given = refunded-after e.kind (orders_of loan e) e past in
    let gives : money_out e.kind past.overpaid ≡ past.overpaid = ap (λ x. money_out x past.overpaid) ends.1 in
    let before = none-before loan k sound within in
    let last : (state_of_loan loan).refunded ≡ (after_entry (orders_of loan e) e past).refunded =
    ap (λ (s : State). s.refunded) state in
    elim (cases_lt 0 past.overpaid) [
      | inl some ↦
          let closed : AreClosed past.rows = closed-before loan k sound some in
          absurd (true≢false (sym left ∙ closed-none (state_of_loan loan).rows
          (subst (λ (s : State). AreClosed s.rows) (sym state)
          (refund-closed loan.periods _ loan.terms.strategy (due_at loan e) e past (due_at-le loan e)
          (good-before loan k sound) ends.1 closed))))
      | inr none ↦ omega (arith, given, gives, before, last, none)
    ]

cases_kind : (k : Kind) → (k ≡ Refund) ⊎ (k ≢ Refund)
cases_kind Refund = inl refl
cases_kind Repay = inr (λ is. true≢false (sym (ap is_seal is)))
cases_kind Fee = inr (λ is. true≢false (sym (ap is_seal is)))
cases_kind Penalty = inr (λ is. true≢false (sym (ap is_seal is)))
cases_kind Waive = inr (λ is. true≢false (sym (ap is_seal is)))
cases_kind WriteOff = inr (λ is. true≢false (ap is_write_off is))

cases_refund : (all : List Entry) → EndsInRefund all (length all) ⊎ (EndsInRefund all (length all) → ⊥)
cases_refund all = elim (cases_lt 0 (length all)) [
  | inl some ↦ elim (cases_kind (entry_at all (length all - 1)).kind) [
    | inl is ↦ inl (some, is)
    | inr other ↦ inr (λ ends. other ends.1)
  ]
  | inr none ↦ inr (λ ends. absurd (omega (arith, ends.0, none)))
]

pub open-holds_nothing : OpenLoansHoldNoMoney
open-holds_nothing loan sound left =
    let all : List Entry = standing_entries loan.entries in
    let overpaid : (state_of_loan loan).overpaid ≡ 0 = elim (cases_lt 0 (state_of_loan loan).overpaid) [
      | inl some ↦ absurd (true≢false (sym left ∙ closed-none (state_of_loan loan).rows (closed-sound loan sound some)))
      | inr none ↦ omega (arith, none)
    ] in (
      overpaid,
      elim (cases_refund all) [
        | inl ends ↦ none-given loan sound left ends
        | inr other ↦ none-refunded-all loan sound other
      ],
    )

-- so the sums of the rows, beside nothing overpaid and nothing refunded, are the loan's
pub open-balances : (loan : DisbursedLoan) (terms : Terms) (principal periods day : ℕ) (rows : List Instalment)
    (fee : ℕ)
    → IsSoundDisbursed loan → loan.terms ≡ terms → loan.principal ≡ principal → loan.periods ≡ periods → loan.day ≡ day
    → rows ≡ (state_of_loan loan).rows → list_any is_open rows ≡ true
    → fee ≡ fee_at_disbursement terms principal (fresh_schedule terms principal periods day)
    → balances_by fee (book_at rows 0 0) ≡ balances_of loan
open-balances loan terms principal periods day rows fee sound terms_is principal_is periods_is day_is rows_are left
    fee_is =
    let state : State = state_of_loan loan in
    let held = open-holds_nothing loan sound (subst (λ r. list_any is_open r ≡ true) rows_are left) in
    let own_fee : fee ≡ fee_of_loan loan = fee_is
    ∙ ap (λ (t : Terms). fee_at_disbursement t principal (fresh_schedule t principal periods day)) (sym terms_is)
    ∙ ap (λ (p : ℕ). fee_at_disbursement loan.terms p (fresh_schedule loan.terms p periods day)) (sym principal_is)
    ∙ ap (λ (n : ℕ). fee_at_disbursement loan.terms loan.principal (fresh_schedule loan.terms loan.principal n day))
    (sym periods_is)
    ∙ ap (λ (d : ℕ). fee_at_disbursement loan.terms loan.principal
    (fresh_schedule loan.terms loan.principal loan.periods d)) (sym day_is) in
    let own_state : book_at rows 0 0 ≡ state = ap (λ (r : List Instalment). book_at r 0 0) rows_are
    ∙ ap (λ (o : ℕ). book_at state.rows o 0) (sym held.0)
    ∙ ap (λ (f : ℕ). book_at state.rows state.overpaid f) (sym held.1) in
    ap (λ (f : ℕ). balances_by f (book_at rows 0 0)) own_fee ∙ ap (balances_by (fee_of_loan loan)) own_state
