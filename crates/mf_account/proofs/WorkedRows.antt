-- Worked accounts, computed from the definitions: 100000 cents at 12 percent for 3 months from 2024-01-31, equal
-- principal.
use Rattle.std.proofs.Common.{◌≡◌, ℕ, Bool, true, false, List, [], ◌∷◌, refl, None}
use Rattle.mf_base.specs.Calendar.{day_of, date_of}
use Rattle.mf_base.specs.declared.day.Freq.TheVariants.{Months}
use Rattle.mf_catalog.specs.declared.terms.Terms.{Terms}
use Rattle.mf_catalog.specs.declared.terms.Method.TheVariants.{EqualPrincipal}
use Rattle.mf_catalog.specs.declared.terms.StrategyName.TheVariants.{MifosStandard, PrincipalFirst, InterestFirst}
use Rattle.mf_schedule.specs.declared.instalment.FreshInstalment.{FreshInstalment}
use Rattle.mf_schedule.specs.Fresh.{fresh_schedule}
use Rattle.mf_alloc.specs.declared.row.Portion.{Portion}
use Rattle.mf_alloc.specs.declared.row.Portion.TheVariants as portion
use Rattle.mf_alloc.specs.declared.row.Portion.TheVariants.{Interest, Principal}
use Rattle.mf_alloc.specs.Sums.{Instalment, open_at}
use Rattle.mf_alloc.specs.Order.{in_order_of_instalments, standard, portion_by, due_first}
use Rattle.mf_account.specs.declared.entry.Entry.{Entry}
use Rattle.mf_account.specs.declared.entry.Kind.{Kind}
use Rattle.mf_account.specs.declared.entry.Kind.TheVariants.{Repay, Fee, Penalty, Waive, WriteOff, Refund}
use Rattle.mf_account.specs.declared.settled.SettledPart.{SettledPart}
use Rattle.mf_account.specs.declared.settled.How.{How}
use Rattle.mf_account.specs.declared.settled.How.TheVariants.{Paid, Waived}
use Rattle.mf_account.specs.Effect.{State}
use Rattle.mf_account.specs.Account.{Orders, orders_by, first_state, state_of, settled_of, status_of, sum_at}
use Rattle.std.specs.Prelude.{sum_by}

abbrev terms : Terms
terms = record {
  method = EqualPrincipal;
  rate = 1200;
  freq = Months;
  every = 1;
  principal_grace = 0;
  interest_grace = 0;
  strategy = MifosStandard;
  disbursement = None;
  instalment = None;
  overdue = None;
}

abbrev schedule : List FreshInstalment
schedule = fresh_schedule terms 100000 3 8796

abbrev usual : Orders
usual entry = in_order_of_instalments standard

abbrev entry_of : ℕ → Kind → ℕ → ℕ → ℕ → Portion → Bool → Entry
entry_of seq kind day amount instalment portion reversed = record {
  seq = seq;
  kind = kind;
  day = day;
  amount = amount;
  instalment = instalment;
  portion = portion;
  receipt = None;
  staff = record { office = 1; staff = 1 };
  reversed = reversed;
}

abbrev repay : ℕ → ℕ → ℕ → Entry
repay seq day amount = entry_of seq Repay day amount 0 Principal false

-- 2024-02-29 and 2024-03-31
abbrev february : ℕ
february = 8825

abbrev march : ℕ
march = 8856

february_is : day_of (record { year = 2024; month = 2; day = 29 }) ≡ february
unfolding day_of
february_is = refl

march_is : day_of (record { year = 2024; month = 3; day = 31 }) ≡ march
unfolding day_of
march_is = refl

abbrev part : ℕ → ℕ → ℕ → Portion → How → ℕ → SettledPart
part seq place instalment portion how amount = record {
  seq = seq;
  place = place;
  cell = record { instalment = instalment; portion = portion };
  how = how;
  amount = amount;
}

-- penalties, fees, interest and principal
abbrev sums : (Instalment → List ℕ) → State → List ℕ
sums of s = sum_at of 0 s.rows ∷ sum_at of 1 s.rows ∷ sum_at of 2 s.rows ∷ sum_at of 3 s.rows ∷ []

abbrev left : State → List ℕ
left s = sum_by (λ r. open_at r 0) s.rows ∷ sum_by (λ r. open_at r 1) s.rows ∷ sum_by (λ r. open_at r 2) s.rows
    ∷ sum_by (λ r. open_at r 3) s.rows ∷ []

-- two repayments
abbrev two_repayments : List Entry
two_repayments = repay 1 february 20000 ∷ repay 2 march 50000 ∷ []

two_repayments_settled : settled_of usual schedule two_repayments ≡
    part 1 1 1 Interest Paid 1000 ∷ part 1 2 1 Principal Paid 19000 ∷ part 2 1 1 Principal Paid 14333
    ∷ part 2 2 2 Interest Paid 667
    ∷ part 2 3 2 Principal Paid 33333 ∷ part 2 4 3 Interest Paid 333 ∷ part 2 5 3 Principal Paid 1334 ∷ []
two_repayments_settled = refl

two_repayments_left : left (state_of usual schedule two_repayments) ≡ 0 ∷ 0 ∷ 0 ∷ 32000 ∷ []
two_repayments_left = refl

two_repayments_paid : sums (λ r. r.paid) (state_of usual schedule two_repayments) ≡ 0 ∷ 0 ∷ 2000 ∷ 68000 ∷ []
two_repayments_paid = refl

two_repayments_status : status_of two_repayments (state_of usual schedule two_repayments) ≡ 300
two_repayments_status = refl

-- entry 1 reversed
abbrev first_reversed : List Entry
first_reversed = entry_of 1 Repay february 20000 0 Principal true ∷ repay 2 march 50000 ∷ []

first_reversed_settled : settled_of usual schedule first_reversed ≡
    part 2 1 1 Interest Paid 1000 ∷ part 2 2 1 Principal Paid 33333 ∷ part 2 3 2 Interest Paid 667
    ∷ part 2 4 2 Principal Paid 15000 ∷ []
first_reversed_settled = refl

first_reversed_left : left (state_of usual schedule first_reversed) ≡ 0 ∷ 0 ∷ 333 ∷ 51667 ∷ []
first_reversed_left = refl

-- entered the other way round
abbrev entered_backwards : List Entry
entered_backwards = repay 1 march 50000 ∷ repay 2 february 20000 ∷ []

entered_backwards_same : state_of usual schedule entered_backwards ≡ state_of usual schedule two_repayments
entered_backwards_same = refl

-- overpaid, then refunded
abbrev overpayment : List Entry
overpayment = repay 1 march 110000 ∷ []

overpayment_overpaid : (state_of usual schedule overpayment).overpaid ≡ 8000
overpayment_overpaid = refl

overpayment_status : status_of overpayment (state_of usual schedule overpayment) ≡ 700
overpayment_status = refl

abbrev refunded : List Entry
refunded = repay 1 march 110000 ∷ entry_of 2 Refund march 0 0 Principal false ∷ []

refund_gives : (state_of usual schedule refunded).refunded ≡ 8000
refund_gives = refl

refund_closes : status_of refunded (state_of usual schedule refunded) ≡ 600
refund_closes = refl

-- a fee, then all paid before it
abbrev fee_then_all : List Entry
fee_then_all = entry_of 1 Fee march 500 2 portion.Fee false ∷ repay 2 february 102500 ∷ []

fee_then_all_status : status_of fee_then_all (state_of usual schedule fee_then_all) ≡ 600
fee_then_all_status = refl

fee_then_all_overpaid : (state_of usual schedule fee_then_all).overpaid ≡ 0
fee_then_all_overpaid = refl

fee_then_all_paid : sums (λ r. r.paid) (state_of usual schedule fee_then_all) ≡ 0 ∷ 500 ∷ 2000 ∷ 100000 ∷ []
fee_then_all_paid = refl

fee_then_all_settled : settled_of usual schedule fee_then_all ≡
    part 2 1 1 Interest Paid 1000 ∷ part 2 2 1 Principal Paid 33333 ∷ part 2 3 2 Interest Paid 667
    ∷ part 2 4 2 Principal Paid 33333
    ∷ part 2 5 3 Interest Paid 333 ∷ part 2 6 3 Principal Paid 33334 ∷ part 1 1 2 portion.Fee Paid 500 ∷ []
fee_then_all_settled = refl

-- a waiver, then what it cleared paid before it
abbrev waiver : List Entry
waiver = entry_of 1 Waive march 0 2 Interest false ∷ []

waiver_settled : settled_of usual schedule waiver ≡ part 1 1 2 Interest Waived 667 ∷ []
waiver_settled = refl

waiver_left : left (state_of usual schedule waiver) ≡ 0 ∷ 0 ∷ 1333 ∷ 100000 ∷ []
waiver_left = refl

abbrev waiver_then_paid : List Entry
waiver_then_paid = entry_of 1 Waive march 0 2 Interest false ∷ repay 2 february 40000 ∷ []

waiver_then : left (state_of usual schedule waiver_then_paid) ≡ 0 ∷ 0 ∷ 333 ∷ 61667 ∷ []
waiver_then = refl

waiver_waived : sums (λ r. r.waived) (state_of usual schedule waiver_then_paid) ≡ 0 ∷ 0 ∷ 0 ∷ 0 ∷ []
waiver_waived = refl

-- written off after the two repayments
abbrev written_off_after : List Entry
written_off_after = repay 1 february 20000 ∷ repay 2 march 50000 ∷ entry_of 3 WriteOff march 0 0 Principal false ∷ []

written_off_after_written_off : sums (λ r. r.written_off) (state_of usual schedule written_off_after) ≡ 0 ∷ 0 ∷ 0
    ∷ 32000 ∷ []
written_off_after_written_off = refl

written_off_after_status : status_of written_off_after (state_of usual schedule written_off_after) ≡ 601
written_off_after_status = refl

-- the two repayments by another strategy
other_order : left (state_of (λ _. in_order_of_instalments (portion_by PrincipalFirst)) schedule two_repayments)
    ≡ 0 ∷ 0 ∷ 333
    ∷ 31667 ∷ []
other_order = refl

-- a penalty, then a repayment that covers it in part, by each strategy
abbrev penalty_then_paid : List Entry
penalty_then_paid = entry_of 1 Penalty march 3433 1 portion.Penalty false ∷ repay 2 march 5000 ∷ []

penalty_standard : settled_of usual schedule penalty_then_paid ≡
    part 2 1 1 portion.Penalty Paid 3433 ∷ part 2 2 1 Interest Paid 1000 ∷ part 2 3 1 Principal Paid 567 ∷ []
penalty_standard = refl

penalty_principal_first : settled_of (λ _. in_order_of_instalments (portion_by PrincipalFirst)) schedule
    penalty_then_paid
    ≡ part 2 1 1 Principal Paid 5000 ∷ []
penalty_principal_first = refl

penalty_interest_first : settled_of (λ _. in_order_of_instalments (portion_by InterestFirst)) schedule penalty_then_paid
    ≡
    part 2 1 1 Interest Paid 1000 ∷ part 2 2 1 Principal Paid 4000 ∷ []
penalty_interest_first = refl

-- the penalty reversed
penalty_reversed : settled_of usual schedule (entry_of 1 Penalty march 3433 1 portion.Penalty true ∷ repay 2 march 5000
    ∷ []) ≡
    part 2 1 1 Interest Paid 1000 ∷ part 2 2 1 Principal Paid 4000 ∷ []
penalty_reversed = refl

-- the fee reversed leaves its money overpaid
abbrev fee_reversed : List Entry
fee_reversed = entry_of 1 Fee march 500 2 portion.Fee true ∷ repay 2 february 102500 ∷ []

fee_reversed_overpaid : (state_of usual schedule fee_reversed).overpaid ≡ 500
fee_reversed_overpaid = refl

fee_reversed_status : status_of fee_reversed (state_of usual schedule fee_reversed) ≡ 700
fee_reversed_status = refl

-- the write-off reversed
abbrev write_off_reversed : List Entry
write_off_reversed = repay 1 february 20000 ∷ repay 2 march 50000 ∷ entry_of 3 WriteOff march 0 0 Principal true ∷ []

write_off_reversed_left : left (state_of usual schedule write_off_reversed) ≡ 0 ∷ 0 ∷ 0 ∷ 32000 ∷ []
write_off_reversed_left = refl

write_off_reversed_status : status_of write_off_reversed (state_of usual schedule write_off_reversed) ≡ 300
write_off_reversed_status = refl

-- what is due first
abbrev due_orders : Orders
due_orders = orders_by (λ n due. due_first due) (first_state schedule).rows

abbrev late_repayment : List Entry
late_repayment = repay 1 march 20000 ∷ []

late_repayment_settled : settled_of due_orders schedule late_repayment ≡
    part 1 1 1 Interest Paid 1000 ∷ part 1 2 2 Interest Paid 667 ∷ part 1 3 1 Principal Paid 18333 ∷ []
unfolding day_of date_of
late_repayment_settled = refl

-- one more, dated before it
abbrev earlier_repayment : List Entry
earlier_repayment = repay 1 march 20000 ∷ repay 2 february 20000 ∷ []

earlier_repayment_settled : settled_of due_orders schedule earlier_repayment ≡
    part 2 1 1 Interest Paid 1000 ∷ part 2 2 1 Principal Paid 19000
    ∷ part 1 1 2 Interest Paid 667 ∷ part 1 2 1 Principal Paid 14333 ∷ part 1 3 2 Principal Paid 5000 ∷ []
unfolding day_of date_of
earlier_repayment_settled = refl

-- on 2024-02-01, before any instalment is due
abbrev early_repayment : List Entry
early_repayment = repay 1 8797 20000 ∷ []

early_repayment_settled : settled_of due_orders schedule early_repayment ≡ part 1 1 1 Interest Paid 1000
    ∷ part 1 2 1 Principal Paid 19000 ∷ []
unfolding day_of date_of
early_repayment_settled = refl
