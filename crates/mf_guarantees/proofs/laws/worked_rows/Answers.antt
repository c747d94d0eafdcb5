use Rattle.std.proofs.Common.{◌≡◌, [], arith, inr, refl, sym}
use Rattle.mf_office.specs.Tree.{is_within, is_at_or_below}
use Rattle.mf_schedule.specs.Fixed.{least_amount}
use Rattle.mf_schedule.proofs.FixedLemmas.{first-from_too_low, least_amount-is}
use Rattle.mf_guarantees.specs.Reorder.{what_counts, exchanged, swapped}
use Rattle.mf_guarantees.proofs.laws.worked_rows.Goals as goal

pub returns-clause-reordered : goal.returns-clause-reordered
returns-clause-reordered c = λ a b apart. swapped [] (what_counts a) (what_counts b) [] apart

pub returns-clause-any_order : goal.returns-clause-any_order
returns-clause-any_order c = λ a b first second. exchanged [] (what_counts a) (what_counts b) [] (inr (first, second))

pub returns-clause-cut : goal.returns-clause-cut
returns-clause-cut c = λ payment is amount. record {
  before = [];
  payment = payment;
  behind = [];
  first = 60;
  second = 40;
  kind = is;
  amount = amount;
  entries_are = refl;
  others_are = refl;
}

-- with 340.02 a cent is left
fixed_is : least_amount 1200 30 3 100000 ≡ 34003
fixed_is = sym (least_amount-is 1200 30 100000 3 34003 (omega arith) refl
    (first-from_too_low 1200 30 100000 3 34002 34003 (omega arith) (λ e. omega (arith, e))))

pub returns-clause-fixed : goal.returns-clause-fixed
returns-clause-fixed c = rw fixed_is refl

-- with 0.01 a cent is left
two_cents : least_amount 0 30 3 4 ≡ 2
two_cents = sym (least_amount-is 0 30 4 3 2 (omega arith) refl
    (first-from_too_low 0 30 4 3 1 2 (omega arith) (λ e. omega (arith, e))))

pub returns-clause-few_cents : goal.returns-clause-few_cents
returns-clause-few_cents c = rw two_cents refl

pub returns-clause-taken : goal.returns-clause-taken
unfolding is_at_or_below is_within
returns-clause-taken c = refl

pub returns-clause-merged : goal.returns-clause-merged
unfolding is_at_or_below is_within
returns-clause-merged c = refl
