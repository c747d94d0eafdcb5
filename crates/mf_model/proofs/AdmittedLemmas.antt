-- What it says of an entry that nothing refuses it.
use Rattle.std.proofs.Common.{◌≡◌, ◌≤◌, ℕ, Bool, true, false, not, ◌||◌, leb, cond, List, length, Option, None, Some}
use Rattle.std.proofs.Common.{refl, subst}
use Rattle.std.specs.Prelude.{is_some}
use Rattle.std.proofs.lemmas.Bool.{and_parts, leb-true, leb-false}
use Rattle.mf_base.specs.declared.fault.Fault.{Fault}
use Rattle.mf_base.specs.declared.fault.Fault.TheVariants.{F8, F9, F10, F11, F14, F18}
use Rattle.mf_alloc.specs.Sums.{Instalment}
use Rattle.mf_account.specs.declared.entry.Entry.{Entry}
use Rattle.mf_account.specs.declared.entry.Kind.{Kind}
use Rattle.mf_account.specs.declared.entry.Kind.TheVariants.{Repay, Fee, Penalty, Waive, WriteOff, Refund}
use Rattle.mf_account.specs.Applicable.{HasInstalment}
use Rattle.mf_account.specs.Loan.{DisbursedLoan, IsSoundDisbursed, state_of_loan, status_of_loan}
use Rattle.mf_account.specs.Refusals.{refusal_of, is_sealed, admits, is_out_of_order, is_forbidden, is_out_of_limits}
use Rattle.mf_account.specs.Refusals.{is_instalment_number, IsEntryAdmitted}
use Rattle.mf_account.proofs.SoundLemmas.{good-sound}

none_of : (b : Bool) (fault : Fault) (rest : Option Fault) → cond b (Some fault) rest ≡ None → (b ≡ false)
    × (rest ≡ None)
none_of true fault rest none = absurd (let never : Some fault ≡ None = none in cc)
none_of false fault rest none = (refl, none)

first_none : (a b : Bool) → (a || b) ≡ false → a ≡ false
first_none true b none = absurd (let never : true ≡ false = none in cc)
first_none false b none = refl

there_from : (n instalment : ℕ) → not (is_instalment_number n instalment) ≡ false → (1 ≤ instalment) × (instalment ≤ n)
there_from n instalment none =
    let both = and_parts (leb 1 instalment) (leb instalment n) (is (is_instalment_number n instalment) none) in
    (leb-true 1 instalment both.0, leb-true instalment n both.1)
  where
    is : (b : Bool) → not b ≡ false → b ≡ true
    is true e = refl
    is false e = absurd (let never : true ≡ false = e in cc)

there_by : (kind : Kind) (charged : Bool) (rows : List Instalment) (entries : List Entry) (e : Entry) (today n : ℕ)
    → is_forbidden kind charged rows entries e today ≡ false → length rows ≡ n → HasInstalment kind e n
there_by Repay charged rows entries e today n allowed size = tt
there_by Fee charged rows entries e today n allowed size =
    subst (λ m. (1 ≤ e.instalment) × (e.instalment ≤ m)) size (there_from (length rows) e.instalment allowed)
there_by Penalty charged rows entries e today n allowed size = subst (λ m. (1 ≤ e.instalment) × (e.instalment ≤ m)) size
    (there_from (length rows) e.instalment
    (first_none (not (is_instalment_number (length rows) e.instalment)) _ allowed))
there_by Waive charged rows entries e today n allowed size = subst (λ m. (1 ≤ e.instalment) × (e.instalment ≤ m)) size
    (there_from (length rows) e.instalment
    (first_none (not (is_instalment_number (length rows) e.instalment)) _ allowed))
there_by WriteOff charged rows entries e today n allowed size = tt
there_by Refund charged rows entries e today n allowed size = tt

pub dated_in_order : (loan : DisbursedLoan) (e : Entry) (today : ℕ) → refusal_of loan e today ≡ None
    → is_out_of_order e.kind loan.day today e.day ≡ false
dated_in_order loan e today none =
    let sealed = none_of (is_sealed loan.entries) F11 _ none in
    let status = none_of (not (admits e.kind (status_of_loan loan))) F9 _ sealed.1 in
    (none_of (is_out_of_order e.kind loan.day today e.day) F10 _ status.1).0

pub admitted : (loan : DisbursedLoan) (e : Entry) (today : ℕ) → IsSoundDisbursed loan → refusal_of loan e today ≡ None
    → IsEntryAdmitted loan e today
admitted loan e today sound none =
    let sealed = none_of (is_sealed loan.entries) F11 _ none in
    let status = none_of (not (admits e.kind (status_of_loan loan))) F9 _ sealed.1 in
    let order = none_of (is_out_of_order e.kind loan.day today e.day) F10 _ status.1 in
    let forbidden = none_of (is_forbidden e.kind (is_some loan.terms.overdue) (state_of_loan loan).rows loan.entries e
    today) F14 _ order.1 in
    let limits = none_of (is_out_of_limits e.kind e.amount) F8 _ forbidden.1 in
    let many = none_of (leb 9999 (length loan.entries)) F18 _ limits.1 in
    record {
      unsealed = sealed.0;
      in_order = order.0;
      there = there_by e.kind (is_some loan.terms.overdue) (state_of_loan loan).rows loan.entries e today loan.periods
          forbidden.0 (good-sound loan sound).size;
      within = limits.0;
      few = leb-false 9999 (length loan.entries) many.0;
    }
