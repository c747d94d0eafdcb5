-- A line that was told something is told the like again, whatever lines of a sheet were entered since.
use Rattle.std.proofs.Common.{◌≡◌, ◌≢◌, ℕ, Bool, true, false, cond, List, [], ◌∷◌, ◌++◌, length, Option, Some, None}
use Rattle.std.proofs.Common.{Result, Ok, Err, inl, inr, refl, sym, ap, ◌∙◌, subst, arith}
use Rattle.std.specs.Prelude.{◌==◌, ◌&&◌, ◌||◌, not, nat_lt, nat_le, option_map}
use Rattle.std.specs.Str.{bytes_eq}
use Rattle.std.proofs.lemmas.Bool.{cases_eq, eq-eqb}
use Rattle.std.proofs.lemmas.Bool.Decides.{nat_tests}
use Rattle.std.proofs.lemmas.List.Folds.{list_any-append}
use Rattle.std.proofs.lemmas.Slice.Eq.{bytes_eq-Decides}
use Rattle.mf_base.specs.declared.fault.Fault.{Fault}
use Rattle.mf_base.specs.declared.fault.Fault.TheVariants.{F2, F4, F9, F10, F11, F15, F18}
use Rattle.mf_office.specs.declared.caller.Caller.{Caller}
use Rattle.mf_office.specs.Tree.{is_at_or_below}
use Rattle.mf_account.specs.declared.entry.Entry.{Entry}
use Rattle.mf_account.specs.Loan.{DisbursedLoan, status_of_loan}
use Rattle.mf_account.specs.Refusals.{is_standing_seal, is_sealed, refusal_of}
use Rattle.mf_model.specs.Institution.{Institution, Catalogue, Office, Ledger, Rows, Staff, office_at, with_rows}
use Rattle.mf_model.specs.Institution.{item_numbered, with_numbered, after, Rows_become}
use Rattle.mf_model.specs.Tree.{parent_of, seen_office}
use Rattle.mf_model.specs.Accounts.{account_in, running_from, terms_in}
use Rattle.mf_model.specs.Desk.{staff_at}
use Rattle.mf_model.specs.Loans.{with_new_entry, loan_changed}
use Rattle.mf_model.specs.Receipts.{Use, use_by, uses_from, first_use, repeated_seq}
use Rattle.mf_model.proofs.AccountLemmas.{IsRunning, account_is}
use Rattle.mf_model.proofs.Confined.{others_stay}
use Rattle.mf_model.proofs.StaffLemmas.{rows_found}
use Rattle.mf_model.proofs.Within.{below_with_rows}
use Rattle.mf_sheet_lines.specs.declared.line.SheetRepayment.{SheetRepayment}
use Rattle.mf_sheet_lines.specs.declared.results.SheetResult.{SheetResult}
use Rattle.mf_sheet_lines.specs.declared.results.SheetResult.TheVariants.{Entered, Repeated, Refused}
use Rattle.mf_sheet.specs.Again.{IsRefusedAgain, IsToldAgain}
use Rattle.mf_sheet.proofs.Uses.{numbered_changed, numbered_kept, used_now, used_as_before}
use Rattle.mf_sheet.proofs.Judging.{entry_of, account_fault, as_entry, as_repeat, by_use, by_ledger, by_office}
use Rattle.mf_sheet.proofs.Judging.{by_staff, judged, Entering, entered_change}

-- what is told twice alike
pub told_alike : (t : SheetResult) → t ≢ Entered → IsToldAgain t t
told_alike Entered n = absurd (n refl)
told_alike Repeated n = refl
told_alike (Refused fault) n = (fault, refl, inl refl)

alike : (t u : SheetResult) → u ≡ t → t ≢ Entered → IsToldAgain t u
alike t u e n = subst (IsToldAgain t) (sym e) (told_alike t n)

refused_thrice : (f g h : Fault) → IsRefusedAgain f g → IsRefusedAgain g h → IsRefusedAgain f h
refused_thrice f g h (inl e) q = subst (λ x. IsRefusedAgain x h) e q
refused_thrice f g h (inr p) (inl e) = subst (IsRefusedAgain f) (sym e) (inr p)
refused_thrice f g h (inr p) (inr (inl e)) = inr (inl e)
refused_thrice f g h (inr (inl e)) (inr (inr (d, k))) = absurd (cc)
refused_thrice f g h (inr (inr (a, e))) (inr (inr (d, k))) = absurd (cc)

pub told_thrice : (t u v : SheetResult) → IsToldAgain t u → IsToldAgain u v → IsToldAgain t v
told_thrice Entered u v p q = subst (λ x. IsToldAgain x v) p q
told_thrice Repeated u v p q = subst (λ x. IsToldAgain x v) p q
told_thrice (Refused f) u v p q =
    let w : IsToldAgain (Refused p.0) v = subst (λ x. IsToldAgain x v) p.1 q in
    (w.0, w.1, refused_thrice f p.0 w.0 p.2 w.2)

pub never_entered : (t u : SheetResult) → IsToldAgain t u → u ≢ Entered
never_entered Entered u p e = cc
never_entered Repeated u p e = cc
never_entered (Refused f) u p e = let is = p.1 in cc

-- The first of these holds that refuses a repayment: its loan is sealed or is not active, its day is out of order, or
-- there is no room for an entry.
fault_by : Bool → Bool → Bool → Bool → Option Fault
fault_by sealed active late full =
    cond sealed (Some F11) (cond (not active) (Some F9) (cond late (Some F10) (cond full (Some F18) None)))

abbrev is_late : SheetRepayment → DisbursedLoan → ℕ → Bool
is_late r a day = nat_lt r.day a.day || nat_lt day r.day

fault_is : (c : Caller) (r : SheetRepayment) (a : DisbursedLoan) (day : ℕ) → refusal_of a (entry_of c r a) day
    ≡ fault_by (is_sealed a.entries) (status_of_loan a == 300) (is_late r a day) (nat_le 9999 (length a.entries))
unfolding fault_by
fault_is c r a day = refl

-- what an accepted entry says of its account
record Accepts (sealed active late full : Bool) : Type 0 where
  unsealed : sealed ≡ false
  is_active : active ≡ true
  in_order : late ≡ false
  room : full ≡ false

accepts : (sealed active late full : Bool) → fault_by sealed active late full ≡ None → Accepts sealed active late full
unfolding fault_by
accepts true active late full h = absurd (cc)
accepts false false late full h = absurd (cc)
accepts false true true full h = absurd (cc)
accepts false true false true h = absurd (cc)
accepts false true false false h = record { unsealed = refl; is_active = refl; in_order = refl; room = refl }

late_alone : (late : Bool) → as_entry (fault_by false true late false) ≢ Entered → late ≡ true
unfolding fault_by
late_alone true n = refl
late_alone false n = absurd (n refl)

still_late : (active full : Bool) → IsToldAgain (as_entry (fault_by false true true false))
    (as_entry (fault_by false active true full))
unfolding fault_by
still_late true full = (F10, refl, inl refl)
still_late false full = (F9, refl, inr (inr (refl, refl)))

-- a day that is out of order is no day that is in order
other_day : (x y first today : ℕ) → (nat_lt x first || nat_lt today x) ≡ true → (nat_lt y first || nat_lt today y)
    ≡ false → (y == x) ≡ false
other_day x y first today late in_order =
    elim (cases_eq y x) [
      | inl is ↦ absurd (let same : (nat_lt y first || nat_lt today y) ≡ true = ap (λ z. nat_lt z first || nat_lt today
          z) is ∙ late in cc)
      | inr other ↦ grind (arith, nat_tests)
    ]

sealed_after : (es : List Entry) (e : Entry) → is_standing_seal e ≡ false → is_sealed es ≡ false
    → is_sealed (es ++ e ∷ []) ≡ false
sealed_after es e none unsealed =
    list_any-append is_standing_seal es (e ∷ []) ∙ ap (λ b. b || (is_standing_seal e || false)) unsealed
    ∙ ap (λ b. b || false) none

abbrev with_entry : Entry → DisbursedLoan → DisbursedLoan
with_entry e a = record a { entries = a.entries ++ e ∷ [] }

account_after : (k : Catalogue) (l : Ledger) (a : DisbursedLoan) (e : Entry) → account_in k l ≡ Some a
    → account_in k (with_new_entry e l) ≡ Some (with_entry e a)
account_after k l a e h =
    let is : IsRunning k l a = account_is k l a h in
    ap (λ day. running_from l.loan (l.entries ++ e ∷ []) day (terms_in k l.loan.product)) is.day_is
    ∙ ap (running_from l.loan (l.entries ++ e ∷ []) (Some is.day)) is.terms_is
    ∙ ap (λ (x : DisbursedLoan). Some (with_entry e x)) is.account_is

module _ (c d : Caller) (r q : SheetRepayment) (a : DisbursedLoan) (day : ℕ)
    (allowed : refusal_of a (entry_of d q a) day
    ≡ None) (refused : as_entry (refusal_of a (entry_of c r a) day) ≢ Entered) where
  its_account : Accepts (is_sealed a.entries) (status_of_loan a == 300) (is_late q a day)
      (nat_le 9999 (length a.entries))
  its_account = accepts (is_sealed a.entries) (status_of_loan a == 300) (is_late q a day)
      (nat_le 9999 (length a.entries)) (sym (fault_is d q a day) ∙ allowed)

  fault_then : refusal_of a (entry_of c r a) day ≡ fault_by false true (is_late r a day) false
  fault_then =
      fault_is c r a day
      ∙ ap (λ b. fault_by b (status_of_loan a == 300) (is_late r a day) (nat_le 9999 (length a.entries)))
      its_account.unsealed
      ∙ ap (λ b. fault_by false b (is_late r a day) (nat_le 9999 (length a.entries))) its_account.is_active
      ∙ ap (λ b. fault_by false true (is_late r a day) b) its_account.room

  late_then : is_late r a day ≡ true
  late_then = late_alone (is_late r a day) (λ e. refused (ap as_entry fault_then ∙ e))

  was_late : refusal_of a (entry_of c r a) day ≡ fault_by false true true false
  was_late = fault_then ∙ ap (λ b. fault_by false true b false) late_then

  -- a repayment that was refused beside one that was accepted names another day
  pub days_apart : (q.day == r.day) ≡ false
  days_apart = other_day r.day q.day a.day day late_then its_account.in_order

  pub refused_after : IsToldAgain (as_entry (refusal_of a (entry_of c r a) day))
      (as_entry (refusal_of (with_entry (entry_of d q a) a) (entry_of c r (with_entry (entry_of d q a) a)) day))
  refused_after =
      let b : DisbursedLoan = with_entry (entry_of d q a) a in
      let now : refusal_of b (entry_of c r b) day ≡ fault_by false (status_of_loan b == 300) true
      (nat_le 9999 (length b.entries)) =
      fault_is c r b day
      ∙ ap (λ x. fault_by x (status_of_loan b == 300) (is_late r b day) (nat_le 9999 (length b.entries)))
      (sealed_after a.entries (entry_of d q a) refl its_account.unsealed)
      ∙ ap (λ x. fault_by false (status_of_loan b == 300) x (nat_le 9999 (length b.entries))) late_then
      in
      subst (λ x. IsToldAgain (as_entry x) (as_entry (refusal_of b (entry_of c r b) day))) (sym was_late) (
      subst (λ x. IsToldAgain (as_entry (fault_by false true true false)) (as_entry x)) (sym now)
      (still_late (status_of_loan b == 300) (nat_le 9999 (length b.entries)))
      )

-- a receipt that was used by another loan or on another day
elsewhere : (n m amount day : ℕ) (e : Entry) → (n == m) ≡ false → repeated_seq m amount day (use_by n e) ≡ Err F15
elsewhere n m amount day e other =
    ap (λ b. cond b (Ok e.seq) (Err F15)) (ap (λ b. b && ((e.amount == amount) && (e.day == day))) other)

on_other_day : (n m amount day : ℕ) (e : Entry) → (e.day == day) ≡ false → repeated_seq m amount day (use_by n e)
    ≡ Err F15
on_other_day n m amount day e other = ap (λ b. cond ((n == m) && ((e.amount == amount) && b)) (Ok e.seq) (Err F15))
    other ∙ either (n == m) (e.amount == amount)
  where
    either : (a b : Bool) → cond {A = Result ℕ Fault} (a && (b && false)) (Ok e.seq) (Err F15) ≡ Err F15
    either true true = refl
    either true false = refl
    either false b = refl

-- the same loan, amount and day
pub the_same : (n : ℕ) (e : Entry) → repeated_seq n e.amount e.day (use_by n e) ≡ Ok e.seq
the_same n e =
    ap (λ b. cond (b && ((e.amount == e.amount) && (e.day == e.day))) (Ok e.seq) (Err F15)) (eq-eqb n n refl)
    ∙ ap (λ b. cond (b && (e.day == e.day)) (Ok e.seq) (Err F15)) (eq-eqb e.amount e.amount refl)
    ∙ ap (λ b. cond b (Ok e.seq) (Err F15)) (eq-eqb e.day e.day refl)

-- One repayment was entered in an office. What another of the office was told before and is told now.
module _ (d : Caller) (q : SheetRepayment) (k : Catalogue) (f : Office) (l : Ledger) (a : DisbursedLoan)
    (free : first_use q.receipt (uses_from 1 f.rows.loans) ≡ None) (there : item_numbered f.rows.loans q.loan.number
    ≡ Some l)
    (has : account_in k l ≡ Some a) (allowed : refusal_of a (entry_of d q a) k.day ≡ None) where
  abbrev one : Entry
  one = entry_of d q a

  abbrev loans_now : List Ledger
  loans_now = with_numbered q.loan.number (with_new_entry one) f.rows.loans

  abbrev use_now : Use
  use_now = record { receipt = q.receipt; by = use_by q.loan.number one }

  pub its_use : first_use q.receipt (uses_from 1 loans_now) ≡ Some use_now
  its_use = used_now q.loan.number one q.receipt f.rows.loans l refl free there

  pub its_loan : item_numbered loans_now q.loan.number ≡ Some (with_new_entry one l)
  its_loan = numbered_changed q.loan.number (with_new_entry one) f.rows.loans l there

  module _ (c : Caller) (r : SheetRepayment) where
    -- another receipt, the same loan
    same_loan : (u : Option Use) → by_use c r k u l ≢ Entered → IsToldAgain (by_use c r k u l)
        (by_use c r k u (with_new_entry one l))
    same_loan (Some u) n = told_alike (as_repeat (repeated_seq r.loan.number r.amount r.day u.by)) n
    same_loan None n =
        subst (λ o. IsToldAgain (as_entry (account_fault c r k.day o))
        (as_entry (account_fault c r k.day (account_in k (with_new_entry one l))))) (sym has) (
        subst (λ o. IsToldAgain (as_entry (account_fault c r k.day (Some a))) (as_entry (account_fault c r k.day o)))
        (sym (account_after k l a one has)) (
        refused_after c d r q a k.day allowed (λ e. n (ap (λ o. as_entry (account_fault c r k.day o)) has ∙ e))
        )
        )

    taken : (fault : Option Fault) (t : SheetResult) → as_entry fault ≢ Entered → t ≡ Refused F15
        → IsToldAgain (as_entry fault) t
    taken None t n e = absurd (n refl)
    taken (Some fault) t n e = (F15, e, inr (inl refl))

    -- the same receipt, another loan
    other_loan : (q.loan.number == r.loan.number) ≡ false → (o : Option Ledger) → by_ledger c r k None o ≢ Entered
        → IsToldAgain (by_ledger c r k None o) (by_ledger c r k (Some use_now) o)
    other_loan other None n = (F4, refl, inl refl)
    other_loan other (Some m) n = taken (account_fault c r k.day (account_in k m)) _ n
        (ap as_repeat (elsewhere q.loan.number r.loan.number r.amount r.day one other))

    -- the same receipt and the same loan
    same_both : by_use c r k None l ≢ Entered → IsToldAgain (by_use c r k None l) (by_use c r k (Some use_now)
        (with_new_entry one l))
    same_both n =
        let refused : as_entry (refusal_of a (entry_of c r a) k.day) ≢ Entered =
        λ e. n (ap (λ o. as_entry (account_fault c r k.day o)) has ∙ e) in
        taken (account_fault c r k.day (account_in k l)) _ n (ap as_repeat (on_other_day q.loan.number r.loan.number
        r.amount r.day one (days_apart c d r q a k.day allowed refused)))

    abbrev uses : Option Use
    uses = first_use r.receipt (uses_from 1 f.rows.loans)

    abbrev its : Option Ledger
    its = item_numbered f.rows.loans r.loan.number

    abbrev WasTold : SheetResult → Type 0
    WasTold t = IsToldAgain (by_ledger c r k uses its) t

    -- the receipt is another
    receipt_apart : bytes_eq q.receipt r.receipt ≡ false → by_ledger c r k uses its ≢ Entered
        → WasTold (by_ledger c r k (first_use r.receipt (uses_from 1 loans_now))
        (item_numbered loans_now r.loan.number))
    receipt_apart apart n =
        subst (λ u. WasTold (by_ledger c r k u (item_numbered loans_now r.loan.number)))
        (sym (used_as_before q.loan.number one r.receipt q.receipt f.rows.loans refl apart)) (
        elim (cases_eq r.loan.number q.loan.number) [
          | inl is ↦
              let was : its ≡ Some l = ap (item_numbered f.rows.loans) is ∙ there in
              subst (λ o. WasTold (by_ledger c r k uses o)) (sym (ap (item_numbered loans_now) is ∙ its_loan)) (
              subst (λ o. IsToldAgain (by_ledger c r k uses o) (by_use c r k uses (with_new_entry one l))) (sym was) (
              same_loan uses (λ e. n (ap (by_ledger c r k uses) was ∙ e))
              )
              )
          | inr other ↦ alike (by_ledger c r k uses its) _ (ap (by_ledger c r k uses)
              (numbered_kept q.loan.number r.loan.number (with_new_entry one) f.rows.loans l there other)) n
        ]
        )

    -- the receipt is the same
    receipt_taken : q.receipt ≡ r.receipt → by_ledger c r k uses its ≢ Entered
        → WasTold (by_ledger c r k (first_use r.receipt (uses_from 1 loans_now))
        (item_numbered loans_now r.loan.number))
    receipt_taken same n =
        let was : uses ≡ None = ap (λ t. first_use t (uses_from 1 f.rows.loans)) (sym same) ∙ free in
        let not : by_ledger c r k None its ≢ Entered = λ e. n (ap (λ u. by_ledger c r k u its) was ∙ e) in
        subst (λ u. IsToldAgain (by_ledger c r k u its) (by_ledger c r k (first_use r.receipt (uses_from 1 loans_now))
        (item_numbered loans_now r.loan.number))) (sym was) (
        subst (λ u. IsToldAgain (by_ledger c r k None its) (by_ledger c r k u (item_numbered loans_now r.loan.number)))
        (sym (ap (λ t. first_use t (uses_from 1 loans_now)) (sym same) ∙ its_use)) (
        elim (cases_eq r.loan.number q.loan.number) [
          | inl is ↦
              let had : its ≡ Some l = ap (item_numbered f.rows.loans) is ∙ there in
              subst (λ o. IsToldAgain (by_ledger c r k None its) (by_ledger c r k (Some use_now) o))
              (sym (ap (item_numbered loans_now) is ∙ its_loan)) (
              subst (λ o. IsToldAgain (by_ledger c r k None o) (by_use c r k (Some use_now) (with_new_entry one l)))
              (sym had) (
              same_both (λ e. not (ap (by_ledger c r k None) had ∙ e))
              )
              )
          | inr other ↦
              let apart : (q.loan.number == r.loan.number) ≡ false = grind (arith, nat_tests) in
              subst (λ o. IsToldAgain (by_ledger c r k None its) (by_ledger c r k (Some use_now) o))
              (sym (numbered_kept q.loan.number r.loan.number (with_new_entry one) f.rows.loans l there other))
              (other_loan apart its not)
        ]
        )
        )

    pub told_in_office : by_office c r k (Some f) ≢ Entered → IsToldAgain (by_office c r k (Some f))
        (by_office c r k (Some (record f { rows = loan_changed q.loan.number (with_new_entry one) f.rows })))
    told_in_office n = by_receipt (bytes_eq q.receipt r.receipt) refl
      where
        by_receipt : (b : Bool) → bytes_eq q.receipt r.receipt ≡ b
            → WasTold (by_ledger c r k (first_use r.receipt (uses_from 1 loans_now))
            (item_numbered loans_now r.loan.number))
        by_receipt false e = receipt_apart e n
        by_receipt true e = receipt_taken ((bytes_eq-Decides q.receipt r.receipt).0 e) n

  pub repeated_in_office : by_office d q k
      (Some (record f { rows = loan_changed q.loan.number (with_new_entry one) f.rows })) ≡ Repeated
  repeated_in_office =
      ap (λ u. by_ledger d q k u (item_numbered loans_now q.loan.number)) its_use
      ∙ ap (by_ledger d q k (Some use_now)) its_loan
      ∙ ap as_repeat (the_same q.loan.number one)

-- what somebody sees of an office, and who is known, after its rows changed
pub found_seen : (o x : ℕ) (i : Institution) (f : Office) → seen_office o x i ≡ Some f
    → (is_at_or_below (parent_of i.offices) x o ≡ true) × (office_at x i.offices ≡ Some f)
found_seen o x i f h = either (is_at_or_below (parent_of i.offices) x o) h
  where
    either : (b : Bool) → cond b (office_at x i.offices) None ≡ Some f → (b ≡ true) × (office_at x i.offices ≡ Some f)
    either true h = (refl, h)
    either false h = absurd (cc)

seen_after : (o y x : ℕ) (rows : Rows) (i : Institution) → seen_office o y (after (Rows_become x rows) i)
    ≡ cond (is_at_or_below (parent_of i.offices) y o) (office_at y (with_rows x rows i.offices)) None
seen_after o y x rows i =
    ap (λ b. cond b (office_at y (with_rows x rows i.offices)) None) (below_with_rows x rows i.offices y o)

pub rows_at_office : (x : ℕ) (rows : Rows) (i : Institution) (f : Office) → office_at x i.offices ≡ Some f
    → office_at x (with_rows x rows i.offices) ≡ Some (record f { rows = rows })
rows_at_office x rows i f h = rows_found x rows i.offices ∙ ap (option_map (λ (g : Office). record g { rows = rows })) h

staff_of : ℕ → Option Office → Option Staff
staff_of n o = elim o [ None ↦ None | Some f ↦ item_numbered f.rows.staff n ]

staff_kept : (x : ℕ) (rows : Rows) (i : Institution) (f : Office) (c : Caller) → office_at x i.offices ≡ Some f
    → rows.staff ≡ f.rows.staff → staff_at (after (Rows_become x rows) i) c ≡ staff_at i c
unfolding staff_of
staff_kept x rows i f c h same =
    elim (cases_eq c.office x) [
      | inl is ↦
          ap (λ y. staff_of c.staff (office_at y (with_rows x rows i.offices))) is ∙ ap (staff_of c.staff)
          (rows_at_office x rows i f h)
          ∙ ap (λ ss. item_numbered ss c.staff) same
          ∙ sym (ap (λ y. staff_of c.staff (office_at y i.offices)) is ∙ ap (staff_of c.staff) h)
      | inr other ↦ ap (staff_of c.staff) (others_stay x c.office rows i.offices other)
    ]

-- One repayment was entered. What another was told before and is told now.
module _ (d : Caller) (q : SheetRepayment) (i : Institution) (w : Entering d q i) where
  abbrev pub rows_now : Rows
  rows_now = loan_changed q.loan.number (with_new_entry (entry_of d q w.account)) w.office.rows

  abbrev now : Institution
  now = after (entered_change d q i w) i

  its_office : office_at q.loan.office i.offices ≡ Some w.office
  its_office = (found_seen d.office q.loan.office i w.office w.seen).1

  pub staff_stay : (c : Caller) → staff_at now c ≡ staff_at i c
  staff_stay c = staff_kept q.loan.office rows_now i w.office c its_office refl

  pub repeated_now : judged d q now ≡ Repeated
  repeated_now =
      ap (λ s. by_staff d q i.catalogue s (seen_office d.office q.loan.office now)) (staff_stay d ∙ w.known)
      ∙ ap (by_office d q i.catalogue) (
      seen_after d.office q.loan.office q.loan.office rows_now i
      ∙ ap (λ b. cond b (office_at q.loan.office (with_rows q.loan.office rows_now i.offices)) None)
      (found_seen d.office q.loan.office i w.office w.seen).0
      ∙ rows_at_office q.loan.office rows_now i w.office its_office
      )
      ∙ repeated_in_office d q i.catalogue w.office w.ledger w.account w.free w.there w.account_is w.allowed

  module _ (c : Caller) (r : SheetRepayment) where
    -- the offices that the caller sees
    abbrev sees : Bool
    sees = is_at_or_below (parent_of i.offices) r.loan.office c.office

    at_office : (b : Bool) → by_office c r i.catalogue (cond b (Some w.office) None) ≢ Entered
        → IsToldAgain (by_office c r i.catalogue (cond b (Some w.office) None))
        (by_office c r i.catalogue (cond b (Some (record w.office { rows = rows_now })) None))
    at_office true n = told_in_office d q i.catalogue w.office w.ledger w.account w.free w.there w.account_is w.allowed
        c r n
    at_office false n = (F4, refl, inl refl)

    at_seen : by_office c r i.catalogue (seen_office c.office r.loan.office i) ≢ Entered
        → IsToldAgain (by_office c r i.catalogue (seen_office c.office r.loan.office i))
        (by_office c r i.catalogue (seen_office c.office r.loan.office now))
    at_seen n =
        elim (cases_eq r.loan.office q.loan.office) [
          | inl is ↦
              let before : seen_office c.office r.loan.office i ≡ cond sees (Some w.office) None =
              ap (λ o. cond sees o None) (ap (λ x. office_at x i.offices) is ∙ its_office) in
              let behind : seen_office c.office r.loan.office now
              ≡ cond sees (Some (record w.office { rows = rows_now })) None =
              seen_after c.office r.loan.office q.loan.office rows_now i
              ∙ ap (λ o. cond sees o None) (ap (λ x. office_at x (with_rows q.loan.office rows_now i.offices)) is
              ∙ rows_at_office q.loan.office rows_now i w.office its_office)
              in
              subst (λ o. IsToldAgain (by_office c r i.catalogue o)
              (by_office c r i.catalogue (seen_office c.office r.loan.office now))) (sym before) (
              subst (λ o. IsToldAgain (by_office c r i.catalogue (cond sees (Some w.office) None))
              (by_office c r i.catalogue o)) (sym behind) (
              at_office sees (λ e. n (ap (by_office c r i.catalogue) before ∙ e))
              )
              )
          | inr other ↦
              alike (by_office c r i.catalogue (seen_office c.office r.loan.office i)) _ (
              ap (by_office c r i.catalogue) (seen_after c.office r.loan.office q.loan.office rows_now i
              ∙ ap (λ o. cond sees o None) (others_stay q.loan.office r.loan.office rows_now i.offices other))
              ) n
        ]

    at_staff : (s : Option Staff) → by_staff c r i.catalogue s (seen_office c.office r.loan.office i) ≢ Entered
        → IsToldAgain (by_staff c r i.catalogue s (seen_office c.office r.loan.office i))
        (by_staff c r i.catalogue s (seen_office c.office r.loan.office now))
    at_staff None n = (F2, refl, inl refl)
    at_staff (Some s) n = at_seen n

    pub told_now : judged c r i ≢ Entered → IsToldAgain (judged c r i) (judged c r now)
    told_now n =
        subst (λ s. IsToldAgain (judged c r i) (by_staff c r i.catalogue s (seen_office c.office r.loan.office now)))
        (sym (staff_stay c)) (at_staff (staff_at i c) n)
