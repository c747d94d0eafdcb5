-- A repayment with a receipt that was accepted once is a repeat ever after.
use Rattle.std.proofs.Common.{◌≡◌, ℕ, suc, ◌+◌, Bool, true, false, cond, List, [], ◌∷◌, ◌++◌, Option, Some, None}
use Rattle.std.proofs.Common.{Result, Ok, Err, inl, inr, refl, sym, ap, ◌∙◌, arith}
use Rattle.std.specs.Prelude.{◌==◌, ◌&&◌, is_some, slice_get}
use Rattle.std.specs.Str.{bytes_eq}
use Rattle.std.specs.Option.{option_or}
use Rattle.std.proofs.lemmas.Bool.Decides.{nat_tests}
use Rattle.std.proofs.lemmas.List.Folds.{find-append}
use Rattle.mf_base.specs.declared.fault.Fault.{Fault}
use Rattle.mf_base.specs.declared.fault.Fault.TheVariants.{F15}
use Rattle.mf_office.specs.declared.caller.Caller.{Caller}
use Rattle.mf_office.specs.Tree.{is_at_or_below}
use Rattle.mf_account.specs.declared.entry.Entry.{Entry}
use Rattle.mf_model.specs.declared.loan.ReceiptUse.{ReceiptUse}
use Rattle.mf_model.specs.declared.reply.Reply.TheVariants as reply
use Rattle.mf_model.specs.declared.reply.LoanReply.TheVariants as loan_reply
use Rattle.mf_model.specs.Institution.{Institution, Ledger, Office, Staff, Change, Catalogue_becomes, Rows_become}
use Rattle.mf_model.specs.Institution.{Office_added, new_office, office_at, item_numbered, Noted, after, after_noted}
use Rattle.mf_model.specs.Institution.{after_line}
use Rattle.mf_model.specs.Tree.{parent_of, seen_office, is_there, Fits}
use Rattle.mf_model.specs.Desk.{outcome, reply_in, change_in, plan, staff_at}
use Rattle.mf_model.specs.Receipts.{Use, use_by, use_of, uses_in, uses_from, first_use, repeated_seq}
use Rattle.mf_model.specs.Run.{Line, next, noted_of, last}
use Rattle.mf_model.specs.Answering.{line_answered}
use Rattle.mf_model.specs.Sound.{IsSound, IsInRange, AreInRange}
use Rattle.mf_model.specs.Store.{rows_of, use_at}
use Rattle.mf_model.proofs.Lasting.{known_last}
use Rattle.mf_model.proofs.SoundLemmas.{IsSoundChange, by_sound, next_sound}
use Rattle.mf_model.proofs.StaffLemmas.{staff_with_rows, staff_with_office}
use Rattle.mf_model.proofs.Steps.{KnownLine, known_line}
use Rattle.mf_model.proofs.Views.{closed, apart}
use Rattle.mf_model.proofs.Within.{below_with_rows, below_with_office}
use Rattle.mf_sheet_lines.specs.declared.line.SheetRepayment.{SheetRepayment}
use Rattle.mf_sheet_lines.specs.declared.line.SheetLine.TheVariants.{Repay}
use Rattle.mf_sheet_lines.specs.declared.results.SheetResult.TheVariants.{Repeated}
use Rattle.mf_sheet.specs.Lines.{call_of_line, request_of_line}
use Rattle.mf_sheet.specs.Again.{IsTaken}
use Rattle.mf_sheet.proofs.Uses.{numbered_at, used_now}
use Rattle.mf_sheet.proofs.Judging.{entry_of, as_repeat, by_staff, by_office, by_ledger, judged, Entering, Repeating}
use Rattle.mf_sheet.proofs.Judging.{entered_change, every_repayment, repeated_so}
use Rattle.mf_sheet.proofs.Again.{the_same, found_seen, rows_now, rows_at_office, staff_stay}

-- a receipt that is used is used by a loan that is there
used_in : (r : List ℕ) (n : ℕ) (es : List Entry) (u : Use) → first_use r (uses_in n es) ≡ Some u → u.by.loan ≡ n
used_in r n [] u h = absurd (cc)
used_in r n (e ∷ es) u h = at e.receipt (used_in r n es u) h
  where
    either : (t : List ℕ) (b : Bool) → (first_use r (uses_in n es) ≡ Some u → u.by.loan ≡ n)
        → cond b (Some (record { receipt = t; by = use_by n e })) (first_use r (uses_in n es)) ≡ Some u → u.by.loan ≡ n
    either t true rest h = let same : record { receipt = t; by = use_by n e } ≡ u =
        cc in ap (λ (v : Use). v.by.loan) (sym same)
    either t false rest h = rest h

    at : (o : Option (List ℕ)) → (first_use r (uses_in n es) ≡ Some u → u.by.loan ≡ n)
        → first_use r (use_of o n e ++ uses_in n es) ≡ Some u → u.by.loan ≡ n
    at None rest h = rest h
    at (Some t) rest h = either t (bytes_eq t r) rest h

used_from : (r : List ℕ) (m : ℕ) (ls : List Ledger) (u : Use) → first_use r (uses_from m ls) ≡ Some u → (k : ℕ)
    × (l : Ledger) × (u.by.loan ≡ m + k) × (slice_get ls k ≡ Some l)
used_from r m [] u h = absurd (cc)
used_from r m (l ∷ ls) u h =
    at (first_use r (uses_in m l.entries)) refl (used_from r (m + 1) ls u)
    (sym (find-append (λ (v : Use). bytes_eq v.receipt r) (uses_in m l.entries) (uses_from (m + 1) ls)) ∙ h)
  where
    at : (o : Option Use) → first_use r (uses_in m l.entries) ≡ o → (first_use r (uses_from (m + 1) ls) ≡ Some u
        → (k : ℕ) × (x : Ledger) × (u.by.loan ≡ (m + 1) + k) × (slice_get ls k ≡ Some x))
        → option_or o (first_use r (uses_from (m + 1) ls)) ≡ Some u → (k : ℕ) × (x : Ledger) × (u.by.loan ≡ m + k)
        × (slice_get (l ∷ ls) k ≡ Some x)
    at (Some v) e rest h = let here = used_in r m l.entries u (e ∙ h) in (0, l, omega (arith, here), refl)
    at None e rest h = let w = rest h in (suc w.0, w.1, omega (arith, w.2), w.3)

loan_there : (r : List ℕ) (ls : List Ledger) (u : Use) → first_use r (uses_from 1 ls) ≡ Some u → (l : Ledger)
    × (item_numbered ls u.by.loan ≡ Some l)
loan_there r ls u h =
    let w = used_from r 1 ls u h in
    let number : u.by.loan ≡ suc w.0 = omega (arith, w.2) in
    (w.1, ap (item_numbered ls) number ∙ numbered_at ls w.0 w.1 w.3)

-- what is repeated is of the loan that it names
of_this_loan : (n amount day seq : ℕ) (by : ReceiptUse) → repeated_seq n amount day by ≡ Ok seq → by.loan ≡ n
of_this_loan n amount day seq by h = either (by.loan == n) refl h
  where
    either : (b : Bool) → (by.loan == n) ≡ b → cond (b && ((by.amount == amount) && (by.day == day))) (Ok by.seq)
        (Err F15) ≡ Ok seq → by.loan ≡ n
    either true e h = grind (arith, nat_tests)
    either false e h = absurd (cc)

-- what a repayment that was accepted leaves, and what lasts of it: who sent it is known and sees the office, and the
-- receipt is used by that entry
pub record Taken (c : Caller) (r : SheetRepayment) (seq : ℕ) (i : Institution) : Type 0 where
  known : is_some (staff_at i c) ≡ true
  sees : is_at_or_below (parent_of i.offices) r.loan.office c.office ≡ true
  was : Use
  used_is : use_at r.loan.office r.receipt i ≡ Some was
  same : repeated_seq r.loan.number r.amount r.day was.by ≡ Ok seq

office_of_use : (x : ℕ) (receipt : List ℕ) (u : Use) (i : Institution) → use_at x receipt i ≡ Some u → (f : Office)
    × (office_at x i.offices ≡ Some f) × (first_use receipt (uses_from 1 f.rows.loans) ≡ Some u)
office_of_use x receipt u i h = at (office_at x i.offices) refl h
  where
    at : (o : Option Office) → office_at x i.offices ≡ o → first_use receipt (uses_from 1 (rows_of o).loans) ≡ Some u
        → (f : Office) × (office_at x i.offices ≡ Some f) × (first_use receipt (uses_from 1 f.rows.loans) ≡ Some u)
    at None e h = absurd (cc)
    at (Some f) e h = (f, e, h)

staff_there : (o : Option Staff) → is_some o ≡ true → (s : Staff) × (o ≡ Some s)
staff_there None h = absurd (cc)
staff_there (Some s) h = (s, refl)

same_number : (a b : ℕ) (o : Result ℕ Fault) → o ≡ Ok a → o ≡ Ok b → a ≡ b
same_number a b o p q = cc

-- at whatever institution it was taken it is a repeat
module _ (c : Caller) (r : SheetRepayment) (seq : ℕ) (i : Institution) (t : Taken c r seq i) where
  its_office : (f : Office) × (office_at r.loan.office i.offices ≡ Some f)
      × (first_use r.receipt (uses_from 1 f.rows.loans) ≡ Some t.was)
  its_office = office_of_use r.loan.office r.receipt t.was i t.used_is

  office_seen : seen_office c.office r.loan.office i ≡ Some its_office.0
  office_seen = ap (λ b. cond b (office_at r.loan.office i.offices) None) t.sees ∙ its_office.1

  told_so : judged c r i ≡ Repeated
  told_so =
      let s = staff_there (staff_at i c) t.known in
      let l = loan_there r.receipt its_office.0.rows.loans t.was its_office.2 in
      let there : item_numbered its_office.0.rows.loans r.loan.number ≡ Some l.0 =
      ap (item_numbered its_office.0.rows.loans)
      (sym (of_this_loan r.loan.number r.amount r.day seq t.was.by t.same)) ∙ l.1 in
      ap (λ o. by_staff c r i.catalogue o (seen_office c.office r.loan.office i)) s.1
      ∙ ap (by_office c r i.catalogue) office_seen
      ∙ ap (λ u. by_ledger c r i.catalogue u (item_numbered its_office.0.rows.loans r.loan.number)) its_office.2
      ∙ ap (by_ledger c r i.catalogue (Some t.was)) there
      ∙ ap as_repeat t.same

  pub taken_told : outcome (call_of_line [] c (Repay r)) i ≡ Ok (reply.Loan r.loan (loan_reply.Repeated seq), None)
  taken_told =
      let w = repeated_so c r i told_so in
      let office : w.1.office ≡ its_office.0 = let e : Some w.1.office ≡ Some its_office.0 =
      sym w.1.seen ∙ office_seen in cc in
      let same : w.1.was ≡ t.was = let e : Some w.1.was ≡ Some t.was = sym w.1.used_is
      ∙ ap (λ (f : Office). first_use r.receipt (uses_from 1 f.rows.loans)) office ∙ its_office.2 in cc in
      let number : w.0 ≡ seq = same_number w.0 seq (repeated_seq r.loan.number r.amount r.day t.was.by)
      (sym (ap (λ (u : Use). repeated_seq r.loan.number r.amount r.day u.by) same) ∙ w.1.same) t.same in
      w.2 ∙ ap (λ n. Ok (reply.Loan r.loan (loan_reply.Repeated n), None)) number

-- what is noted doesn't matter
taken_noted : (c : Caller) (r : SheetRepayment) (seq : ℕ) (noted : Noted) (change : Change) (i : Institution)
    → Taken c r seq (after change i) → Taken c r seq (after_noted noted change i)
taken_noted c r seq noted change i t =
    record { known = t.known; sees = t.sees; was = t.was; used_is = t.used_is; same = t.same }

-- it is taken wherever it is accepted
module _ (c : Caller) (r : SheetRepayment) (seq : ℕ) (i : Institution) where
  repeats : (n : ℕ) → Repeating c r i n → IsTaken r.loan seq (Ok (reply.Loan r.loan (loan_reply.Repeated n)))
      → Taken c r seq i
  repeats n w taken =
      let number : n ≡ seq = elim taken [ inl e ↦ absurd (cc) | inr e ↦ cc ] in
      let seen = found_seen c.office r.loan.office i w.office w.seen in
      record {
        known = ap (λ o. is_some o) w.known;
        sees = seen.0;
        was = w.was;
        used_is = ap (λ o. first_use r.receipt (uses_from 1 (rows_of o).loans)) seen.1 ∙ w.used_is;
        same = w.same ∙ ap Ok number;
      }

  enters : (w : Entering c r i)
      → IsTaken r.loan seq (Ok (reply.Loan r.loan (loan_reply.Entered (entry_of c r w.account).seq)))
      → Taken c r seq (after (entered_change c r i w) i)
  enters w taken =
      let e : Entry = entry_of c r w.account in
      let number : e.seq ≡ seq = elim taken [ inl h ↦ cc | inr h ↦ absurd (cc) ] in
      let seen = found_seen c.office r.loan.office i w.office w.seen in
      record {
        known = ap (λ o. is_some o) (staff_stay c r i w c ∙ w.known);
        sees = below_with_rows r.loan.office (rows_now c r i w) i.offices r.loan.office c.office ∙ seen.0;
        was = record { receipt = r.receipt; by = use_by r.loan.number e };
        used_is =
            ap (λ o. first_use r.receipt (uses_from 1 (rows_of o).loans))
            (rows_at_office r.loan.office (rows_now c r i w) i w.office seen.1)
            ∙ used_now r.loan.number e r.receipt w.office.rows.loans w.ledger refl w.free w.there;
        same = the_same r.loan.number e ∙ ap Ok number;
      }

  taken_next : (told : List ℕ) → IsTaken r.loan seq (reply_in (outcome (call_of_line told c (Repay r)) i))
      → Taken c r seq (next (line_answered (call_of_line told c (Repay r))) i)
  taken_next told =
      let noted : Noted = noted_of (call_of_line told c (Repay r)) i in
      every_repayment c r i (λ o t. IsTaken r.loan seq (reply_in o) → Taken c r seq (after_line noted (change_in o) i))
      (λ fault taken. absurd (elim taken [ inl e ↦ cc | inr e ↦ cc ])) repeats
      (λ w taken. taken_noted c r seq noted (entered_change c r i w) i (enters w taken))

-- it stays taken, whatever line comes
module _ (c : Caller) (r : SheetRepayment) (seq : ℕ) where
  office_is_there : (i : Institution) → Taken c r seq i → is_there i.offices r.loan.office ≡ true
  office_is_there i t = ap (λ o. is_some o) (its_office c r seq i t).1

  taken_after : (change : Change) (i : Institution) → IsSound i → Fits change i.offices → IsSoundChange i change
      → Taken c r seq i → use_at r.loan.office r.receipt (after change i) ≡ use_at r.loan.office r.receipt i
      → Taken c r seq (after change i)
  taken_after (Catalogue_becomes catalogue) i s fit is t used =
      record { known = t.known; sees = t.sees; was = t.was; used_is = used ∙ t.used_is; same = t.same }
  taken_after (Rows_become x rows) i s fit is t used = record {
    known = staff_with_rows x rows i.offices is.1 c t.known;
    sees = below_with_rows x rows i.offices r.loan.office c.office ∙ t.sees;
    was = t.was;
    used_is = used ∙ t.used_is;
    same = t.same;
  }
  taken_after (Office_added number parent name) i s fit is t used = record {
    known = staff_with_office (new_office number parent name) i.offices fit.free c t.known;
    sees = below_with_office (new_office number parent name) i.offices r.loan.office c.office fit.free (closed i.offices
        number s.tree fit.free) (apart i.offices r.loan.office number (office_is_there i t) fit.free) ∙ t.sees;
    was = t.was;
    used_is = used ∙ t.used_is;
    same = t.same;
  }

  taken_by : (l : Line) (i : Institution) → IsSound i → IsInRange l.call.request → Taken c r seq i
      → Taken c r seq (next l i)
  taken_by l i s range t = step l.given_up (change_in (outcome l.call i)) refl (known_last (l ∷ []) i s (range, tt)
      r.loan.office r.receipt t.was t.used_is)
    where
      step : (g : Bool) (o : Option Change) → change_in (outcome l.call i) ≡ o → use_at r.loan.office r.receipt
          (after_line (noted_of l.call i) (cond g None o) i) ≡ Some t.was
          → Taken c r seq (after_line (noted_of l.call i) (cond g None o) i)
      step true o e used = t
      step false None e used = t
      step false (Some change) e used =
          let w : KnownLine l.call.caller (plan l.call.request) i change =
          known_line l.call.caller l.call.request (plan l.call.request) i change s.tree refl e in
          taken_noted c r seq (noted_of l.call i) change i (taken_after change i s w.fits
          (by_sound l.call.caller l.call.request i change s range e w.made_is) t (used ∙ sym t.used_is))

  taken_last : (ls : List Line) (i : Institution) → IsSound i → AreInRange ls → Taken c r seq i
      → Taken c r seq (last ls i)
  taken_last [] i s range t = t
  taken_last (l ∷ ls) i s range t =
      taken_last ls (next l i) (next_sound l i s range.0) range.1 (taken_by l i s range.0 t)

  pub told_ever_after : (told also : List ℕ) (i : Institution) (ls : List Line) → IsSound i → IsInRange
      (request_of_line (Repay r))
      → AreInRange ls
      → IsTaken r.loan seq (reply_in (outcome (call_of_line told c (Repay r)) i))
      → outcome (call_of_line also c (Repay r)) (last ls (next (line_answered (call_of_line told c (Repay r))) i))
      ≡ Ok (reply.Loan r.loan (loan_reply.Repeated seq), None)
  told_ever_after told also i ls s range ranges taken =
      let j : Institution = next (line_answered (call_of_line told c (Repay r))) i in
      taken_told c r seq (last ls j) (taken_last ls j (next_sound
      (line_answered (call_of_line told c (Repay r))) i s range)
      ranges (taken_next c r seq i told taken))
