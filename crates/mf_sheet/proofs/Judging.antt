-- What a repayment is told by an institution, and what it changes there.
use Rattle.std.proofs.Common.{◌≡◌, ◌≢◌, ℕ, [], Option, Some, None, Result, Ok, Err, refl}
use Rattle.mf_base.specs.declared.fault.Fault.{Fault}
use Rattle.mf_base.specs.declared.fault.Fault.TheVariants.{F2, F4, F9}
use Rattle.mf_office.specs.declared.caller.Caller.{Caller}
use Rattle.mf_account.specs.declared.entry.Entry.{Entry}
use Rattle.mf_account.specs.Loan.{DisbursedLoan}
use Rattle.mf_account.specs.Refusals.{refusal_of}
use Rattle.mf_model.specs.declared.request.Repayment.{Repayment}
use Rattle.mf_model.specs.declared.request.LoanRequest.TheVariants as asks
use Rattle.mf_model.specs.declared.reply.Reply.TheVariants as reply
use Rattle.mf_model.specs.declared.reply.LoanReply.TheVariants as loan_reply
use Rattle.mf_model.specs.Institution.{Institution, Catalogue, Office, Ledger, Staff, Change, Rows_become}
use Rattle.mf_model.specs.Institution.{item_numbered}
use Rattle.mf_model.specs.Tree.{seen_office}
use Rattle.mf_model.specs.Accounts.{account_in}
use Rattle.mf_model.specs.Desk.{Plan, On_office, Outcome, outcome, reply_in, change_in, of_office, in_office}
use Rattle.mf_model.specs.Desk.{where_permitted, staff_at}
use Rattle.mf_model.specs.Loans.{on_loan, in_loan, of_loan, repay, repeat_of, unless_known, unless_fault, fault_or}
use Rattle.mf_model.specs.Loans.{enter, with_new_entry, none_first, loan_changed, repayment}
use Rattle.mf_model.specs.Outcomes.{where_found}
use Rattle.mf_model.specs.Receipts.{Use, uses_from, first_use, repeated_seq}
use Rattle.mf_sheet_lines.specs.declared.line.SheetRepayment.{SheetRepayment}
use Rattle.mf_sheet_lines.specs.declared.line.SheetLine.TheVariants.{Repay}
use Rattle.mf_sheet_lines.specs.declared.results.SheetResult.{SheetResult}
use Rattle.mf_sheet_lines.specs.declared.results.SheetResult.TheVariants.{Entered, Repeated, Refused}
use Rattle.mf_sheet.specs.Lines.{request_of_line, call_of_line, result_of}

-- the repayment that a line asks for
abbrev pub asked : SheetRepayment → Repayment
asked r = record { amount = r.amount; day = r.day; receipt = Some r.receipt }

-- the entry that it would be
abbrev pub entry_of : Caller → SheetRepayment → DisbursedLoan → Entry
entry_of c r a = repayment (asked r) c a

-- what a repayment is told by the account, by the receipts and the loans of its office, by the office and by whoever
-- sends it
abbrev pub account_fault : Caller → SheetRepayment → ℕ → Option DisbursedLoan → Option Fault
account_fault c r day None = Some F9
account_fault c r day (Some a) = refusal_of a (entry_of c r a) day

abbrev pub as_entry : Option Fault → SheetResult
as_entry None = Entered
as_entry (Some fault) = Refused fault

abbrev pub as_repeat : Result ℕ Fault → SheetResult
as_repeat (Ok seq) = Repeated
as_repeat (Err fault) = Refused fault

abbrev pub by_use : Caller → SheetRepayment → Catalogue → Option Use → Ledger → SheetResult
by_use c r k (Some u) l = as_repeat (repeated_seq r.loan.number r.amount r.day u.by)
by_use c r k None l = as_entry (account_fault c r k.day (account_in k l))

abbrev pub by_ledger : Caller → SheetRepayment → Catalogue → Option Use → Option Ledger → SheetResult
by_ledger c r k u None = Refused F4
by_ledger c r k u (Some l) = by_use c r k u l

abbrev pub by_office : Caller → SheetRepayment → Catalogue → Option Office → SheetResult
by_office c r k None = Refused F4
by_office c r k (Some f) =
    by_ledger c r k (first_use r.receipt (uses_from 1 f.rows.loans)) (item_numbered f.rows.loans r.loan.number)

abbrev pub by_staff : Caller → SheetRepayment → Catalogue → Option Staff → Option Office → SheetResult
by_staff c r k None f = Refused F2
by_staff c r k (Some s) f = by_office c r k f

abbrev pub judged : Caller → SheetRepayment → Institution → SheetResult
judged c r i = by_staff c r i.catalogue (staff_at i c) (seen_office c.office r.loan.office i)

-- a repayment that is entered
pub record Entering (c : Caller) (r : SheetRepayment) (i : Institution) : Type 0 where
  pub staff : Staff
  pub office : Office
  pub ledger : Ledger
  pub account : DisbursedLoan
  pub known : staff_at i c ≡ Some staff
  pub seen : seen_office c.office r.loan.office i ≡ Some office
  pub free : first_use r.receipt (uses_from 1 office.rows.loans) ≡ None
  pub there : item_numbered office.rows.loans r.loan.number ≡ Some ledger
  pub account_is : account_in i.catalogue ledger ≡ Some account
  pub allowed : refusal_of account (entry_of c r account) i.catalogue.day ≡ None

-- what it changes
abbrev pub entered_change : (c : Caller) (r : SheetRepayment) (i : Institution) → Entering c r i → Change
entered_change c r i w =
    Rows_become r.loan.office (loan_changed r.loan.number (with_new_entry (entry_of c r w.account)) w.office.rows)

-- a repayment whose receipt is known, as that of the entry of this number
pub record Repeating (c : Caller) (r : SheetRepayment) (i : Institution) (seq : ℕ) : Type 0 where
  pub staff : Staff
  pub office : Office
  pub was : Use
  pub known : staff_at i c ≡ Some staff
  pub seen : seen_office c.office r.loan.office i ≡ Some office
  pub used_is : first_use r.receipt (uses_from 1 office.rows.loans) ≡ Some was
  pub same : repeated_seq r.loan.number r.amount r.day was.by ≡ Ok seq

-- What is so of a refusal, of a repetition and of an entry is so of every repayment.
module _ (c : Caller) (r : SheetRepayment) (i : Institution) (P : Outcome → SheetResult → Type 0)
    (refused : (fault : Fault) → P (Err fault) (Refused fault))
    (again : (seq : ℕ) → Repeating c r i seq → P (Ok (reply.Loan r.loan (loan_reply.Repeated seq), None)) Repeated)
    (enters : (w : Entering c r i) → P (Ok (
      reply.Loan r.loan (loan_reply.Entered (entry_of c r w.account).seq),
      Some (entered_change c r i w),
    )) Entered) where
  module _ (s : Staff) (known : staff_at i c ≡ Some s) (f : Office) (seen : seen_office c.office r.loan.office i
      ≡ Some f) where
    at_account : (l : Ledger) → item_numbered f.rows.loans r.loan.number ≡ Some l
        → first_use r.receipt (uses_from 1 f.rows.loans) ≡ None → (o : Option DisbursedLoan) → account_in i.catalogue l
        ≡ o
        → P (of_office r.loan.office (of_loan r.loan f.rows (enter none_first (λ today. repayment (asked r) c)
        i.catalogue o))) (as_entry (account_fault c r i.catalogue.day o))
    at_account l there free None e = refused F9
    at_account l there free (Some a) e = at_fault (refusal_of a (entry_of c r a) i.catalogue.day) refl
      where
        at_fault : (o : Option Fault) → refusal_of a (entry_of c r a) i.catalogue.day ≡ o
            → P (of_office r.loan.office (of_loan r.loan f.rows (unless_fault (fault_or None o)
            (loan_reply.Entered (entry_of c r a).seq) (with_new_entry (entry_of c r a))))) (as_entry o)
        at_fault None allowed = enters (record {
          staff = s;
          office = f;
          ledger = l;
          account = a;
          known = known;
          seen = seen;
          free = free;
          there = there;
          account_is = e;
          allowed = allowed;
        })
        at_fault (Some fault) e = refused fault

    at_repeat : (u : Use) → first_use r.receipt (uses_from 1 f.rows.loans) ≡ Some u → (o : Result ℕ Fault)
        → repeated_seq r.loan.number r.amount r.day u.by ≡ o
        → P (of_office r.loan.office (of_loan r.loan f.rows (repeat_of o))) (as_repeat o)
    at_repeat u e (Ok seq) same =
        again seq (record { staff = s; office = f; was = u; known = known; seen = seen; used_is = e; same = same })
    at_repeat u e (Err fault) same = refused fault

    at_use : (l : Ledger) → item_numbered f.rows.loans r.loan.number ≡ Some l → (u : Option Use)
        → first_use r.receipt (uses_from 1 f.rows.loans) ≡ u
        → P (of_office r.loan.office (of_loan r.loan f.rows (unless_known r.loan.number (asked r) u (enter none_first
        (λ today. repayment (asked r) c) i.catalogue (account_in i.catalogue l))))) (by_use c r i.catalogue u l)
    at_use l there None free = at_account l there free (account_in i.catalogue l) refl
    at_use l there (Some u) e = at_repeat u e (repeated_seq r.loan.number r.amount r.day u.by) refl

    at_ledger : (o : Option Ledger) → item_numbered f.rows.loans r.loan.number ≡ o
        → P (of_office r.loan.office (where_found o (λ l. of_loan r.loan f.rows (repay (asked r) c i.catalogue f.rows
        r.loan.number l)))) (by_ledger c r i.catalogue (first_use r.receipt (uses_from 1 f.rows.loans)) o)
    at_ledger None e = refused F4
    at_ledger (Some l) e = at_use l e (first_use r.receipt (uses_from 1 f.rows.loans)) refl

  at_office : (s : Staff) → staff_at i c ≡ Some s → (o : Option Office) → seen_office c.office r.loan.office i ≡ o
      → P (in_office r.loan.office (λ catalogue f. in_loan r.loan (on_loan (asks.Repay (asked r)) c catalogue f.rows
      r.loan.number) f.rows) i.catalogue o) (by_office c r i.catalogue o)
  at_office s known None e = refused F4
  at_office s known (Some f) e = at_ledger s known f e (item_numbered f.rows.loans r.loan.number) refl

  looked_at : Plan
  looked_at = On_office r.loan.office (λ caller catalogue f. in_loan r.loan (on_loan (asks.Repay (asked r)) caller
      catalogue f.rows r.loan.number) f.rows)

  at_staff : (o : Option Staff) → staff_at i c ≡ o → P (where_permitted c (request_of_line (Repay r)) looked_at o i)
      (by_staff c r i.catalogue o (seen_office c.office r.loan.office i))
  unfolding looked_at
  at_staff None e = refused F2
  at_staff (Some s) known = at_office s known (seen_office c.office r.loan.office i) refl

  pub every_repayment : P (outcome (call_of_line [] c (Repay r)) i) (judged c r i)
  unfolding looked_at
  every_repayment = at_staff (staff_at i c) refl

module _ (c : Caller) (r : SheetRepayment) (i : Institution) where
  pub judged_is : result_of (reply_in (outcome (call_of_line [] c (Repay r)) i)) ≡ judged c r i
  judged_is = every_repayment c r i (λ o t. result_of (reply_in o) ≡ t) (λ fault. refl) (λ seq w. refl) (λ w. refl)

  pub unless_entered : judged c r i ≢ Entered → change_in (outcome (call_of_line [] c (Repay r)) i) ≡ None
  unless_entered = every_repayment c r i (λ o t. t ≢ Entered → change_in o ≡ None) (λ fault n. refl) (λ seq w n. refl)
      (λ w n. absurd (n refl))

  pub entered_so : judged c r i ≡ Entered → (w : Entering c r i) × (change_in (outcome (call_of_line [] c (Repay r)) i)
      ≡ Some (entered_change c r i w))
  entered_so =
      every_repayment c r i (λ o t. t ≡ Entered → (w : Entering c r i) × (change_in o ≡ Some (entered_change c r i w)))
      (λ fault e. absurd (cc)) (λ seq w e. absurd (cc)) (λ w e. (w, refl))

  pub repeated_so : judged c r i ≡ Repeated → (seq : ℕ) × Repeating c r i seq
      × (outcome (call_of_line [] c (Repay r)) i ≡ Ok (reply.Loan r.loan (loan_reply.Repeated seq), None))
  repeated_so = every_repayment c r i (λ o t. t ≡ Repeated → (seq : ℕ) × Repeating c r i seq
      × (o ≡ Ok (reply.Loan r.loan (loan_reply.Repeated seq), None)))
      (λ fault e. absurd (cc)) (λ seq w e. (seq, w, refl)) (λ w e. absurd (cc))
