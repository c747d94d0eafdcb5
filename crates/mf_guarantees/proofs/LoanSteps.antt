-- What is known of an accepted request on a loan.
use Rattle.std.proofs.Common.{◌≡◌, ℕ, Bool, true, false, cond, Option, Some, None, Result, Ok, Err, refl, ap, subst}
use Rattle.mf_base.specs.declared.fault.Fault.{Fault}
use Rattle.mf_base.specs.declared.fault.Fault.TheVariants.{F3}
use Rattle.mf_office.specs.declared.account.Account.{Account}
use Rattle.mf_office.specs.declared.caller.Caller.{Caller}
use Rattle.mf_office.specs.Tree.{is_at_or_below}
use Rattle.mf_account.specs.declared.entry.Entry.{Entry}
use Rattle.mf_account.specs.Loan.{DisbursedLoan}
use Rattle.mf_account.specs.Refusals.{refusal_of, reversal_refused}
use Rattle.mf_model.specs.declared.reply.LoanReply.{LoanReply}
use Rattle.mf_model.specs.Calls.{Call}
use Rattle.mf_model.specs.declared.request.LoanRequest.{LoanRequest}
use Rattle.mf_model.specs.declared.request.Request.{Request}
use Rattle.mf_model.specs.declared.request.Request.TheVariants as request
use Rattle.mf_model.specs.Desk.{Outcome, Plan, On_office, plan, need, meets, in_office, of_office, carried_out}
use Rattle.mf_model.specs.Desk.{staff_at}
use Rattle.mf_model.specs.Desk.{where_permitted, sent_by, outcome, change_in}
use Rattle.mf_model.specs.Institution.{Institution, Catalogue, Office, Staff, Ledger, office_at, item_numbered}
use Rattle.mf_model.specs.Institution.{Change, Rows_become}
use Rattle.mf_model.specs.Loans.{LedgerChange, on_loan, of_loan, in_loan, loan_changed, with_new_entry, with_reversal}
use Rattle.mf_model.specs.Loans.{unless_fault, fault_or, enter, reverse, repeat_of}
use Rattle.mf_model.specs.Outcomes.{where_found}
use Rattle.mf_model.specs.Tree.{parent_of, seen_office}

-- what becomes of a loan by what is told of it
abbrev pub change_told : Result (LoanReply × Option LedgerChange) Fault → Option LedgerChange
change_told (Err fault) = None
change_told (Ok r) = r.1

-- ---- who sent an accepted request

pub record IsPermitted (call : Call) (i : Institution) : Type 0 where
  pub caller : Caller
  pub staff : Staff
  pub caller_is : call.caller ≡ Some caller
  pub staff_is : staff_at i caller ≡ Some staff
  pub allowed : meets (need call.request) staff.role caller.office ≡ true

permitted_by : (b : Bool) (r : Outcome) (change : Change) → change_in (cond b r (Err F3)) ≡ Some change → b ≡ true
permitted_by true r change h = refl
permitted_by false r change h = absurd (cc)

permitted_staff : (c : Caller) (asked : Request) (p : Plan) (s : Option Staff) (i : Institution) (change : Change)
    → staff_at i c ≡ s → change_in (where_permitted c asked p s i) ≡ Some change
    → (staff : Staff) × (staff_at i c ≡ Some staff) × (meets (need asked) staff.role c.office ≡ true)
permitted_staff c asked p None i change e h = absurd (cc)
permitted_staff c asked p (Some s) i change e h =
    (s, e, permitted_by (meets (need asked) s.role c.office) (carried_out c p i) change h)

permitted_caller : (caller : Option Caller) (asked : Request) (p : Result Plan Fault) (i : Institution)
    (change : Change) → change_in (sent_by caller asked p i) ≡ Some change
    → (c : Caller) × (caller ≡ Some c) × ((staff : Staff) × (staff_at i c ≡ Some staff)
    × (meets (need asked) staff.role c.office ≡ true))
permitted_caller caller asked (Err fault) i change h = absurd (cc)
permitted_caller None asked (Ok p) i change h = absurd (cc)
permitted_caller (Some c) asked (Ok p) i change h =
    (c, refl, permitted_staff c asked p (staff_at i c) i change refl h)

pub permitted : (call : Call) (i : Institution) (change : Change) → change_in (outcome call i) ≡ Some change
    → IsPermitted call i
permitted call i change h =
    let by = permitted_caller call.caller call.request (plan call.request) i change h in
    record {
      caller = by.0;
      staff = by.2.0;
      caller_is = by.1;
      staff_is = by.2.1;
      allowed = by.2.2;
    }

-- ---- what an accepted request on a loan changes

-- a loan of an office, and what becomes of it by what a caller asks
pub record ChangesLoan (loan : Account) (asked : LoanRequest) (by : Option Caller) (i : Institution)
    (change : Change) : Type 0 where
  pub caller : Caller
  pub office : Office
  pub ledger : Ledger
  pub becomes : LedgerChange
  pub caller_is : by ≡ Some caller
  pub office_is : office_at loan.office i.offices ≡ Some office
  pub ledger_is : item_numbered office.rows.loans loan.number ≡ Some ledger
  pub becomes_is : change_told (on_loan asked caller i.catalogue office.rows loan.number ledger) ≡ Some becomes
  pub change_is : Rows_become loan.office (loan_changed loan.number becomes office.rows) ≡ change

module _ (loan : Account) (asked : LoanRequest) (c : Caller) (i : Institution) (change : Change) where
  told : (f : Office) (l : Ledger) (r : Result (LoanReply × Option LedgerChange) Fault)
      → office_at loan.office i.offices ≡ Some f → item_numbered f.rows.loans loan.number ≡ Some l
      → on_loan asked c i.catalogue f.rows loan.number l ≡ r
      → change_in (of_office loan.office (of_loan loan f.rows r)) ≡ Some change
      → ChangesLoan loan asked (Some c) i change
  told f l (Err fault) there found e h = absurd (cc)
  told f l (Ok (reply, None)) there found e h = absurd (cc)
  told f l (Ok (reply, Some becomes)) there found e h = record {
    caller = c;
    office = f;
    ledger = l;
    becomes = becomes;
    caller_is = refl;
    office_is = there;
    ledger_is = found;
    becomes_is = ap change_told e;
    change_is = cc;
  }

  found_loan : (f : Office) (o : Option Ledger) → office_at loan.office i.offices ≡ Some f
      → item_numbered f.rows.loans loan.number ≡ o
      → change_in (of_office loan.office (where_found o
      (λ l. of_loan loan f.rows (on_loan asked c i.catalogue f.rows loan.number l)))) ≡ Some change
      → ChangesLoan loan asked (Some c) i change
  found_loan f None there e h = absurd (cc)
  found_loan f (Some l) there e h = told f l (on_loan asked c i.catalogue f.rows loan.number l) there e refl h

  found_office : (o : Option Office) → office_at loan.office i.offices ≡ o
      → change_in (in_office loan.office (λ k f. in_loan loan (on_loan asked c k f.rows loan.number) f.rows)
      i.catalogue o) ≡ Some change
      → ChangesLoan loan asked (Some c) i change
  found_office None e h = absurd (cc)
  found_office (Some f) e h = found_loan f (item_numbered f.rows.loans loan.number) e refl h

  seen : (b : Bool)
      → change_in (in_office loan.office (λ k f. in_loan loan (on_loan asked c k f.rows loan.number) f.rows)
      i.catalogue (cond b (office_at loan.office i.offices) None)) ≡ Some change
      → ChangesLoan loan asked (Some c) i change
  seen false h = absurd (cc)
  seen true h = found_office (office_at loan.office i.offices) refl h

  allowed : (b : Bool) → change_in (cond b (in_office loan.office
      (λ k f. in_loan loan (on_loan asked c k f.rows loan.number) f.rows) i.catalogue
      (seen_office c.office loan.office i)) (Err F3)) ≡ Some change
      → ChangesLoan loan asked (Some c) i change
  allowed false h = absurd (cc)
  allowed true h = seen (is_at_or_below (parent_of i.offices) loan.office c.office) h

  known : (s : Option Staff) → change_in (where_permitted c (request.Loan loan asked) (On_office loan.office
      (λ caller k f. in_loan loan (on_loan asked caller k f.rows loan.number) f.rows)) s i) ≡ Some change
      → ChangesLoan loan asked (Some c) i change
  known None h = absurd (cc)
  known (Some s) h = allowed (meets (need (request.Loan loan asked)) s.role c.office) h

sent : (loan : Account) (asked : LoanRequest) (caller : Option Caller) (i : Institution) (change : Change)
    → change_in (sent_by caller (request.Loan loan asked) (plan (request.Loan loan asked)) i) ≡ Some change
    → ChangesLoan loan asked caller i change
sent loan asked None i change h = absurd (cc)
sent loan asked (Some c) i change h = known loan asked c i change (staff_at i c) h

pub loan_changes : (call : Call) (i : Institution) (change : Change) (loan : Account) (asked : LoanRequest)
    → call.request ≡ request.Loan loan asked → change_in (outcome call i) ≡ Some change
    → ChangesLoan loan asked call.caller i change
loan_changes call i change loan asked is h =
    sent loan asked call.caller i change
    (subst (λ (r : Request). change_in (sent_by call.caller r (plan r) i) ≡ Some change) is h)

-- ---- what becomes of a loan

pub some_same : {A : Type 0} (x y : A) → Some x ≡ Some y → x ≡ y
some_same x y h = cc

pub unless : (fault : Option Fault) (told : LoanReply) (change becomes : LedgerChange)
    → change_told (unless_fault fault told change) ≡ Some becomes → (fault ≡ None) × (change ≡ becomes)
unless (Some fault) told change becomes h = absurd (cc)
unless None told change becomes h = (refl, some_same change becomes h)

-- an entry is made for the account that there is
pub entered_is : (first : DisbursedLoan → Option Fault) (make : ℕ → DisbursedLoan → Entry) (k : Catalogue)
    (o : Option DisbursedLoan) (becomes : LedgerChange) → change_told (enter first make k o) ≡ Some becomes
    → (a : DisbursedLoan) × (o ≡ Some a) × (with_new_entry (make k.day a) ≡ becomes)
entered_is first make k None becomes h = absurd (cc)
entered_is first make k (Some a) becomes h =
    let is = unless (fault_or (first a) (refusal_of a (make k.day a) k.day)) _ (with_new_entry (make k.day a)) becomes h
    in
    (a, refl, is.1)

-- an entry is taken back that its account lets go
pub reversed_is : (seq : ℕ) (o : Option DisbursedLoan) (becomes : LedgerChange)
    → change_told (reverse seq o) ≡ Some becomes
    → (a : DisbursedLoan) × (o ≡ Some a) × (reversal_refused a.entries seq ≡ None) × (with_reversal seq ≡ becomes)
reversed_is seq None becomes h = absurd (cc)
reversed_is seq (Some a) becomes h =
    let is = unless (reversal_refused a.entries seq) _ (with_reversal seq) becomes h in
    (a, refl, is.0, is.1)

-- what is repeated changes nothing
pub repeated_none : (r : Result ℕ Fault) (becomes : LedgerChange) → change_told (repeat_of r) ≡ Some becomes → ⊥
repeated_none (Err fault) becomes h = cc
repeated_none (Ok seq) becomes h = cc
