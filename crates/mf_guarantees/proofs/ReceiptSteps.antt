-- What a line of a run does with a receipt.
use Rattle.std.proofs.Common.{◌≡◌, ◌⊎◌, ℕ, zero, suc, ◌+◌, ◌-◌, Bool, true, false, cond, List, [], ◌∷◌, ◌++◌}
use Rattle.std.proofs.Common.{Option, Some, None, Result, Ok, Err, inl, inr, refl, sym, ap, ◌∙◌, subst, arith}
use Rattle.std.proofs.Common.{append_assoc}
use Rattle.std.specs.Prelude.{◌==◌, ◌&&◌, is_some, slice_get}
use Rattle.std.specs.Option.{option_or}
use Rattle.std.specs.Str.{bytes_eq}
use Rattle.std.proofs.lemmas.Bool.Decides.{nat_tests}
use Rattle.std.proofs.lemmas.List.Folds.{find-append}
use Rattle.std.proofs.lemmas.Slice.Eq.{bytes_eq-Decides}
use Rattle.mf_base.specs.declared.fault.Fault.{Fault}
use Rattle.mf_base.specs.declared.fault.Fault.TheVariants.{F2, F3, F4, F9, F15, F20}
use Rattle.mf_office.specs.declared.account.Account.{Account}
use Rattle.mf_office.specs.declared.caller.Caller.{Caller}
use Rattle.mf_office.specs.Tree.{is_at_or_below}
use Rattle.mf_account.specs.declared.entry.Entry.{Entry}
use Rattle.mf_account.specs.Loan.{DisbursedLoan}
use Rattle.mf_account.specs.Refusals.{refusal_of}
use Rattle.mf_model.specs.Calls.{Call}
use Rattle.mf_model.specs.declared.loan.ReceiptUse.{ReceiptUse}
use Rattle.mf_model.specs.declared.reply.LoanReply.TheVariants.{Entered}
use Rattle.mf_model.specs.declared.reply.Reply.{Reply}
use Rattle.mf_model.specs.declared.request.LoanRequest.TheVariants.{Repay}
use Rattle.mf_model.specs.declared.request.Repayment.{Repayment}
use Rattle.mf_model.specs.declared.request.Request.{Request}
use Rattle.mf_model.specs.declared.request.Request.TheVariants as request
use Rattle.mf_model.specs.Accounts.{account_in}
use Rattle.mf_model.specs.Desk.{Outcome, On_office, plan, need, meets, in_office, of_office, staff_at, where_permitted}
use Rattle.mf_model.specs.Desk.{sent_by, outcome, change_in, reply_in, reply}
use Rattle.mf_model.specs.Institution.{Institution, Catalogue, Office, Staff, Ledger, Change, Rows_become, office_at}
use Rattle.mf_model.specs.Institution.{item_numbered, with_numbered, after_line, after_noted}
use Rattle.mf_model.specs.Loans.{LedgerChange, on_loan, of_loan, in_loan, loan_changed, with_new_entry, none_first}
use Rattle.mf_model.specs.Loans.{enter, repayment, repeat_of, unless_fault, fault_or, unless_known}
use Rattle.mf_model.specs.Outcomes.{where_found}
use Rattle.mf_model.specs.Receipts.{Use, use_by, use_of, uses_in, uses_from, first_use, used_before, repeated_seq}
use Rattle.mf_model.specs.Run.{Line, answer, change_of_line, next, noted_of}
use Rattle.mf_model.specs.Store.{rows_of, use_at}
use Rattle.mf_model.specs.Tree.{parent_of, seen_office}
use Rattle.mf_model.proofs.Growing.{numbered_suc}
use Rattle.mf_model.proofs.ReceiptLemmas.{IsPut, uses_in_push}
use Rattle.mf_guarantees.specs.Sheets.{IsReceipted, is_entry_told}
use Rattle.mf_guarantees.proofs.LoanSteps.{loan_changes, change_told, entered_is, repeated_none}

-- ---- the receipts of an office with an entry more

abbrev pub use_now : List ℕ → ℕ → Entry → Use
use_now r n e = record { receipt = r; by = use_by n e }

changed_later : (k : ℕ) (change : Ledger → Ledger) (l : Ledger) (ls : List Ledger)
    → with_numbered (suc (suc k)) change (l ∷ ls) ≡ l ∷ with_numbered (suc k) change ls
changed_later k change l ls =
    let other : (suc (suc k) == 1) ≡ false = grind (arith, nat_tests) in
    let less : suc (suc k) - 1 ≡ suc k = omega arith in
    ap (λ b. cond b (change l ∷ ls) (l ∷ with_numbered (suc (suc k) - 1) change ls)) other
    ∙ ap (λ n. l ∷ with_numbered n change ls) less

put_at : (k m : ℕ) (e : Entry) (ls : List Ledger) (l : Ledger) → slice_get ls k ≡ Some l
    → IsPut (uses_from m ls) (uses_from m (with_numbered (suc k) (with_new_entry e) ls)) (use_of e.receipt (m + k) e)
put_at k m e [] l h = absurd (cc)
put_at zero m e (x ∷ ls) l h =
    let same : m ≡ m + zero = omega arith in
    record {
      before = uses_in m x.entries;
      after = uses_from (m + 1) ls;
      old_is = refl;
      new_is = ap (λ (us : List Use). us ++ uses_from (m + 1) ls) (uses_in_push m e x.entries)
          ∙ append_assoc (uses_in m x.entries) (use_of e.receipt m e) (uses_from (m + 1) ls)
          ∙ ap (λ n. uses_in m x.entries ++ (use_of e.receipt n e ++ uses_from (m + 1) ls)) same;
    }
put_at (suc k) m e (x ∷ ls) l h =
    let rest = put_at k (m + 1) e ls l h in
    let same : (m + 1) + k ≡ m + suc k = omega arith in
    record {
      before = uses_in m x.entries ++ rest.before;
      after = rest.after;
      old_is = ap (λ (us : List Use). uses_in m x.entries ++ us) rest.old_is
          ∙ sym (append_assoc (uses_in m x.entries) rest.before rest.after);
      new_is = ap (uses_from m) (changed_later k (with_new_entry e) x ls)
          ∙ ap (λ (us : List Use). uses_in m x.entries ++ us) rest.new_is
          ∙ sym (append_assoc (uses_in m x.entries) rest.before (use_of e.receipt ((m + 1) + k) e ++ rest.after))
          ∙ ap (λ n. (uses_in m x.entries ++ rest.before) ++ (use_of e.receipt n e ++ rest.after)) same;
    }

put_numbered : (n : ℕ) (e : Entry) (ls : List Ledger) (l : Ledger) → item_numbered ls n ≡ Some l
    → IsPut (uses_from 1 ls) (uses_from 1 (with_numbered n (with_new_entry e) ls)) (use_of e.receipt n e)
put_numbered zero e ls l h = absurd (cc)
put_numbered (suc k) e ls l h =
    let same : 1 + k ≡ suc k = omega arith in
    subst (λ n. IsPut (uses_from 1 ls) (uses_from 1 (with_numbered (suc k) (with_new_entry e) ls))
    (use_of e.receipt n e)) same (put_at k 1 e ls l (sym (numbered_suc ls k) ∙ h))

used_both : (r : List ℕ) (xs ys : List Use) → first_use r (xs ++ ys) ≡ option_or (first_use r xs) (first_use r ys)
used_both r xs ys = find-append (λ (u : Use). bytes_eq u.receipt r) xs ys

none_of_both : (a b : Option Use) → option_or a b ≡ None → (a ≡ None) × (b ≡ None)
none_of_both None b h = (refl, h)
none_of_both (Some u) b h = absurd (cc)

-- a receipt that was not used before is used only if it is that of the entry
used_then : (old new : List Use) (u : Use) (r : List ℕ) → IsPut old new (u ∷ []) → first_use r old ≡ None
    → first_use r new ≡ cond (bytes_eq u.receipt r) (Some u) None
used_then old new u r put free =
    let none = none_of_both (first_use r put.before) (first_use r put.after)
    (sym (used_both r put.before put.after) ∙ ap (first_use r) (sym put.old_is) ∙ free) in
    ap (first_use r) put.new_is
    ∙ used_both r put.before (u ∷ put.after)
    ∙ ap (λ o. option_or o (first_use r (u ∷ put.after))) none.0
    ∙ ap (λ o. cond (bytes_eq u.receipt r) (Some u) o) none.1

module _ (n : ℕ) (e : Entry) (r : List ℕ) (ls : List Ledger) (l : Ledger) (has : e.receipt ≡ Some r)
    (there : item_numbered ls n ≡ Some l) where
  put_receipt : IsPut (uses_from 1 ls) (uses_from 1 (with_numbered n (with_new_entry e) ls)) (use_now r n e ∷ [])
  put_receipt = subst (λ o. IsPut (uses_from 1 ls) (uses_from 1 (with_numbered n (with_new_entry e) ls)) (use_of o n e))
      has (put_numbered n e ls l there)

  pub used_now : first_use r (uses_from 1 ls) ≡ None
      → first_use r (uses_from 1 (with_numbered n (with_new_entry e) ls)) ≡ Some (use_now r n e)
  used_now free =
      used_then (uses_from 1 ls) (uses_from 1 (with_numbered n (with_new_entry e) ls)) (use_now r n e) r put_receipt
      free
      ∙ ap (λ b. cond b (Some (use_now r n e)) None) ((bytes_eq-Decides r r).1 refl)

  pub used_only : (other : List ℕ) (u : Use) → first_use other (uses_from 1 ls) ≡ None
      → first_use other (uses_from 1 (with_numbered n (with_new_entry e) ls)) ≡ Some u
      → (u ≡ use_now r n e) × (r ≡ other)
  used_only other u free used =
      go (bytes_eq r other) refl (sym (used_then (uses_from 1 ls)
      (uses_from 1 (with_numbered n (with_new_entry e) ls)) (use_now r n e) other put_receipt free) ∙ used)
    where
      go : (b : Bool) → bytes_eq r other ≡ b → cond b (Some (use_now r n e)) None ≡ Some u
          → (u ≡ use_now r n e) × (r ≡ other)
      go true is h = (let same : use_now r n e ≡ u = cc in sym same, (bytes_eq-Decides r other).0 is)
      go false is h = absurd (cc)

-- ---- a line that changes something enters a repayment with a new receipt

pub record Enters (l : Line) (i : Institution) : Type 0 where
  pub loan : Account
  pub asked : Repayment
  pub receipt : List ℕ
  pub caller : Caller
  pub office : Office
  pub ledger : Ledger
  pub account : DisbursedLoan
  pub request_is : l.call.request ≡ request.Loan loan (Repay asked)
  pub receipt_is : asked.receipt ≡ Some receipt
  pub office_is : office_at loan.office i.offices ≡ Some office
  pub ledger_is : item_numbered office.rows.loans loan.number ≡ Some ledger
  pub free : first_use receipt (uses_from 1 office.rows.loans) ≡ None
  pub told : is_entry_told (answer l i) ≡ true
  pub next_is : next l i ≡ after_noted (noted_of l.call i) (Rows_become loan.office
      (loan_changed loan.number (with_new_entry (repayment asked caller account)) office.rows)) i

kept_line : (g : Bool) (c : Option Change) (change : Change) → cond g None c ≡ Some change → c ≡ Some change
kept_line true c change h = absurd (cc)
kept_line false c change h = h

free_first : (asked : Repayment) (c : Caller) (k : Catalogue) (n : ℕ) (l : Ledger) (used : Option Use)
    (becomes : LedgerChange)
    → change_told (unless_known n asked used (enter none_first (λ today. repayment asked c) k (account_in k l)))
    ≡ Some becomes
    → (a : DisbursedLoan) × (used ≡ None) × (with_new_entry (repayment asked c a) ≡ becomes)
free_first asked c k n l None becomes h =
    let made = entered_is none_first (λ today. repayment asked c) k (account_in k l) becomes h in
    (made.0, refl, made.2)
free_first asked c k n l (Some u) becomes h =
    absurd (repeated_none (repeated_seq n asked.amount asked.day u.by) becomes h)

-- the institution after an entry of a loan
abbrev entered_into : Line → Institution → Account → Office → LedgerChange → Institution
entered_into l i loan f becomes =
    after_noted (noted_of l.call i) (Rows_become loan.office (loan_changed loan.number becomes f.rows)) i

entered_next : (l : Line) (i : Institution) (change : Change) (loan : Account) (f : Office)
    (becomes enters : LedgerChange) → change_of_line l i ≡ Some change
    → Rows_become loan.office (loan_changed loan.number becomes f.rows) ≡ change → enters ≡ becomes
    → next l i ≡ entered_into l i loan f enters
entered_next l i change loan f becomes enters e is same =
    let noted = noted_of l.call i in
    ap (λ (c : Option Change). after_line noted c i) e
    ∙ ap (λ (c : Change). after_noted noted c i) (sym is)
    ∙ ap (entered_into l i loan f) (sym same)

-- ---- what a repayment with a receipt is told

-- the receipt is known, of an entry of this loan, amount and day
pub record IsKnown (loan : Account) (asked : Repayment) (receipt : List ℕ) (i : Institution) : Type 0 where
  pub used : Use
  pub seq : ℕ
  pub used_is : use_at loan.office receipt i ≡ Some used
  pub same : repeated_seq loan.number asked.amount asked.day used.by ≡ Ok seq

-- or it is not, and something is changed
abbrev pub IsNew : Account → List ℕ → Outcome → Institution → Type 0
IsNew loan receipt o i = (use_at loan.office receipt i ≡ None) × (is_some (change_in o) ≡ true)

module _ (loan : Account) (asked : Repayment) (receipt : List ℕ) (has : asked.receipt ≡ Some receipt) (c : Caller)
    (i : Institution) where
  record IsTold (o : Outcome) : Type 0 where
    so : is_entry_told (reply_in o) ≡ true → IsKnown loan asked receipt i ⊎ IsNew loan receipt o i
    if_changed : is_some (change_in o) ≡ true → is_entry_told (reply_in o) ≡ true

  refused : (fault : Fault) → IsTold (Err fault)
  refused fault = record { so = λ told. absurd (cc); if_changed = λ changed. absurd (cc) }

  module _ (f : Office) (there : office_at loan.office i.offices ≡ Some f) where
    at_use : (o : Option Use) → first_use receipt (uses_from 1 f.rows.loans) ≡ o → use_at loan.office receipt i ≡ o
    at_use o e = ap (λ (x : Option Office). first_use receipt (uses_from 1 (rows_of x).loans)) there ∙ e

    by_account : (o : Option DisbursedLoan) → first_use receipt (uses_from 1 f.rows.loans) ≡ None
        → IsTold (of_office loan.office (of_loan loan f.rows
        (enter none_first (λ today. repayment asked c) i.catalogue o)))
    by_account None free = refused F9
    by_account (Some a) free = go (fault_or (none_first a) (refusal_of a (repayment asked c a) i.catalogue.day))
      where
        go : (o : Option Fault) → IsTold (of_office loan.office (of_loan loan f.rows (unless_fault o
            (Entered (repayment asked c a).seq) (with_new_entry (repayment asked c a)))))
        go None = record { so = λ told. inr (at_use None free, refl); if_changed = λ changed. refl }
        go (Some fault) = refused fault

    by_repeat : (u : Use) (o : Result ℕ Fault) → first_use receipt (uses_from 1 f.rows.loans) ≡ Some u
        → repeated_seq loan.number asked.amount asked.day u.by ≡ o
        → IsTold (of_office loan.office (of_loan loan f.rows (repeat_of o)))
    by_repeat u (Ok seq) e same = record {
      so = λ told. inl (record { used = u; seq = seq; used_is = at_use (Some u) e; same = same });
      if_changed = λ changed. refl;
    }
    by_repeat u (Err fault) e same = refused fault

    by_use : (l : Ledger) (o : Option Use) → first_use receipt (uses_from 1 f.rows.loans) ≡ o
        → IsTold (of_office loan.office (of_loan loan f.rows (unless_known loan.number asked o
        (enter none_first (λ today. repayment asked c) i.catalogue (account_in i.catalogue l)))))
    by_use l None free = by_account (account_in i.catalogue l) free
    by_use l (Some u) e = by_repeat u (repeated_seq loan.number asked.amount asked.day u.by) e refl

    by_ledger : (o : Option Ledger) → IsTold (of_office loan.office (where_found o
        (λ l. of_loan loan f.rows (on_loan (Repay asked) c i.catalogue f.rows loan.number l))))
    by_ledger None = refused F4
    by_ledger (Some l) =
        subst (λ o. IsTold (of_office loan.office (of_loan loan f.rows (unless_known loan.number asked
        (used_before o (uses_from 1 f.rows.loans))
        (enter none_first (λ today. repayment asked c) i.catalogue (account_in i.catalogue l)))))) (sym has)
        (by_use l (first_use receipt (uses_from 1 f.rows.loans)) refl)

  by_office : (o : Option Office) → office_at loan.office i.offices ≡ o
      → IsTold (in_office loan.office (λ k f. in_loan loan (on_loan (Repay asked) c k f.rows loan.number) f.rows)
      i.catalogue o)
  by_office None e = refused F4
  by_office (Some f) e = by_ledger f e (item_numbered f.rows.loans loan.number)

  by_sight : (b : Bool)
      → IsTold (in_office loan.office (λ k f. in_loan loan (on_loan (Repay asked) c k f.rows loan.number) f.rows)
      i.catalogue (cond b (office_at loan.office i.offices) None))
  by_sight false = refused F4
  by_sight true = by_office (office_at loan.office i.offices) refl

  by_role : (b : Bool) → IsTold (cond b (in_office loan.office
      (λ k f. in_loan loan (on_loan (Repay asked) c k f.rows loan.number) f.rows) i.catalogue
      (seen_office c.office loan.office i)) (Err F3))
  by_role false = refused F3
  by_role true = by_sight (is_at_or_below (parent_of i.offices) loan.office c.office)

  by_staff : (s : Option Staff) → IsTold (where_permitted c (request.Loan loan (Repay asked)) (On_office loan.office
      (λ caller k f. in_loan loan (on_loan (Repay asked) caller k f.rows loan.number) f.rows)) s i)
  by_staff None = refused F2
  by_staff (Some s) = by_role (meets (need (request.Loan loan (Repay asked))) s.role c.office)

abbrev sent_to : Option Caller → Request → Institution → Outcome
sent_to caller r i = sent_by caller r (plan r) i

-- the same whoever sends it
record IsToldSo (loan : Account) (receipt : List ℕ) (asked : Repayment) (o : Outcome) (i : Institution) : Type 0 where
  so : is_entry_told (reply_in o) ≡ true → IsKnown loan asked receipt i ⊎ IsNew loan receipt o i
  if_changed : is_some (change_in o) ≡ true → is_entry_told (reply_in o) ≡ true

by_sender : (loan : Account) (asked : Repayment) (receipt : List ℕ) → asked.receipt ≡ Some receipt
    → (caller : Option Caller) (i : Institution)
    → IsToldSo loan receipt asked (sent_to caller (request.Loan loan (Repay asked)) i) i
by_sender loan asked receipt has None i = record { so = λ told. absurd (cc); if_changed = λ changed. absurd (cc) }
by_sender loan asked receipt has (Some c) i =
    let is = by_staff loan asked receipt has c i (staff_at i c) in
    record { so = is.so; if_changed = is.if_changed }

by_call : (call : Call) (i : Institution) (loan : Account) (asked : Repayment) (receipt : List ℕ)
    → call.request ≡ request.Loan loan (Repay asked) → asked.receipt ≡ Some receipt
    → IsToldSo loan receipt asked (outcome call i) i
by_call call i loan asked receipt is has =
    subst (λ (r : Request). IsToldSo loan receipt asked (sent_to call.caller r i) i) (sym is)
    (by_sender loan asked receipt has call.caller i)

-- ---- what a line is told

answered : (g : Bool) (r : Result Reply Fault) → is_entry_told (cond g (Err F20) r) ≡ true
    → (g ≡ false) × (is_entry_told r ≡ true)
answered true r told = absurd (cc)
answered false r told = (refl, told)

abbrev pub IsNewBy : Account → List ℕ → Line → Institution → Type 0
IsNewBy loan receipt l i = (use_at loan.office receipt i ≡ None) × (is_some (change_of_line l i) ≡ true)

pub told_so : (l : Line) (i : Institution) (loan : Account) (asked : Repayment) (receipt : List ℕ)
    → l.call.request ≡ request.Loan loan (Repay asked) → asked.receipt ≡ Some receipt
    → is_entry_told (answer l i) ≡ true → IsKnown loan asked receipt i ⊎ IsNewBy loan receipt l i
told_so l i loan asked receipt is has told =
    let r = answered l.given_up (reply l.call i) told in
    elim ((by_call l.call i loan asked receipt is has).so r.1) [
      | inl known ↦ inl known
      | inr new ↦
          inr (new.0, ap (λ g. is_some (cond g None (change_in (outcome l.call i)))) r.0 ∙ new.1)
    ]

told_if_changed : (l : Line) (i : Institution) (change : Change) (loan : Account) (asked : Repayment)
    (receipt : List ℕ) → l.call.request ≡ request.Loan loan (Repay asked) → asked.receipt ≡ Some receipt
    → change_of_line l i ≡ Some change → change_in (outcome l.call i) ≡ Some change
    → is_entry_told (answer l i) ≡ true
told_if_changed l i change loan asked receipt is has e accepted =
    let told = (by_call l.call i loan asked receipt is has).if_changed (ap is_some accepted) in
    go l.given_up e told
  where
    go : (g : Bool) → cond g None (change_in (outcome l.call i)) ≡ Some change
        → is_entry_told (reply l.call i) ≡ true → is_entry_told (cond g (Err F20) (reply l.call i)) ≡ true
    go true e told = absurd (cc)
    go false e told = told

-- what is repeated is of the loan, the amount and the day that it names
pub record IsOf (loan amount day : ℕ) (by : ReceiptUse) : Type 0 where
  pub loan_is : by.loan ≡ loan
  pub amount_is : by.amount ≡ amount
  pub day_is : by.day ≡ day

pub is_of : (loan amount day seq : ℕ) (by : ReceiptUse) → repeated_seq loan amount day by ≡ Ok seq
    → IsOf loan amount day by
is_of loan amount day seq by h = go (by.loan == loan) (by.amount == amount) (by.day == day) refl refl refl h
  where
    go : (a b c : Bool) → (by.loan == loan) ≡ a → (by.amount == amount) ≡ b → (by.day == day) ≡ c
        → cond (a && (b && c)) (Ok by.seq) (Err F15) ≡ Ok seq → IsOf loan amount day by
    go true true true d e f h = record {
      loan_is = grind (arith, nat_tests);
      amount_is = grind (arith, nat_tests);
      day_is = grind (arith, nat_tests);
    }
    go true true false d e f h = absurd (cc)
    go true false c d e f h = absurd (cc)
    go false b c d e f h = absurd (cc)

-- ---- one line

pub line_enters : (l : Line) (i : Institution)
    → (is_some (change_of_line l i) ≡ true → IsReceipted l.call.request) → (change_of_line l i ≡ None) ⊎ Enters l i
line_enters l i only = go (change_of_line l i) refl
  where
    go : (c : Option Change) → change_of_line l i ≡ c → (change_of_line l i ≡ None) ⊎ Enters l i
    go None e = inl e
    go (Some change) e =
        let w = only (ap is_some e) in
        let accepted = kept_line l.given_up (change_in (outcome l.call i)) change e in
        let s = loan_changes l.call i change w.loan (Repay w.repayment) w.request_is accepted in
        let us : List Use = uses_from 1 s.office.rows.loans in
        let made = free_first w.repayment s.caller i.catalogue w.loan.number s.ledger
        (used_before w.repayment.receipt us) s.becomes s.becomes_is in
        inr (record {
          loan = w.loan;
          asked = w.repayment;
          receipt = w.receipt;
          caller = s.caller;
          office = s.office;
          ledger = s.ledger;
          account = made.0;
          request_is = w.request_is;
          receipt_is = w.receipt_is;
          office_is = s.office_is;
          ledger_is = s.ledger_is;
          free = ap (λ o. used_before o us) (sym w.receipt_is) ∙ made.1;
          told = told_if_changed l i change w.loan w.repayment w.receipt w.request_is w.receipt_is e accepted;
          next_is = entered_next l i change w.loan s.office s.becomes
              (with_new_entry (repayment w.repayment s.caller made.0)) e s.change_is made.2;
        })
