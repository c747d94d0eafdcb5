-- What was found of a loan, and what is decided of it.
use Rattle.std.proofs.Common.{◌≡◌, ℕ, ◌-◌, Bool, true, false, cond, List, [], ◌∷◌, ◌++◌, Option, Some, None, Ok, Err}
use Rattle.std.proofs.Common.{inl, inr, refl, sym, ap, ◌∙◌, subst}
use Rattle.std.specs.Prelude.{Result, ◌⊎◌, is_some, option_map, ok_or, IfOk, IfErr, IfSome}
use Rattle.mf_base.specs.declared.fault.Fault.{Fault}
use Rattle.mf_base.specs.declared.fault.Fault.TheVariants.{F4, F9, F20}
use Rattle.mf_office.specs.declared.caller.Caller.{Caller}
use Rattle.mf_office.specs.declared.account.Account.{Account}
use Rattle.mf_office.specs.Tree.{is_at_or_below}
use Rattle.mf_account.specs.declared.entry.Entry.{Entry}
use Rattle.mf_account.specs.Loan.{DisbursedLoan}
use Rattle.mf_account.specs.Refusals.{refusal_of, reversal_refused}
use Rattle.mf_account.specs.Standing.{with_mark}
use Rattle.mf_account.specs.Change.{KeptAccount, IsChange, IsReplayed, account_by_replay}
use Rattle.mf_model.specs.declared.request.LoanRequest.{LoanRequest}
use Rattle.mf_model.specs.declared.request.Request.TheVariants as request
use Rattle.mf_model.specs.declared.loan.Loan.{Loan}
use Rattle.mf_statement.specs.declared.lines.EntryLine.{EntryLine}
use Rattle.mf_model.specs.declared.commit.Commit.TheVariants.{AddEntry, ReverseEntry}
use Rattle.mf_model.specs.declared.reply.LoanReply.{LoanReply}
use Rattle.mf_model.specs.declared.reply.LoanReply.TheVariants.{Entered, Reversed}
use Rattle.mf_model.specs.declared.reply.LoanReply.TheVariants as told
use Rattle.mf_model.specs.declared.reply.Reply.TheVariants as reply
use Rattle.mf_model.specs.Institution.{Institution, Catalogue, Office, Rows, Ledger, Rows_become, office_at}
use Rattle.mf_model.specs.Institution.{item_numbered}
use Rattle.mf_model.specs.Tree.{parent_of}
use Rattle.mf_model.specs.Outcomes.{where_found}
use Rattle.mf_model.specs.Accounts.{account_in, entries_in}
use Rattle.mf_model.specs.Receipts.{Use, uses_from, used_before, repeated_seq}
use Rattle.mf_model.specs.declared.loan.ReceiptUse.{ReceiptUse}
use Rattle.mf_model.specs.declared.request.Repayment.{Repayment}
use Rattle.mf_model.specs.declared.request.LoanRequest.TheVariants.{Repay, ShowEntries}
use Rattle.mf_model.specs.Loans.{LedgerChange, with_new_entry, with_reversal, with_entries, unless_fault, fault_or}
use Rattle.mf_model.specs.Loans.{none_first, enter, reverse, on_loan, loan_changed, loan_entered, of_loan, in_loan}
use Rattle.mf_model.specs.Loans.{repayment, repeat_of, unless_known}
use Rattle.mf_model.specs.Desk.{Outcome, of_office, in_office}
use Rattle.mf_model.specs.Store.{Reads, rows_of, rows_at, ledger_at, account_of, with_account, loan_with_account_at}
use Rattle.mf_model.specs.Store.{IsHanded, IsHandedOn, OneMore, OneReversed}
use Rattle.mf_model.specs.declared.store.InstitutionStore.{Ghosts}
use Rattle.mf_model.proofs.Growing.{with_same_at}
use Rattle.mf_model.proofs.AccountLemmas.{account_is}
use Rattle.mf_desk.specs.declared.decision.Decision.{Decision}
use Rattle.mf_desk.specs.Answers.{Asks, Decides, decision_outcome, request_outcome, sight, if_disbursed}
use Rattle.mf_desk.specs.Answers.{account_there, use_named, loan_outcome, in_ledger}
use Rattle.mf_desk.proofs.Decisions.{Learns, learns, learns_both, learned_refuses}

abbrev where_seen : Option Office → Result (Unit {0}) Fault
where_seen office = cond (is_some office) (Ok tt) (Err F4)

abbrev allowed : Result (Unit {0}) Fault
allowed = Ok tt

-- a loan that the caller sees
pub loan_seen : (c : Caller) (loan : Account) (asked : LoanRequest) (i : Institution) → sight c.office loan.office i
    ≡ Ok tt → request_outcome c (request.Loan loan asked) i ≡ loan_outcome loan asked c i
loan_seen c loan asked i h =
    seen (is_at_or_below (parent_of i.offices) loan.office c.office) (office_at loan.office i.offices) h
  where
    seen : (b : Bool) (office : Option Office) → where_seen (cond b office None) ≡ allowed
        → in_office loan.office (λ k f. in_loan loan (on_loan asked c k f.rows loan.number) f.rows) i.catalogue
        (cond b office None) ≡ of_office loan.office (in_loan loan (on_loan asked c i.catalogue (rows_of office)
        loan.number) (rows_of office))
    seen false office h = absurd (cc)
    seen true None h = absurd (cc)
    seen true (Some f) h = refl

-- what is told of a loan, and no change
abbrev pub tells : Account → LoanReply → Decision
tells loan told = record { reply = reply.Loan loan told; commit = None }

-- pairs that are the same have the same second part
same_second : {A B : Type 0} (p q : A × B) → Some p ≡ Some q → p.1 ≡ q.1
same_second p q h = cc

-- the entries are told of a loan that is there with this account
entries_told : (loan : Account) (c : Caller) (found : Loan) (r : Option KeptAccount) (lines : List EntryLine)
    (i : Institution) → Some (found, r) ≡ loan_with_account_at loan i → ((k : Catalogue) (l : Ledger)
    → r ≡ option_map account_by_replay (account_in k l) → lines ≡ entries_in k l)
    → loan_outcome loan ShowEntries c i ≡ decision_outcome (tells loan (told.Entries lines)) i
entries_told loan c found r lines i h of = at (ledger_at loan i) h
  where
    at : (o : Option Ledger) → Some (found, r) ≡ option_map (with_account i.catalogue) o → of_office loan.office
        (where_found o (λ l. of_loan loan (rows_at loan.office i)
        (on_loan ShowEntries c i.catalogue (rows_at loan.office i) loan.number l)))
        ≡ decision_outcome (tells loan (told.Entries lines)) i
    at None h = absurd (cc)
    at (Some l) h = ap (λ es. decision_outcome (tells loan (told.Entries es)) i)
        (sym (of i.catalogue l (same_second (found, r) (with_account i.catalogue l) h)))

-- the account of a loan that is there; F9 where it has none
account_read : (loan : Account) (found : Loan) (r : Option KeptAccount) (i : Institution)
    → Some (found, r) ≡ loan_with_account_at loan i → account_there loan i ≡ if_disbursed r
account_read loan found r i h = at (ledger_at loan i) h
  where
    at : (o : Option Ledger) → Some (found, r) ≡ option_map (with_account i.catalogue) o
        → where_found (option_map (λ (l : Ledger). l.loan) o)
        (λ _. if_disbursed (option_map account_by_replay (account_of i.catalogue o))) ≡ if_disbursed r
    at None h = absurd (cc)
    at (Some l) h = ap if_disbursed (sym (same_second (found, r) (with_account i.catalogue l) h))

-- where there is none it is refused with F9
pub if_none : (r : Option KeptAccount) → ok_or r F9 ≡ if_disbursed r
if_none None = refl
if_none (Some a) = refl

gives_same : {R : Type 0} (value result : Result R Fault) → value ≡ result → IfOk result (λ r. value ≡ Ok r)
gives_same value (Ok r) h = h
gives_same value (Err f) h = tt

refuses_same : {R : Type 0} (value result : Result R Fault) → value ≡ result
    → IfErr result (λ f. (f ≡ F20) ⊎ (value ≡ Err f))
refuses_same value (Ok r) h = tt
refuses_same value (Err f) h = inr h

-- a disbursed loan that was found, with its account
pub record IsAccountOf (loan : Account) (a : DisbursedLoan) (i : Institution) : Type 0 where
  pub ledger : Ledger
  pub ledger_is : ledger_at loan i ≡ Some ledger
  pub account_is : account_in i.catalogue ledger ≡ Some a

-- the account of a loan that is there keeps what a replay gives
pub is_replayed : (loan : Account) (a : KeptAccount) (i : Institution) → account_there loan i ≡ Ok a → IsReplayed a
is_replayed loan a i h = at (ledger_at loan i) h
  where
    running : (o : Option DisbursedLoan) → if_disbursed (option_map account_by_replay o) ≡ Ok a → IsReplayed a
    running None h = absurd (cc)
    running (Some r) h = let same : account_by_replay r ≡ a =
        cc in subst IsReplayed same (record { state = refl; settled = refl })

    at : (o : Option Ledger) → where_found (option_map (λ (l : Ledger). l.loan) o)
        (λ found. if_disbursed (option_map account_by_replay (account_of i.catalogue o))) ≡ Ok a → IsReplayed a
    at None h = absurd (cc)
    at (Some l) h = running (account_in i.catalogue l) h

pub is_account_of : (loan : Account) (a : KeptAccount) (i : Institution) → account_there loan i ≡ Ok a
    → IsAccountOf loan a.loan i
is_account_of loan a i h = at (ledger_at loan i) refl h
  where
    running : (l : Ledger) (o : Option DisbursedLoan) → account_in i.catalogue l ≡ o → ledger_at loan i ≡ Some l
        → if_disbursed (option_map account_by_replay o) ≡ Ok a → IsAccountOf loan a.loan i
    running l None is e h = absurd (cc)
    running l (Some r) is e h = let same : account_by_replay r ≡ a =
        cc in record { ledger = l; ledger_is = e; account_is = is ∙ ap (λ (x : KeptAccount). Some x.loan) same }

    at : (o : Option Ledger) → ledger_at loan i ≡ o → where_found (option_map (λ (l : Ledger). l.loan) o) (λ found.
        if_disbursed (option_map account_by_replay (account_of i.catalogue o))) ≡ Ok a → IsAccountOf loan a.loan i
    at None e h = absurd (cc)
    at (Some l) e h = running l (account_in i.catalogue l) refl e h

-- what is entered into its account
abbrev entering : Account → (DisbursedLoan → Option Fault) → (ℕ → DisbursedLoan → Entry) → Institution → Outcome
entering loan first make i = in_ledger loan (λ k l. enter first make k (account_in k l)) i

-- what refuses an entry on a day, if anything does
abbrev pub refuses : (DisbursedLoan → Option Fault) → (ℕ → DisbursedLoan → Entry) → DisbursedLoan → ℕ → Option Fault
refuses first make a today = fault_or (first a) (refusal_of a (make today a) today)

-- what is done with a loan that was found, with its account
abbrev on_account : Account → (Catalogue → Option DisbursedLoan → Result (LoanReply × Option LedgerChange) Fault)
    → Institution → Outcome
on_account loan act i = in_ledger loan (λ k l. act k (account_in k l)) i

pub account_acted : (loan : Account)
    (act : Catalogue → Option DisbursedLoan → Result (LoanReply × Option LedgerChange) Fault)
    (a : DisbursedLoan) (i : Institution) → IsAccountOf loan a i → on_account loan act i ≡ of_office loan.office
    (of_loan loan (rows_at loan.office i) (act i.catalogue (Some a)))
account_acted loan act a i f =
    ap (λ (o : Option Ledger). of_office loan.office (where_found o (λ l. of_loan loan (rows_at loan.office i)
    (act i.catalogue (account_in i.catalogue l))))) f.ledger_is
    ∙ ap (λ (o : Option DisbursedLoan). of_office loan.office
    (of_loan loan (rows_at loan.office i) (act i.catalogue o)))
    f.account_is

-- its account refuses the entry
pub entering_refused : (loan : Account) (first : DisbursedLoan → Option Fault) (make : ℕ → DisbursedLoan → Entry)
    (a : KeptAccount)
    (today : ℕ) (fault : Fault) (i : Institution) → account_there loan i ≡ Ok a → today ≡ i.catalogue.day
    → refuses first make a.loan today ≡ Some fault → entering loan first make i ≡ Err fault
entering_refused loan first make a today fault i h day refused =
    account_acted loan (enter first make) a.loan i (is_account_of loan a i h)
    ∙ ap (λ (n : ℕ). of_office loan.office (of_loan loan (rows_at loan.office i)
    (unless_fault (refuses first make a.loan n) (Entered (make n a.loan).seq) (with_new_entry (make n a.loan)))))
    (sym day)
    ∙ ap (λ (o : Option Fault). of_office loan.office (of_loan loan (rows_at loan.office i)
    (unless_fault o (Entered (make today a.loan).seq) (with_new_entry (make today a.loan))))) refused

-- what becomes of a loan is committed as the entries that it has then
commit_is : (loan : Account) (a : DisbursedLoan) (change : LedgerChange) (after : List Entry) (i : Institution)
    (f : IsAccountOf loan a i) → ((l : Ledger) → l.entries ≡ a.entries → change l ≡ with_entries after l)
    → loan_changed loan.number change (rows_at loan.office i) ≡ loan_entered loan.number after (rows_at loan.office i)
commit_is loan a change after i f same =
    let is : f.ledger.entries ≡ a.entries =
    ap (λ (x : DisbursedLoan). x.entries) (account_is i.catalogue f.ledger a f.account_is).account_is in
    ap (λ (ls : List Ledger). record (rows_at loan.office i) { loans = ls })
    (with_same_at loan.number change (with_entries after) (rows_at loan.office i).loans f.ledger f.ledger_is
    (same f.ledger is))

-- its account takes the entry
pub entering_accepted : (loan : Account) (first : DisbursedLoan → Option Fault) (make : ℕ → DisbursedLoan → Entry)
    (a new : KeptAccount)
    (today : ℕ) (i : Institution) → account_there loan i ≡ Ok a → today ≡ i.catalogue.day
    → refuses first make a.loan today ≡ None → new.loan.entries ≡ a.loan.entries ++ make today a.loan ∷ []
    → entering loan first make i ≡ decision_outcome (record {
      reply = reply.Loan loan (Entered (make today a.loan).seq);
      commit = Some (AddEntry loan new);
    }) i
entering_accepted loan first make a new today i h day accepted entries =
    let f = is_account_of loan a i h in
    let e = make today a.loan in
    let one_more : (l : Ledger) → l.entries ≡ a.loan.entries → with_new_entry e l ≡ with_entries new.loan.entries l =
    λ l is. ap (λ es. with_entries (es ++ e ∷ []) l) is ∙ ap (λ es. with_entries es l) (sym entries) in
    account_acted loan (enter first make) a.loan i f
    ∙ ap (λ (n : ℕ). of_office loan.office (of_loan loan (rows_at loan.office i)
    (unless_fault (refuses first make a.loan n) (Entered (make n a.loan).seq) (with_new_entry (make n a.loan)))))
    (sym day)
    ∙ ap (λ (o : Option Fault). of_office loan.office (of_loan loan (rows_at loan.office i)
    (unless_fault o (Entered e.seq) (with_new_entry e)))) accepted
    ∙ ap (λ (rows : Rows). Ok (reply.Loan loan (Entered e.seq), Some (Rows_become loan.office rows)))
    (commit_is loan a.loan (with_new_entry e) new.loan.entries i f one_more)

-- its account lets the entry go
pub reversing_accepted : (loan : Account) (seq : ℕ) (a new : KeptAccount) (i : Institution) → account_there loan i
    ≡ Ok a
    → reversal_refused a.loan.entries seq ≡ None → new.loan.entries ≡ with_mark a.loan.entries (seq - 1) true
    → on_account loan (λ k. reverse seq) i ≡ decision_outcome (record {
      reply = reply.Loan loan (Reversed seq);
      commit = Some (ReverseEntry loan seq new);
    }) i
reversing_accepted loan seq a new i h accepted entries =
    let f = is_account_of loan a i h in
    let marked : (l : Ledger) → l.entries ≡ a.loan.entries → with_reversal seq l ≡ with_entries new.loan.entries l = λ l
    is. ap (λ es. with_entries (with_mark es (seq - 1) true) l) is ∙ ap (λ es. with_entries es l) (sym entries) in
    account_acted loan (λ k. reverse seq) a.loan i f
    ∙ ap (λ (o : Option Fault). of_office loan.office (of_loan loan (rows_at loan.office i)
    (unless_fault o (Reversed seq) (with_reversal seq)))) accepted
    ∙ ap (λ (rows : Rows). Ok (reply.Loan loan (Reversed seq), Some (Rows_become loan.office rows)))
    (commit_is loan a.loan (with_reversal seq) new.loan.entries i f marked)

-- the account is handed on with other entries
handed_on : (loan : Account) (becomes : List Entry → List Entry → Type 0) (a new : KeptAccount) (entries : List Entry)
    (i : Institution) → account_there loan i ≡ Ok a → new.loan ≡ record a.loan { entries = entries }
    → becomes a.loan.entries new.loan.entries → IsReplayed new → IsChange a.loan new.loan new.change
    → IsHandedOn loan becomes new i
handed_on loan becomes a new entries i h is became kept change =
    let f = is_account_of loan a i h in
    record {
      before = a.loan;
      there = ap (account_of i.catalogue) f.ledger_is ∙ f.account_is;
      entries = became;
      others = is ∙ ap (λ (es : List Entry). record a.loan { entries = es })
          (sym (ap (λ (x : DisbursedLoan). x.entries) is));
      kept = kept;
      change = change;
    }

-- a repayment whose receipt is known, or not
abbrev pub when_used : ℕ → Repayment → Option ReceiptUse → Result (LoanReply × Option LedgerChange) Fault
    → Result (LoanReply × Option LedgerChange) Fault
when_used n asked None next = next
when_used n asked (Some used) next = repeat_of (repeated_seq n asked.amount asked.day used)

known_is : (n : ℕ) (asked : Repayment) (o : Option Use) (r : Option ReceiptUse)
    (next : Result (LoanReply × Option LedgerChange) Fault) → option_map (λ (u : Use). u.by) o ≡ r
    → unless_known n asked o next ≡ when_used n asked r next
known_is n asked None r next h = ap (λ x. when_used n asked x next) h
known_is n asked (Some u) r next h = ap (λ x. when_used n asked x next) h

named_is : (x : ℕ) (receipt : Option (List ℕ)) (r : Option ReceiptUse) (i : Institution) → use_named x receipt i ≡ Ok r
    → option_map (λ (u : Use). u.by) (used_before receipt (uses_from 1 (rows_at x i).loans)) ≡ r
named_is x None r i h = cc
named_is x (Some receipt) r i h = cc

pub repay_is : (c : Caller) (loan : Account) (asked : Repayment) (r : Option ReceiptUse) (i : Institution)
    → use_named loan.office asked.receipt i ≡ Ok r → loan_outcome loan (Repay asked) c i ≡ in_ledger loan
    (λ k l. when_used loan.number asked r (enter none_first (λ today. repayment asked c) k (account_in k l))) i
repay_is c loan asked r i h = at (item_numbered (rows_at loan.office i).loans loan.number)
  where
    at : (o : Option Ledger) → of_office loan.office (where_found o (λ l. of_loan loan (rows_at loan.office i)
        (on_loan (Repay asked) c i.catalogue (rows_at loan.office i) loan.number l)))
        ≡ of_office loan.office (where_found o (λ l. of_loan loan (rows_at loan.office i) (when_used loan.number asked r
        (enter none_first (λ today. repayment asked c) i.catalogue (account_in i.catalogue l)))))
    at None = refl
    at (Some l) = ap (λ x. of_office loan.office (of_loan loan (rows_at loan.office i) x))
        (known_is loan.number asked (used_before asked.receipt (uses_from 1 (rows_at loan.office i).loans)) r
        (enter none_first (λ today. repayment asked c) i.catalogue (account_in i.catalogue l))
        (named_is loan.office asked.receipt r i h))

-- what is known of the refusal of a call on an account by what came of it
pub taken : {A : Type 0} (x : A) (o : Option Fault) → ((fault : Fault) → o ≡ Some fault → Ok x ≡ Err fault) → o ≡ None
taken x None h = refl
taken x (Some fault) h = let never : Ok x ≡ Err fault = h fault refl in absurd (cc)

abbrev refusal : (A : Type 0) → Fault → Result A Fault
refusal A fault = Err fault

pub refused : {A : Type 0} (f : Fault) (o : Option Fault) → ((fault : Fault) → o ≡ Some fault
    → refusal A f ≡ refusal A fault) → (o ≡ None → f ≡ F20) → (f ≡ F20) ⊎ (o ≡ Some f)
refused f None h k = inl (k refl)
refused {A = A} f (Some fault) h k = let same : refusal A f ≡ refusal A fault = h fault refl in inr (cc)

module _ {S : Type 0} (store : Ghosts S) where
  pub learns_value : {R : Type 0} (value : Institution → R) (old new : S) (r : R)
      → Reads store.stands store.clean store.leaves value old new (Ok r) → Learns store (λ i. r ≡ value i) old new
  learns_value value old new r read = record {
    premise = read.premise;
    same = read.same;
    holds = read.value_is;
    stop = read.stop;
  }

  -- what is decided after some readings
  pub learned_tells : (Holds : Institution → Type 0) (told : Institution → Outcome) (old new : S) (d : Decision)
      → Learns store Holds old new → ((i : Institution) → Holds i → told i ≡ decision_outcome d i)
      → ((i : Institution) → Holds i → IfSome d.commit (λ c. IsHanded c i))
      → Decides store told old new (Ok d)
  learned_tells Holds told old new d l leads handed = record {
    premise = l.premise;
    same = l.same;
    decides = λ k i s. leads i (l.holds k i s);
    refuses = λ k i s. tt;
    handed = λ k i s. handed i (l.holds k i s);
    stop = l.stop;
  }

  -- the entries of a loan that was read with its account
  pub told_of_account : (loan : Account) (c : Caller) (read : Option (Loan × Option KeptAccount)) (found : Loan)
      (r : Option KeptAccount) (lines : List EntryLine) (old new : S) (d : Decision)
      → Reads store.stands store.clean store.leaves (loan_with_account_at loan) old new (Ok read)
      → read ≡ Some (found, r) → ((k : Catalogue) (l : Ledger) → r ≡ option_map account_by_replay (account_in k l)
      → lines ≡ entries_in k l) → d ≡ tells loan (told.Entries lines)
      → Decides store (loan_outcome loan ShowEntries c) old new (Ok d)
  told_of_account loan c read found r lines old new d reads there of is = learned_tells
      (λ i. read ≡ loan_with_account_at loan i) (loan_outcome loan ShowEntries c) old new d
      (learns_value (loan_with_account_at loan) old new read reads)
      (λ i h. entries_told loan c found r lines i (sym there ∙ h) of
      ∙ ap (λ (x : Decision). decision_outcome x i) (sym is))
      (λ i h. subst (λ (x : Decision). IfSome x.commit (λ c. IsHanded c i)) (sym is) tt)

  -- the account of a loan that was read with it
  pub account_asked : (loan : Account) (read : Option (Loan × Option KeptAccount)) (found : Loan)
      (r : Option KeptAccount)
      (old new : S) (result : Result KeptAccount Fault)
      → Reads store.stands store.clean store.leaves (loan_with_account_at loan) old new (Ok read)
      → read ≡ Some (found, r) → result ≡ if_disbursed r → Asks store (account_there loan) old new result
  account_asked loan read found r old new result reads there is = record {
    premise = reads.premise;
    same = reads.same;
    gives = λ c i h. gives_same (account_there loan i) result (value c i h);
    refuses = λ c i h. refuses_same (account_there loan i) result (value c i h);
    stop = reads.stop;
  }
    where
      value : store.clean new → (i : Institution) → store.stands old i → account_there loan i ≡ result
      value c i h = account_read loan found r i (sym there ∙ reads.value_is c i h) ∙ sym is

  -- what is entered into the account of a loan
  abbrev Known : Account → KeptAccount → ℕ → Institution → Type 0
  Known loan a today i = (account_there loan i ≡ Ok a) × (today ≡ i.catalogue.day)

  known : (loan : Account) (a : KeptAccount) (today : ℕ) (old mid new : S)
      → Asks store (account_there loan) old mid (Ok a)
      → Reads store.stands store.clean store.leaves (λ i. i.catalogue.day) mid new (Ok today)
      → Learns store (Known loan a today) old new
  known loan a today old mid new ask read =
      learns_both store (λ i. account_there loan i ≡ Ok a) (λ i. today ≡ i.catalogue.day) old mid new
      (learns store (account_there loan) old mid a ask) (learns_value (λ i. i.catalogue.day) mid new today read)

  pub then_entered : (loan : Account) (first : DisbursedLoan → Option Fault) (make : ℕ → DisbursedLoan → Entry)
      (a after : KeptAccount)
      (today : ℕ) (old mid new : S) → Asks store (account_there loan) old mid (Ok a)
      → Reads store.stands store.clean store.leaves (λ i. i.catalogue.day) mid new (Ok today)
      → (IsReplayed a → refuses first make a.loan today ≡ None) → after.loan ≡ record a.loan {
        entries = a.loan.entries
            ++ make today a.loan ∷ [];
      } → (IsReplayed a → IsReplayed after)
      → (IsReplayed a → IsChange a.loan after.loan after.change)
      → Decides store (in_ledger loan (λ k l. enter first make k (account_in k l))) old new
      (Ok (record {
        reply = reply.Loan loan (Entered (make today a.loan).seq);
        commit = Some (AddEntry loan after);
      }))
  then_entered loan first make a after today old mid new ask read accepted is kept change =
      let entries = ap (λ (x : DisbursedLoan). x.entries) is in
      learned_tells (Known loan a today) (entering loan first make) old new _ (known loan a today old mid new ask read)
      (λ i h. entering_accepted loan first make a after today i h.0 h.1 (accepted (is_replayed loan a i h.0))
      entries)
      (λ i h. let true_to = is_replayed loan a i h.0 in handed_on loan OneMore a after (a.loan.entries
      ++ make today a.loan ∷ []) i h.0 is (make today a.loan, entries) (kept true_to) (change true_to))

  pub then_refused : (loan : Account) (first : DisbursedLoan → Option Fault) (make : ℕ → DisbursedLoan → Entry)
      (a : KeptAccount)
      (today : ℕ) (fault : Fault) (old mid new : S) → Asks store (account_there loan) old mid (Ok a)
      → Reads store.stands store.clean store.leaves (λ i. i.catalogue.day) mid new (Ok today)
      → (IsReplayed a → (fault ≡ F20) ⊎ (refuses first make a.loan today ≡ Some fault))
      → Decides store (in_ledger loan (λ k l. enter first make k (account_in k l))) old new (Err fault)
  then_refused loan first make a today fault old mid new ask read refused =
      learned_refuses store (Known loan a today) (entering loan first make) old new fault (known loan a today old mid
      new ask read)
      (λ i h. elim (refused (is_replayed loan a i h.0)) [
        | inl given_up ↦ inl given_up
        | inr is ↦ inr
            (entering_refused loan first make a today fault i h.0 h.1 is)
      ])

  -- what is reversed in the account of a loan
  pub then_reversed : (loan : Account) (seq : ℕ) (a after : KeptAccount) (old new : S)
      → Asks store (account_there loan) old
      new (Ok a)
      → reversal_refused a.loan.entries seq ≡ None → after.loan ≡ record a.loan {
        entries = with_mark a.loan.entries
            (seq - 1) true;
      } → (IsReplayed a → IsReplayed after)
      → (IsReplayed a → IsChange a.loan after.loan after.change)
      → Decides store (in_ledger loan (λ k l. reverse seq (account_in k l))) old new
      (Ok (record { reply = reply.Loan loan (Reversed seq); commit = Some (ReverseEntry loan seq after) }))
  then_reversed loan seq a after old new ask accepted is kept change =
      let entries = ap (λ (x : DisbursedLoan). x.entries) is in
      learned_tells (λ i. account_there loan i ≡ Ok a) (on_account loan (λ k. reverse seq)) old new _ (learns store
      (account_there loan) old new a ask) (λ i h. reversing_accepted loan seq a after i h accepted entries)
      (λ i h. let true_to = is_replayed loan a i h in handed_on loan (OneReversed seq) a after (with_mark a.loan.entries
      (seq - 1) true) i h is (record { allowed = accepted; marked = entries }) (kept true_to) (change true_to))
