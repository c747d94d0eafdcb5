-- What isn't seen and what isn't there are answered alike.
use Rattle.std.proofs.Common.{◌≡◌, inl, inr, ℕ, Bool, true, false, cond, List, Option, Some, None, Result, Err, refl}
use Rattle.std.proofs.Common.{sym, ap, ◌∙◌}
use Rattle.std.specs.Prelude.{is_some}
use Rattle.mf_base.specs.declared.fault.Fault.{Fault}
use Rattle.mf_base.specs.declared.fault.Fault.TheVariants.{F2, F3, F4}
use Rattle.mf_office.specs.Tree.{is_at_or_below}
use Rattle.mf_office.specs.declared.caller.Caller.{Caller}
use Rattle.mf_office.specs.declared.account.Account.{Account}
use Rattle.mf_model.specs.declared.reply.Reply.{Reply}
use Rattle.mf_model.specs.declared.reply.Reply.TheVariants.{ClientShown}
use Rattle.mf_model.specs.declared.request.LoanRequest.{LoanRequest}
use Rattle.mf_model.specs.Calls.{Received}
use Rattle.mf_model.specs.Institution.{Institution, Catalogue, Office, Staff, Ledger, item_numbered, office_at}
use Rattle.mf_model.specs.Institution.{product_in}
use Rattle.mf_model.specs.Tree.{parent_of, seen_office}
use Rattle.mf_model.specs.Outcomes.{with_found, where_found}
use Rattle.mf_model.specs.Offices.{show_client}
use Rattle.mf_model.specs.Loans.{on_loan, of_loan, in_loan, submit, lend}
use Rattle.mf_model.specs.Desk.{On_office, need, meets, Outcome, of_office, in_office, where_permitted, staff_at, reply}
use Rattle.mf_model.specs.Desk.{reply_in}
use Rattle.mf_model.specs.Store.{rows_of}
use Rattle.mf_model.specs.Unseen.{Asked, Of_loan, Of_client, Loan_to_client, asked_of, is_account_there, IsUnseen}
use Rattle.mf_model.specs.Unseen.{call_from}

-- what is done in the office of an account that isn't there
loan_missing : (a : Account) (asked : LoanRequest) (c : Caller) (k : Catalogue) (office : Option Office)
    → is_some (item_numbered (rows_of office).loans a.number) ≡ false → in_office a.office (λ catalogue f.
    in_loan a (on_loan asked c catalogue f.rows a.number) f.rows) k office ≡ Err F4
loan_missing a asked c k None h = refl
loan_missing a asked c k (Some f) h = at (item_numbered f.rows.loans a.number) h
  where
    at : (loan : Option Ledger) → is_some loan ≡ false
        → of_office a.office (where_found loan (λ l. of_loan a f.rows (on_loan asked c k f.rows a.number l))) ≡ Err F4
    at None h = refl
    at (Some l) h = absurd (cc)

client_missing : (a : Account) (k : Catalogue) (office : Option Office)
    → is_some (item_numbered (rows_of office).clients a.number) ≡ false
    → in_office a.office (λ catalogue f. show_client a.office a.number f.rows) k office ≡ Err F4
client_missing a k None h = refl
client_missing a k (Some f) h = at (item_numbered f.rows.clients a.number) h
  where
    at : (name : Option (List ℕ)) → is_some name ≡ false → of_office a.office
        (with_found name (λ n. (ClientShown (record { office = a.office; number = a.number }) n, None))) ≡ Err F4
    at None h = refl
    at (Some n) h = absurd (cc)

borrower_missing : (a : Account) (product principal periods : ℕ) (k : Catalogue) (office : Option Office)
    → is_some (item_numbered (rows_of office).clients a.number) ≡ false
    → in_office a.office (λ catalogue f. submit a.office (record {
      client = a.number;
      product = product;
      principal = principal;
      periods = periods;
    }) catalogue f.rows) k office ≡ Err F4
borrower_missing a product principal periods k None h = refl
borrower_missing a product principal periods k (Some f) h = at (item_numbered f.rows.clients a.number) h
  where
    at : (name : Option (List ℕ)) → is_some name ≡ false
        → of_office a.office (where_found name (λ n. lend a.office (record {
          client = a.number;
          product = product;
          principal = principal;
          periods = periods;
        }) (product_in k product) f.rows)) ≡ Err F4
    at None h = refl
    at (Some n) h = absurd (cc)

-- what becomes of such a request where it may be sent
abbrev carried : Asked → Account → Caller → Institution → Option Office → Outcome
carried (Of_loan asked) a c i office =
    in_office a.office (λ catalogue f. in_loan a (on_loan asked c catalogue f.rows a.number) f.rows) i.catalogue office
carried Of_client a c i office = in_office a.office (λ catalogue f. show_client a.office a.number f.rows) i.catalogue
    office
carried (Loan_to_client product principal periods) a c i office = in_office a.office (λ catalogue f.
    submit a.office (record { client = a.number; product = product; principal = principal; periods = periods })
    catalogue f.rows) i.catalogue office

carried_missing : (asked : Asked) (a : Account) (c : Caller) (i : Institution) → is_account_there asked a i ≡ false
    → carried asked a c i (office_at a.office i.offices) ≡ Err F4
carried_missing (Of_loan asked) a c i h = loan_missing a asked c i.catalogue (office_at a.office i.offices) h
carried_missing Of_client a c i h = client_missing a i.catalogue (office_at a.office i.offices) h
carried_missing (Loan_to_client product principal periods) a c i h =
    borrower_missing a product principal periods i.catalogue (office_at a.office i.offices) h

carried_nowhere : (asked : Asked) (a : Account) (c : Caller) (i : Institution) → carried asked a c i None ≡ Err F4
carried_nowhere (Of_loan asked) a c i = refl
carried_nowhere Of_client a c i = refl
carried_nowhere (Loan_to_client product principal periods) a c i = refl

carried_unseen : (asked : Asked) (a : Account) (c : Caller) (i : Institution) → IsUnseen c asked a i
    → carried asked a c i (seen_office c.office a.office i) ≡ Err F4
carried_unseen asked a c i (inl hidden) =
    ap (λ b. carried asked a c i (cond b (office_at a.office i.offices) None)) hidden ∙ carried_nowhere asked a c i
carried_unseen asked a c i (inr missing) = at (is_at_or_below (parent_of i.offices) a.office c.office)
  where
    at : (b : Bool) → carried asked a c i (cond b (office_at a.office i.offices) None) ≡ Err F4
    at true = carried_missing asked a c i missing
    at false = carried_nowhere asked a c i

-- the answer by the caller's row: the same for each account that is unseen
abbrev refused_for : Asked → Account → Caller → Option Staff → Result Reply Fault
refused_for asked a c None = Err F2
refused_for asked a c (Some s) = cond (meets (need (asked_of asked a)) s.role c.office) (Err F4) (Err F3)

refused_unseen : (asked : Asked) (a : Account) (c : Caller) (r : Received) (i : Institution) → IsUnseen c asked a i
    → reply (call_from c (asked_of asked a) r) i ≡ refused_for asked a c (staff_at i c)
refused_unseen (Of_loan asked) a c r i u = at (staff_at i c)
  where
    at : (staff : Option Staff) → reply_in (where_permitted c (asked_of (Of_loan asked) a)
        (On_office a.office (λ caller catalogue f. in_loan a (on_loan asked caller catalogue f.rows a.number) f.rows))
        staff i) ≡ refused_for (Of_loan asked) a c staff
    at None = refl
    at (Some s) = permitted (meets (need (asked_of (Of_loan asked) a)) s.role c.office)
      where
        permitted : (b : Bool) → reply_in (cond b (carried (Of_loan asked) a c i (seen_office c.office a.office i))
            (Err F3)) ≡ cond b (Err F4) (Err F3)
        permitted true = ap reply_in (carried_unseen (Of_loan asked) a c i u)
        permitted false = refl
refused_unseen Of_client a c r i u = at (staff_at i c)
  where
    at : (staff : Option Staff) → reply_in (where_permitted c (asked_of Of_client a)
        (On_office a.office (λ caller catalogue f. show_client a.office a.number f.rows)) staff i)
        ≡ refused_for Of_client a c staff
    at None = refl
    at (Some s) = permitted (meets (need (asked_of Of_client a)) s.role c.office)
      where
        permitted : (b : Bool) → reply_in (cond b (carried Of_client a c i (seen_office c.office a.office i)) (Err F3))
            ≡ cond b (Err F4) (Err F3)
        permitted true = ap reply_in (carried_unseen Of_client a c i u)
        permitted false = refl
refused_unseen (Loan_to_client product principal periods) a c r i u = at (staff_at i c)
  where
    at : (staff : Option Staff) → reply_in (where_permitted c (asked_of (Loan_to_client product principal periods) a)
        (On_office a.office (λ caller catalogue f. submit a.office (record {
          client = a.number;
          product = product;
          principal = principal;
          periods = periods;
        }) catalogue f.rows)) staff i)
        ≡ refused_for (Loan_to_client product principal periods) a c staff
    at None = refl
    at (Some s) = permitted (meets (need (asked_of (Loan_to_client product principal periods) a)) s.role c.office)
      where
        permitted : (b : Bool) → reply_in (cond b (carried (Loan_to_client product principal periods) a c i
            (seen_office c.office a.office i)) (Err F3)) ≡ cond b (Err F4) (Err F3)
        permitted true = ap reply_in (carried_unseen (Loan_to_client product principal periods) a c i u)
        permitted false = refl

-- who may ask does not depend on the account
need_of : (asked : Asked) (a b : Account) → need (asked_of asked a) ≡ need (asked_of asked b)
need_of (Of_loan asked) a b = refl
need_of Of_client a b = refl
need_of (Loan_to_client product principal periods) a b = refl

pub unseen_alike : (asked : Asked) (a b : Account) (c : Caller) (r s : Received) (i : Institution)
    → IsUnseen c asked a i → IsUnseen c asked b i
    → reply (call_from c (asked_of asked a) r) i ≡ reply (call_from c (asked_of asked b) s) i
unseen_alike asked a b c r s i u v =
    refused_unseen asked a c r i u ∙ at (staff_at i c) ∙ sym (refused_unseen asked b c s i v)
  where
    at : (staff : Option Staff) → refused_for asked a c staff ≡ refused_for asked b c staff
    at None = refl
    at (Some f) = ap (λ n. cond (meets n f.role c.office) (Err F4) (Err F3)) (need_of asked a b)

pub unseen_refused : (asked : Asked) (a : Account) (c : Caller) (r : Received) (s : Staff) (i : Institution)
    → IsUnseen c asked a i → staff_at i c ≡ Some s → meets (need (asked_of asked a)) s.role c.office ≡ true
    → reply (call_from c (asked_of asked a) r) i ≡ Err F4
unseen_refused asked a c r s i u known may = refused_unseen asked a c r i u ∙ ap (refused_for asked a c) known
    ∙ ap (λ b. cond b (Err F4) (Err F3)) may
