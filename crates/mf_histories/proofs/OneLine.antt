-- What a line of a run does to the entries of a loan is its deed.
use Rattle.std.proofs.Common.{◌≡◌, ◌≢◌, ℕ, Bool, true, false, cond, List, Option, Some, None, Result, Ok, Err, inl, inr}
use Rattle.std.proofs.Common.{refl, sym, ap, ◌∙◌, subst, arith}
use Rattle.std.specs.Prelude.{◌==◌, ◌&&◌, not}
use Rattle.std.proofs.lemmas.Bool.{and_parts, cases_eq}
use Rattle.std.proofs.lemmas.Bool.Decides.{nat_tests}
use Rattle.mf_base.specs.declared.fault.Fault.{Fault}
use Rattle.mf_base.specs.declared.fault.Fault.TheVariants.{F2, F3, F4, F16, F18, F20}
use Rattle.mf_office.specs.Tree.{is_within, is_at_or_below}
use Rattle.mf_office.specs.declared.account.Account.{Account}
use Rattle.mf_office.specs.declared.caller.Caller.{Caller}
use Rattle.mf_account.specs.Loan.{DisbursedLoan}
use Rattle.mf_model.specs.declared.request.LoanRequest.{LoanRequest}
use Rattle.mf_model.specs.declared.request.OfficeRequest.{OfficeRequest}
use Rattle.mf_model.specs.declared.request.Request.{Request}
use Rattle.mf_model.specs.declared.request.Request.TheVariants as request
use Rattle.mf_model.specs.declared.reply.LoanReply.{LoanReply}
use Rattle.mf_model.specs.declared.reply.Reply.{Reply}
use Rattle.mf_model.specs.declared.reply.Reply.TheVariants.{OfficeMade}
use Rattle.mf_model.specs.declared.reply.Reply.TheVariants as reply
use Rattle.mf_model.specs.Accounts.{account_in}
use Rattle.mf_model.specs.Arrears.{list_arrears}
use Rattle.mf_model.specs.Catalogue.{on_catalogue}
use Rattle.mf_model.specs.Desk.{flaw_fault, Plan, On_catalogue, On_office, On_all_seen, On_new_office, plan, need}
use Rattle.mf_model.specs.Desk.{meets, Outcome, of_catalogue, of_office, of_reading, on_office, in_office, carried_out}
use Rattle.mf_model.specs.Desk.{staff_at, where_permitted, sent_by, outcome, reply_in, change_in}
use Rattle.mf_model.specs.Institution.{Institution, Catalogue, Office, Rows, Staff, Ledger, office_at, Change}
use Rattle.mf_model.specs.Institution.{Rows_become, Office_added, Noted, after, after_maybe, after_line}
use Rattle.mf_model.specs.Institution.{item_numbered}
use Rattle.mf_model.specs.Loans.{LedgerChange, of_loan, in_loan, on_loan, loan_changed}
use Rattle.mf_model.specs.Offices.{list_offices}
use Rattle.mf_model.specs.Outcomes.{where_found}
use Rattle.mf_model.specs.Run.{Line, change_of_line, next, noted_of}
use Rattle.mf_model.specs.Store.{rows_of, ledger_at, account_of}
use Rattle.mf_model.specs.Tree.{parent_of, is_there, seen_by}
use Rattle.mf_histories.specs.Histories.{Deed, is_same_loan, asked_of_loan, told_in, deed_told, deed_of, deed_by}
use Rattle.mf_histories.specs.Histories.{entries_of_ledger}
use Rattle.mf_histories.specs.Histories.{entries_of_loan}
use Rattle.mf_histories.proofs.Numbered.{numbered_changed, numbered_kept, entries_here, entries_elsewhere}
use Rattle.mf_histories.proofs.Numbered.{entries_before, entries_with_office}
use Rattle.mf_histories.proofs.OneRequest.{IsDone, IsOnLedger, done_on, KeepEntries, kept_in_office}

untold : (caller : Option Caller) (asked : Option LoanRequest) (k : Catalogue) (account : Option DisbursedLoan)
    → deed_of caller asked k account None ≡ None
untold None asked k account = refl
untold (Some c) None k account = refl
untold (Some c) (Some asked) k account = refl

unasked : (caller : Option Caller) (k : Catalogue) (account : Option DisbursedLoan) (told : Option LoanReply)
    → deed_of caller None k account told ≡ None
unasked None k account told = refl
unasked (Some c) k account told = refl

module _ (a : Account) (i : Institution) where
  -- the deed of a call by what comes of it
  abbrev deed_in : Option Caller → Request → Outcome → Option Deed
  deed_in caller asked o = deed_of caller (asked_of_loan a asked) i.catalogue (account_of i.catalogue (ledger_at a i))
      (told_in (reply_in o))

  abbrev IsDoneBy : Option Caller → Request → Outcome → Type 0
  IsDoneBy caller asked o =
      IsDone (deed_in caller asked o) (entries_of_loan a i) (entries_of_loan a (after_maybe (change_in o) i))

  refused : (caller : Option Caller) (asked : Request) (fault : Fault) → IsDoneBy caller asked (Err fault)
  refused caller asked fault =
      subst (λ d. IsDone d (entries_of_loan a i) (entries_of_loan a i))
      (sym (untold caller (asked_of_loan a asked) i.catalogue (account_of i.catalogue (ledger_at a i)))) refl

  -- a request that is on no loan
  elsewhere : (caller : Option Caller) (asked : Request) (o : Outcome) → asked_of_loan a asked ≡ None
      → entries_of_loan a (after_maybe (change_in o) i) ≡ entries_of_loan a i → IsDoneBy caller asked o
  elsewhere caller asked o none same =
      let deed : deed_in caller asked o ≡ None =
      ap (λ q. deed_of caller q i.catalogue (account_of i.catalogue (ledger_at a i)) (told_in (reply_in o))) none
      ∙ unasked caller i.catalogue (account_of i.catalogue (ledger_at a i)) (told_in (reply_in o)) in
      subst (λ d. IsDone d (entries_of_loan a i) (entries_of_loan a (after_maybe (change_in o) i))) (sym deed) same

  on_catalogue_kept : (r : Result (Reply × Option Catalogue) Fault)
      → entries_of_loan a (after_maybe (change_in (of_catalogue r)) i) ≡ entries_of_loan a i
  on_catalogue_kept (Err fault) = refl
  on_catalogue_kept (Ok (told, None)) = refl
  on_catalogue_kept (Ok (told, Some k)) = refl

  reading_kept : (r : Result Reply Fault) → entries_of_loan a (after_maybe (change_in (of_reading r)) i)
      ≡ entries_of_loan a i
  reading_kept (Err fault) = refl
  reading_kept (Ok told) = refl

  new_office_kept : (number parent : ℕ) (name : List ℕ) (b taken near : Bool) → is_there i.offices number ≡ taken
      → entries_of_loan a
      (after_maybe
      (change_in (cond b (Err F4)
      (cond taken (Err F16) (cond near (Ok (OfficeMade number, Some (Office_added number parent name)))
      (Err F18))))) i) ≡ entries_of_loan a i
  new_office_kept number parent name true taken near e = refl
  new_office_kept number parent name false true near e = refl
  new_office_kept number parent name false false true e = entries_with_office i number parent name a e
  new_office_kept number parent name false false false e = refl

  rows_kept : (x : ℕ) (f : Office) (r : Result (Reply × Option Rows) Fault) → office_at x i.offices ≡ Some f
      → KeepEntries f.rows r → entries_of_loan a (after_maybe (change_in (of_office x r)) i) ≡ entries_of_loan a i
  rows_kept x f (Err fault) there keeps = refl
  rows_kept x f (Ok (told, None)) there keeps = refl
  rows_kept x f (Ok (told, Some rows)) there keeps =
      elim (cases_eq a.office x) [
        | inl here ↦ entries_here i x rows f a there here ∙ keeps a.number ∙ sym (entries_before i x f a there here)
        | inr other ↦ entries_elsewhere i x rows a other
      ]

  office_kept : (x : ℕ) (asked : OfficeRequest) (seen : Bool) (found : Option Office) → office_at x i.offices ≡ found
      → entries_of_loan a (after_maybe (change_in (in_office x (λ k f. on_office asked x k f.rows) i.catalogue
      (cond seen found None))) i) ≡ entries_of_loan a i
  office_kept x asked false found there = refl
  office_kept x asked true None there = refl
  office_kept x asked true (Some f) there =
      rows_kept x f (on_office asked x i.catalogue f.rows) there (kept_in_office asked x i.catalogue f.rows)

  -- a request on a loan
  module _ (c : Caller) (b : Account) (asked : LoanRequest) where
    ours : is_same_loan a b ≡ true → (a.office ≡ b.office) × (a.number ≡ b.number)
    ours e =
        let both = and_parts (b.office == a.office) (b.number == a.number) e in
        let one = both.0 in
        let two = both.1 in
        (grind (arith, nat_tests), grind (arith, nat_tests))

    another : is_same_loan a b ≡ false → a.office ≡ b.office → a.number ≢ b.number
    another e here same = absurd (grind (arith, nat_tests))

    asked_is : (s : Bool) → is_same_loan a b ≡ s → asked_of_loan a (request.Loan b asked) ≡ cond s (Some asked) None
    asked_is s e = ap (λ x. cond x (Some asked) None) e

    ledger_here : (f : Office) (l : Ledger) → office_at b.office i.offices ≡ Some f → item_numbered f.rows.loans
        b.number ≡ Some l → a.office ≡ b.office → a.number ≡ b.number → ledger_at a i ≡ Some l
    ledger_here f l there found one two =
        ap (λ y. item_numbered (rows_of (office_at y i.offices)).loans a.number) one
        ∙ ap (λ o. item_numbered (rows_of o).loans a.number) there
        ∙ ap (item_numbered f.rows.loans) two ∙ found

    -- the loan is another one
    others_loan : (o : Outcome) → is_same_loan a b ≡ false → entries_of_loan a (after_maybe (change_in o) i)
        ≡ entries_of_loan a i
        → IsDoneBy (Some c) (request.Loan b asked) o
    others_loan o e same = elsewhere (Some c) (request.Loan b asked) o (asked_is false e) same

    -- it is this loan
    own_loan : (told : LoanReply) (change : Option Change) (l : Ledger) → is_same_loan a b ≡ true → ledger_at a i
        ≡ Some l
        → IsDone (deed_told asked c i.catalogue (account_in i.catalogue l) told) l.entries (entries_of_loan a
        (after_maybe change i)) → IsDoneBy (Some c) (request.Loan b asked) (Ok (reply.Loan b told, change))
    own_loan told change l e there done =
        let deed : deed_in (Some c) (request.Loan b asked) (Ok (reply.Loan b told, change))
        ≡ deed_told asked c i.catalogue (account_in i.catalogue l) told =
        ap (λ q. deed_of (Some c) q i.catalogue (account_of i.catalogue (ledger_at a i)) (Some told)) (asked_is true e)
        ∙ ap (λ q. deed_told asked c i.catalogue (account_of i.catalogue q) told) there in
        subst (λ d. IsDone d (entries_of_loan a i) (entries_of_loan a (after_maybe change i))) (sym deed)
        (subst (λ es. IsDone (deed_told asked c i.catalogue (account_in i.catalogue l) told) es
        (entries_of_loan a (after_maybe change i))) (sym (ap entries_of_ledger there)) done)

    loan_done : (f : Office) (l : Ledger) (r : Result (LoanReply × Option LedgerChange) Fault)
        → office_at b.office i.offices ≡ Some f → item_numbered f.rows.loans b.number ≡ Some l
        → IsOnLedger asked c i.catalogue l r → IsDoneBy (Some c) (request.Loan b asked)
        (of_office b.office (of_loan b f.rows r))
    loan_done f l (Err fault) there found done = refused (Some c) (request.Loan b asked) fault
    loan_done f l (Ok (told, None)) there found done = step (is_same_loan a b) refl
      where
        step : (s : Bool) → is_same_loan a b ≡ s
            → IsDoneBy (Some c) (request.Loan b asked) (Ok (reply.Loan b told, None))
        step false e = others_loan (Ok (reply.Loan b told, None)) e refl
        step true e =
            let names = ours e in
            let here : ledger_at a i ≡ Some l = ledger_here f l there found names.0 names.1 in
            own_loan told None l e here (subst (λ d. IsDone d l.entries (entries_of_loan a i)) (sym done)
            (ap entries_of_ledger here))
    loan_done f l (Ok (told, Some change)) there found done = step (is_same_loan a b) refl
      where
        rows : Rows
        rows = loan_changed b.number change f.rows

        step : (s : Bool) → is_same_loan a b ≡ s → IsDoneBy (Some c) (request.Loan b asked)
            (Ok (reply.Loan b told, Some (Rows_become b.office rows)))
        step false e = others_loan (Ok (reply.Loan b told, Some (Rows_become b.office rows))) e
            (elim (cases_eq a.office b.office) [
              | inl here ↦
                  entries_here i b.office rows f a there here
                  ∙ ap entries_of_ledger (numbered_kept b.number a.number change f.rows.loans l found (another e here))
                  ∙ sym (entries_before i b.office f a there here)
              | inr other ↦ entries_elsewhere i b.office rows a other
            ])
        step true e =
            let names = ours e in
            let here : ledger_at a i ≡ Some l = ledger_here f l there found names.0 names.1 in
            let after_is : entries_of_loan a (after (Rows_become b.office rows) i) ≡ (change l).entries =
            entries_here i b.office rows f a there names.0
            ∙ ap (λ n. entries_of_ledger (item_numbered rows.loans n)) names.1
            ∙ ap entries_of_ledger (numbered_changed b.number change f.rows.loans l found) in
            own_loan told (Some (Rows_become b.office rows)) l e here
            (subst (λ es. IsDone (deed_told asked c i.catalogue (account_in i.catalogue l) told) l.entries es)
            (sym after_is) done)

    in_loan_done : (f : Office) (found : Option Ledger) → office_at b.office i.offices ≡ Some f
        → item_numbered f.rows.loans b.number ≡ found
        → IsDoneBy (Some c) (request.Loan b asked)
        (of_office b.office (where_found found (λ l. of_loan b f.rows (on_loan asked c i.catalogue f.rows b.number
        l))))
    in_loan_done f None there is = refused (Some c) (request.Loan b asked) F4
    in_loan_done f (Some l) there is = loan_done f l (on_loan asked c i.catalogue f.rows b.number l) there is
        (done_on asked c i.catalogue f.rows b.number l)

    seen_loan_done : (seen : Bool) (found : Option Office) → office_at b.office i.offices ≡ found
        → IsDoneBy (Some c) (request.Loan b asked)
        (in_office b.office (λ k f. in_loan b (on_loan asked c k f.rows b.number) f.rows) i.catalogue
        (cond seen found None))
    seen_loan_done false found there = refused (Some c) (request.Loan b asked) F4
    seen_loan_done true None there = refused (Some c) (request.Loan b asked) F4
    seen_loan_done true (Some f) there = in_loan_done f (item_numbered f.rows.loans b.number) there refl

  -- a request that its caller may send
  sent_plan : (caller : Option Caller) (asked : Request) (p : Plan) → ((c : Caller)
      → IsDoneBy (Some c) asked (carried_out c p i)) → IsDoneBy caller asked (sent_by caller asked (Ok p) i)
  sent_plan None asked p done = refused None asked F2
  sent_plan (Some c) asked p done = permitted (staff_at i c)
    where
      met : (b : Bool) → IsDoneBy (Some c) asked (cond b (carried_out c p i) (Err F3))
      met true = done c
      met false = refused (Some c) asked F3

      permitted : (s : Option Staff) → IsDoneBy (Some c) asked (where_permitted c asked p s i)
      permitted None = refused (Some c) asked F2
      permitted (Some staff) = met (meets (need asked) staff.role c.office)

  sent_done : (caller : Option Caller) (asked : Request) → IsDoneBy caller asked (sent_by caller asked (plan asked) i)
  sent_done caller (request.Unreadable flaw) = refused caller (request.Unreadable flaw) (flaw_fault flaw)
  sent_done caller (request.Catalogue q) =
      sent_plan caller (request.Catalogue q) (On_catalogue (on_catalogue q))
      (λ c. elsewhere (Some c) (request.Catalogue q) (of_catalogue (on_catalogue q i.catalogue)) refl
      (on_catalogue_kept (on_catalogue q i.catalogue)))
  sent_done caller (request.Office x q) =
      sent_plan caller (request.Office x q) (On_office x (λ c k f. on_office q x k f.rows))
      (λ c. elsewhere (Some c) (request.Office x q) (carried_out c (On_office x (λ d k f. on_office q x k f.rows)) i)
      refl (office_kept x q (is_at_or_below (parent_of i.offices) x c.office) (office_at x i.offices) refl))
  sent_done caller (request.Loan b q) =
      sent_plan caller (request.Loan b q) (On_office b.office (λ c k f. in_loan b (on_loan q c k f.rows b.number)
      f.rows))
      (λ c. seen_loan_done c b q (is_at_or_below (parent_of i.offices) b.office c.office) (office_at b.office i.offices)
      refl)
  sent_done caller request.SeenOffices =
      sent_plan caller request.SeenOffices (On_all_seen list_offices)
      (λ c. elsewhere (Some c) request.SeenOffices (of_reading (list_offices i.catalogue (seen_by c.office i.offices)))
      refl (reading_kept (list_offices i.catalogue (seen_by c.office i.offices))))
  sent_done caller request.SeenArrears =
      sent_plan caller request.SeenArrears (On_all_seen list_arrears)
      (λ c. elsewhere (Some c) request.SeenArrears (of_reading (list_arrears i.catalogue (seen_by c.office i.offices)))
      refl (reading_kept (list_arrears i.catalogue (seen_by c.office i.offices))))
  sent_done caller (request.NewOffice number parent name) =
      sent_plan caller (request.NewOffice number parent name) (On_new_office number parent name)
      (λ c. elsewhere (Some c) (request.NewOffice number parent name) (carried_out c (On_new_office number parent name)
      i) refl
      (new_office_kept number parent name (not (is_there i.offices parent && is_at_or_below (parent_of i.offices) parent
      c.office)) (is_there i.offices number) (is_within 4 (parent_of i.offices) parent 1) refl))

  -- what is noted doesn't matter
  entries_noted : (noted : Noted) (c : Option Change) → entries_of_loan a (after_maybe c i)
      ≡ entries_of_loan a (after_line noted c i)
  entries_noted noted None = refl
  entries_noted noted (Some change) = refl

  pub line_done : (l : Line) → IsDone (deed_by a l i) (entries_of_loan a i) (entries_of_loan a (next l i))
  line_done l = subst (IsDone (deed_by a l i) (entries_of_loan a i))
      (entries_noted (noted_of l.call i) (change_of_line l i)) (step l.given_up)
    where
      step : (g : Bool) → IsDone (deed_of l.call.caller (asked_of_loan a l.call.request) i.catalogue
          (account_of i.catalogue (ledger_at a i)) (told_in (cond g (Err F20) (reply_in (outcome l.call i)))))
          (entries_of_loan a i) (entries_of_loan a (after_maybe (cond g None (change_in (outcome l.call i))) i))
      step true = refused l.call.caller l.call.request F20
      step false = sent_done l.call.caller l.call.request
