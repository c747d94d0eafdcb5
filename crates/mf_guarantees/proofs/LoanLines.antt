-- What becomes of a loan by one line: nothing, or what an accepted request on it does.
use Rattle.std.proofs.Common.{◌≡◌, ◌⊎◌, ℕ, inl, inr, Bool, true, false, cond, List, [], Option, Some, None}
use Rattle.std.proofs.Common.{Result, Ok, Err, length, refl, sym, ap, ◌∙◌, subst}
use Rattle.std.specs.Prelude.{◌==◌, option_map}
use Rattle.std.proofs.lemmas.Bool.{cases_eq}
use Rattle.mf_base.specs.declared.fault.Fault.{Fault}
use Rattle.mf_catalog.specs.declared.product.Product.{Product}
use Rattle.mf_catalog.specs.Product.{lending}
use Rattle.mf_office.specs.declared.account.Account.{Account}
use Rattle.mf_office.specs.declared.caller.Caller.{Caller}
use Rattle.mf_account.specs.declared.entry.Entry.{Entry}
use Rattle.mf_model.specs.Calls.{Call}
use Rattle.mf_model.specs.declared.reply.Reply.{Reply}
use Rattle.mf_model.specs.declared.request.Application.{Application}
use Rattle.mf_model.specs.declared.request.LoanRequest.{LoanRequest}
use Rattle.mf_model.specs.declared.request.OfficeRequest.{OfficeRequest}
use Rattle.mf_model.specs.declared.request.OfficeRequest.TheVariants.{AddStaff, AddClient, ShowClient, SubmitLoan}
use Rattle.mf_model.specs.declared.request.OfficeRequest.TheVariants.{ListLoans}
use Rattle.mf_model.specs.declared.request.Request.{Request}
use Rattle.mf_model.specs.declared.request.Request.TheVariants as request
use Rattle.mf_model.specs.Catalogue.{on_catalogue}
use Rattle.mf_model.specs.Desk.{plan, change_in, sender_effect, outcome, on_office, of_office, in_office}
use Rattle.mf_model.specs.Institution.{Institution, Catalogue, Office, Rows, Ledger, office_at, Change, Rows_become}
use Rattle.mf_model.specs.Institution.{Office_added, after, after_line, item_numbered, new_office, product_in}
use Rattle.mf_model.specs.Institution.{with_rows}
use Rattle.mf_model.specs.Loans.{LedgerChange, on_loan, loan_changed, loan_added, new_loan, lend}
use Rattle.mf_model.specs.Offices.{staff_added, client_added}
use Rattle.mf_model.specs.Outcomes.{next_of, with_value, with_found, where_found, unless_refused}
use Rattle.mf_model.specs.Run.{Line, change_of_line, next, noted_of}
use Rattle.mf_model.specs.Store.{ledger_at, rows_of}
use Rattle.mf_model.specs.Tree.{IsTree, Fits}
use Rattle.mf_model.proofs.Confined.{others_stay, old_stay}
use Rattle.mf_model.proofs.Growing.{numbered_push}
use Rattle.mf_model.proofs.StaffLemmas.{rows_found}
use Rattle.mf_model.proofs.Steps.{known_line, catalogue_change}
use Rattle.mf_guarantees.specs.Entered.{entries_held}
use Rattle.mf_guarantees.proofs.EnteredLemmas.{LedgersAfter, ledgers_after, new_office_same, office_same, same_account}
use Rattle.mf_guarantees.proofs.EnteredLemmas.{none_there}
use Rattle.mf_guarantees.proofs.LoanSteps.{IsPermitted, permitted, ChangesLoan, loan_changes, change_told}

-- the entries of a loan, where it is
abbrev pub held : Account → Institution → List Entry
held loan i = entries_held (ledger_at loan i)

-- a request on the loan was accepted, and this became of its entries
pub record IsChangedBy (call : Call) (loan : Account) (i j : Institution) : Type 0 where
  pub asked : LoanRequest
  pub caller : Caller
  pub office : Office
  pub ledger : Ledger
  pub becomes : LedgerChange
  pub request_is : call.request ≡ request.Loan loan asked
  pub office_is : office_at loan.office i.offices ≡ Some office
  pub becomes_is : change_told (on_loan asked caller i.catalogue office.rows loan.number ledger) ≡ Some becomes
  pub before : ledger_at loan i ≡ Some ledger
  pub now : ledger_at loan j ≡ Some (becomes ledger)

-- the loan, if it is there, is as it was
pub record StaysAsItWas (loan : Account) (i j : Institution) : Type 0 where
  pub entries : held loan j ≡ held loan i
  pub ledger : (m : Ledger) → ledger_at loan i ≡ Some m → ledger_at loan j ≡ Some m

abbrev pub AfterLine : Call → Account → Institution → Institution → Type 0
AfterLine call loan i j = StaysAsItWas loan i j ⊎ IsChangedBy call loan i j

wholly_same : (loan : Account) (i j : Institution) → ledger_at loan j ≡ ledger_at loan i → StaysAsItWas loan i j
wholly_same loan i j same = record { entries = ap entries_held same; ledger = λ m there. same ∙ there }

-- ---- requests on offices leave the loans that are there

abbrev KeepsLoans : Rows → Rows → Type 0
KeepsLoans old new = (n : ℕ) (l : Ledger) → item_numbered old.loans n ≡ Some l → item_numbered new.loans n ≡ Some l

abbrev KeepsLoansBy : Rows → Result (Reply × Option Rows) Fault → Type 0
KeepsLoansBy rows (Err fault) = Unit {0}
KeepsLoansBy rows (Ok (told, None)) = Unit {0}
KeepsLoansBy rows (Ok (told, Some new)) = KeepsLoans rows new

counted : (rows : Rows) (r : Result ℕ Fault) (told : ℕ → Reply) (new : Rows) → KeepsLoans rows new
    → KeepsLoansBy rows (with_value r (λ n. (told n, Some new)))
counted rows (Err fault) told new same = tt
counted rows (Ok n) told new same = same

shown : (rows : Rows) (found : Option (List ℕ)) (told : List ℕ → Reply)
    → KeepsLoansBy rows (with_found found (λ name. (told name, None)))
shown rows None told = tt
shown rows (Some name) told = tt

refused : (rows : Rows) (r : Result (Unit {0}) Fault) (next : Result (Reply × Option Rows) Fault)
    → KeepsLoansBy rows next → KeepsLoansBy rows (unless_refused r next)
refused rows (Err fault) next same = tt
refused rows (Ok u) next same = same

lent : (office : ℕ) (asked : Application) (rows : Rows) (found : Option Product)
    → KeepsLoansBy rows (lend office asked found rows)
lent office asked rows None = tt
lent office asked rows (Some p) = refused rows (lending p asked.principal asked.periods) _
    (counted rows (next_of (length rows.loans) 999999) _ (loan_added (new_loan asked) rows)
    (λ n l there. numbered_push rows.loans (record { loan = new_loan asked; entries = [] }) n l there))

submitted : (office : ℕ) (asked : Application) (k : Catalogue) (rows : Rows) (client : Option (List ℕ))
    → KeepsLoansBy rows (where_found client (λ name. lend office asked (product_in k asked.product) rows))
submitted office asked k rows None = tt
submitted office asked k rows (Some name) = lent office asked rows (product_in k asked.product)

kept_by_office : (asked : OfficeRequest) (office : ℕ) (k : Catalogue) (rows : Rows)
    → KeepsLoansBy rows (on_office asked office k rows)
kept_by_office (AddStaff name role) office k rows =
    counted rows (next_of (length rows.staff) 9999) _ (staff_added name role rows) (λ n l there. there)
kept_by_office (AddClient name) office k rows =
    counted rows (next_of (length rows.clients) 999999) _ (client_added name rows) (λ n l there. there)
kept_by_office (ShowClient client) office k rows = shown rows (item_numbered rows.clients client) _
kept_by_office (SubmitLoan asked) office k rows =
    submitted office asked k rows (item_numbered rows.clients asked.client)
kept_by_office (ListLoans above) office k rows = tt

abbrev ledger_in : Option Office → ℕ → Option Ledger
ledger_in o n = item_numbered (rows_of o).loans n

rows_keep : (i : Institution) (x : ℕ) (new : Rows) (f : Office) (loan : Account) (m : Ledger)
    → office_at x i.offices ≡ Some f → KeepsLoans f.rows new → ledger_at loan i ≡ Some m
    → ledger_at loan (after (Rows_become x new) i) ≡ Some m
rows_keep i x new f loan m there keeps is =
    let n : ℕ = loan.number in
    elim (cases_eq loan.office x) [
      | inl own ↦
          ap (λ y. ledger_in (office_at y (with_rows x new i.offices)) n) own
          ∙ ap (λ (o : Option Office). ledger_in o n) (rows_found x new i.offices
          ∙ ap (option_map (λ (g : Office). record g { rows = new })) there)
          ∙ keeps n m (sym (ap (λ y. ledger_in (office_at y i.offices) n) own
          ∙ ap (λ (o : Option Office). ledger_in o n) there) ∙ is)
      | inr other ↦ ap (λ (o : Option Office). ledger_in o n) (others_stay x loan.office new i.offices other) ∙ is
    ]

told_keeps : (i : Institution) (change : Change) (x : ℕ) (f : Office) (loan : Account) (m : Ledger)
    (r : Result (Reply × Option Rows) Fault) → office_at x i.offices ≡ Some f → KeepsLoansBy f.rows r
    → change_in (of_office x r) ≡ Some change → ledger_at loan i ≡ Some m → ledger_at loan (after change i) ≡ Some m
told_keeps i change x f loan m (Err fault) there keeps h is = absurd (cc)
told_keeps i change x f loan m (Ok (told, None)) there keeps h is = absurd (cc)
told_keeps i change x f loan m (Ok (told, Some new)) there keeps h is =
    let becomes : Rows_become x new ≡ change = cc in
    ap (λ (c : Change). ledger_at loan (after c i)) (sym becomes) ∙ rows_keep i x new f loan m there keeps is

office_keeps : (i : Institution) (change : Change) (x : ℕ) (asked : OfficeRequest) (loan : Account) (m : Ledger)
    (o : Option Office) → office_at x i.offices ≡ o
    → change_in (in_office x (λ k f. on_office asked x k f.rows) i.catalogue o) ≡ Some change
    → ledger_at loan i ≡ Some m → ledger_at loan (after change i) ≡ Some m
office_keeps i change x asked loan m None there h is = absurd (cc)
office_keeps i change x asked loan m (Some f) there h is =
    told_keeps i change x f loan m (on_office asked x i.catalogue f.rows) there
    (kept_by_office asked x i.catalogue f.rows) h is

new_office_keeps : (i : Institution) (number parent : ℕ) (name : List ℕ) (loan : Account) (m : Ledger)
    → Fits (Office_added number parent name) i.offices → ledger_at loan i ≡ Some m
    → ledger_at loan (after (Office_added number parent name) i) ≡ Some m
new_office_keeps i number parent name loan m fit is = elim (cases_eq loan.office number) [
  | inl own ↦
      let none : office_at loan.office i.offices ≡ None =
      ap (λ y. office_at y i.offices) own ∙ none_there (office_at number i.offices) fit.free in
      absurd (nothing loan.number (sym (ap (λ (o : Option Office). ledger_in o loan.number) none) ∙ is))
  | inr other ↦
      ap (λ (o : Option Office). ledger_in o loan.number)
      (old_stay (new_office number parent name) loan.office i.offices other) ∙ is
]
  where
    nothing : (n : ℕ) → item_numbered [] n ≡ Some m → ⊥
    nothing n h = go (n == 0) h
      where
        go : (b : Bool) → cond b None None ≡ Some m → ⊥
        go true h = cc
        go false h = cc

-- ---- one accepted request

on_own_loan : (call : Call) (own loan : Account) (asked : LoanRequest) (i : Institution) (change : Change)
    → call.request ≡ request.Loan own asked → ChangesLoan own asked call.caller i change
    → AfterLine call loan i (after change i)
on_own_loan call own loan asked i change is s =
    let j : Institution = after (Rows_become own.office (loan_changed own.number s.becomes s.office.rows)) i in
    let ledgers : LedgersAfter own s.ledger (s.becomes s.ledger) i j =
    ledgers_after own i s.office s.ledger s.becomes s.office_is s.ledger_is in
    let here : AfterLine call own i j = inr (record {
      asked = asked;
      caller = s.caller;
      office = s.office;
      ledger = s.ledger;
      becomes = s.becomes;
      request_is = is;
      office_is = s.office_is;
      becomes_is = s.becomes_is;
      before = ledgers.before;
      now = ledgers.now;
    }) in
    subst (λ (c : Change). AfterLine call loan i (after c i)) s.change_is
    (elim (same_account loan own) [
      | inl same ↦ subst (λ (a : Account). AfterLine call a i j) (sym same) here
      | inr apart ↦ inl (wholly_same loan i j (ledgers.others loan apart))
    ])

by_request : (call : Call) (c : Caller) (r : Request) (loan : Account) (i : Institution) (change : Change)
    → call.request ≡ r → change_in (outcome call i) ≡ Some change → sender_effect (Some c) (plan r) i ≡ Some change
    → Fits change i.offices → AfterLine call loan i (after change i)
by_request call c (request.Unreadable flaw) loan i change is h e fit = absurd (cc)
by_request call c (request.Catalogue asked) loan i change is h e fit =
    let k = catalogue_change (on_catalogue asked i.catalogue) change e in
    inl (wholly_same loan i (after change i) (ap (λ (x : Change). ledger_at loan (after x i)) k.1))
by_request call c (request.Office x asked) loan i change is h e fit =
    inl (record {
      entries = office_same i change x asked loan (office_at x i.offices) refl e;
      ledger = λ m there. office_keeps i change x asked loan m (office_at x i.offices) refl e there;
    })
by_request call c (request.Loan own asked) loan i change is h e fit =
    on_own_loan call own loan asked i change is (loan_changes call i change own asked is h)
by_request call c request.SeenOffices loan i change is h e fit = absurd (cc)
by_request call c request.SeenArrears loan i change is h e fit = absurd (cc)
by_request call c (request.NewOffice number parent name) loan i change is h e fit =
    let added : Office_added number parent name ≡ change = cc in
    let fits = subst (λ (x : Change). Fits x i.offices) (sym added) fit in
    subst (λ (x : Change). AfterLine call loan i (after x i)) added (inl (record {
      entries = new_office_same i number parent name loan fits;
      ledger = λ m there. new_office_keeps i number parent name loan m fits there;
    }))

-- ---- one line

pub line_loan : (loan : Account) (l : Line) (i : Institution) → IsTree i.offices → AfterLine l.call loan i (next l i)
line_loan loan l i t = go l.given_up (change_in (outcome l.call i)) refl refl
  where
    becomes : (c : Option Change) → change_of_line l i ≡ c → ledger_at loan (next l i)
        ≡ ledger_at loan (after_line (noted_of l.call i) c i)
    becomes c is = ap (λ (x : Option Change). ledger_at loan (after_line (noted_of l.call i) x i)) is

    go : (g : Bool) (c : Option Change) → l.given_up ≡ g → change_in (outcome l.call i) ≡ c
        → AfterLine l.call loan i (next l i)
    go true c e f = inl (wholly_same loan i (next l i)
        (becomes None (ap (λ g. cond g None (change_in (outcome l.call i))) e)))
    go false None e f = inl (wholly_same loan i (next l i)
        (becomes None (ap (λ g. cond g None (change_in (outcome l.call i))) e ∙ f)))
    go false (Some change) e f =
        let to : ledger_at loan (next l i) ≡ ledger_at loan (after change i) =
        becomes (Some change) (ap (λ g. cond g None (change_in (outcome l.call i))) e ∙ f) in
        let p : IsPermitted l.call i = permitted l.call i change f in
        let known = known_line l.call.caller l.call.request (plan l.call.request) i change t refl f in
        let effect : sender_effect (Some p.caller) (plan l.call.request) i ≡ Some change =
        ap (λ (c : Option Caller). sender_effect c (plan l.call.request) i) (sym p.caller_is) ∙ known.made_is in
        elim (by_request l.call p.caller l.call.request loan i change refl f effect known.fits) [
          | inl stays ↦ inl (record {
            entries = ap entries_held to ∙ stays.entries;
            ledger = λ m there. to ∙ stays.ledger m there;
          })
          | inr changed ↦ inr (record {
            asked = changed.asked;
            caller = changed.caller;
            office = changed.office;
            ledger = changed.ledger;
            becomes = changed.becomes;
            request_is = changed.request_is;
            office_is = changed.office_is;
            becomes_is = changed.becomes_is;
            before = changed.before;
            now = to ∙ changed.now;
          })
        ]
