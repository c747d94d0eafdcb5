-- Who made the entries that a run adds.
use Rattle.std.proofs.Common.{◌≡◌, ◌≢◌, ◌⊎◌, ◌+◌, ◌-◌, ℕ, zero, suc, Bool, true, false, cond, List, [], ◌∷◌}
use Rattle.std.proofs.Common.{◌++◌, length, Option, Some, None, Result, Ok, Err, refl, sym, ap, ◌∙◌, subst, arith}
use Rattle.std.proofs.Common.{inl, inr}
use Rattle.std.specs.Prelude.{◌==◌, is_some, slice_get, option_map}
use Rattle.std.proofs.lemmas.Bool.{cases_eq}
use Rattle.std.proofs.lemmas.Bool.Decides.{nat_tests}
use Rattle.mf_base.specs.declared.fault.Fault.{Fault}
use Rattle.mf_catalog.specs.declared.charge.ChargeDef.{ChargeDef}
use Rattle.mf_catalog.specs.declared.product.Product.{Product}
use Rattle.mf_catalog.specs.Product.{lending}
use Rattle.mf_office.specs.declared.account.Account.{Account}
use Rattle.mf_office.specs.declared.caller.Caller.{Caller}
use Rattle.mf_account.specs.declared.entry.Entry.{Entry}
use Rattle.mf_account.specs.declared.entry.Kind.{Kind}
use Rattle.mf_account.specs.Loan.{DisbursedLoan}
use Rattle.mf_account.specs.Refusals.{reversal_refused}
use Rattle.mf_account.specs.Standing.{with_mark}
use Rattle.mf_model.specs.declared.loan.Stage.{Stage}
use Rattle.mf_model.specs.declared.reply.LoanReply.TheVariants.{Status}
use Rattle.mf_model.specs.declared.reply.Reply.{Reply}
use Rattle.mf_model.specs.declared.request.Application.{Application}
use Rattle.mf_model.specs.Calls.{Call}
use Rattle.mf_model.specs.declared.request.LoanRequest.{LoanRequest}
use Rattle.mf_model.specs.declared.request.LoanRequest.TheVariants.{Show, ShowInstalments, ShowEntries, Take, Repay}
use Rattle.mf_model.specs.declared.request.LoanRequest.TheVariants.{ChargeFee, Post, Reverse}
use Rattle.mf_model.specs.declared.request.OfficeRequest.{OfficeRequest}
use Rattle.mf_model.specs.declared.request.OfficeRequest.TheVariants.{AddStaff, AddClient, ShowClient, SubmitLoan}
use Rattle.mf_model.specs.declared.request.OfficeRequest.TheVariants.{ListLoans}
use Rattle.mf_model.specs.declared.request.Posting.{Posting}
use Rattle.mf_model.specs.declared.request.Posting.TheVariants.{Penalty, Waiver, WriteOff, Refund}
use Rattle.mf_model.specs.declared.request.Request.{Request}
use Rattle.mf_model.specs.declared.request.Request.TheVariants as request
use Rattle.mf_model.specs.Accounts.{account_in}
use Rattle.mf_model.specs.Catalogue.{on_catalogue}
use Rattle.mf_model.specs.Desk.{plan, loan_need, need, meets, on_office, of_office, in_office, staff_at, change_in}
use Rattle.mf_model.specs.Desk.{sender_effect, outcome}
use Rattle.mf_model.specs.Institution.{Institution, Catalogue, Office, Rows, Ledger, office_at, item_numbered}
use Rattle.mf_model.specs.Institution.{with_rows, with_office, new_office, Change}
use Rattle.mf_model.specs.Institution.{Rows_become, Office_added, after, after_line, charge_in, product_in}
use Rattle.mf_model.specs.Loans.{LedgerChange, on_loan, loan_changed, loan_added, new_loan, lend, with_stage}
use Rattle.mf_model.specs.Loans.{with_new_entry, with_reversal, none_first, fee_first, enter, repayment, fee, posting}
use Rattle.mf_model.specs.Offices.{staff_added, client_added}
use Rattle.mf_model.specs.Outcomes.{next_of, with_value, with_found, where_found, unless_refused}
use Rattle.mf_model.specs.Receipts.{uses_from, used_before}
use Rattle.mf_model.specs.Run.{Line, change_of_line, next, noted_of, last}
use Rattle.mf_model.specs.Stages.{next_stage, stage_number}
use Rattle.mf_model.specs.Store.{rows_of, ledger_at}
use Rattle.mf_model.specs.Tree.{IsTree, Fits, is_there}
use Rattle.mf_model.proofs.Confined.{others_stay, old_stay}
use Rattle.mf_model.proofs.Runs.{IsTree_next}
use Rattle.mf_model.proofs.StaffLemmas.{rows_found}
use Rattle.mf_model.proofs.Steps.{known_line, catalogue_change}
use Rattle.mf_guarantees.specs.Entered.{AtSomeLine, kind_need, entries_held, entry_at_place, is_reversed}
use Rattle.mf_guarantees.specs.Entered.{IsAccepted, IsEntered}
use Rattle.mf_guarantees.specs.Entered.{IsTakenBack}
use Rattle.mf_guarantees.proofs.LoanSteps.{IsPermitted, permitted, ChangesLoan, loan_changes, change_told, entered_is}
use Rattle.mf_guarantees.proofs.LoanSteps.{reversed_is, some_same}
use Rattle.mf_guarantees.proofs.MoveLemmas.{numbered_same, numbered_other, repay_enters, StandsAt, may_reverse}

-- ---- what becomes of the entry at a place of a loan, by what is asked

record IsMade (asked : LoanRequest) (by : Caller) (old new : Option Entry) : Type 0 where
  entry : Entry
  need : loan_need asked ≡ kind_need entry.kind
  staff : entry.staff ≡ by
  stands : entry.reversed ≡ false
  before : old ≡ None
  now : new ≡ Some entry

record IsMarked (asked : LoanRequest) (place : ℕ) (old new : Option Entry) : Type 0 where
  entry : Entry
  asked_is : asked ≡ Reverse (place + 1)
  before : old ≡ Some entry
  now : new ≡ Some (record entry { reversed = true })

abbrev Becomes : LoanRequest → Caller → ℕ → Option Entry → Option Entry → Type 0
Becomes asked by place old new = (new ≡ old) ⊎ (IsMade asked by old new ⊎ IsMarked asked place old new)

pushed : (asked : LoanRequest) (by : Caller) (e : Entry) (es : List Entry) (place : ℕ)
    → loan_need asked ≡ kind_need e.kind → e.staff ≡ by → e.reversed ≡ false
    → (slice_get (es ++ e ∷ []) place ≡ slice_get es place)
    ⊎ IsMade asked by (slice_get es place) (slice_get (es ++ e ∷ []) place)
pushed asked by e [] zero may own stands = inr (record {
  entry = e;
  need = may;
  staff = own;
  stands = stands;
  before = refl;
  now = refl;
})
pushed asked by e [] (suc place) may own stands = inl refl
pushed asked by e (x ∷ xs) zero may own stands = inl refl
pushed asked by e (x ∷ xs) (suc place) may own stands = pushed asked by e xs place may own stands

added : (asked : LoanRequest) (by : Caller) (e : Entry) (l : Ledger) (becomes : LedgerChange) (place : ℕ)
    → loan_need asked ≡ kind_need e.kind → e.staff ≡ by → e.reversed ≡ false → with_new_entry e ≡ becomes
    → Becomes asked by place (slice_get l.entries place) (slice_get (becomes l).entries place)
added asked by e l becomes place may own stands is =
    subst (λ (b : LedgerChange). Becomes asked by place (slice_get l.entries place) (slice_get (b l).entries place)) is
    (elim (pushed asked by e l.entries place may own stands) [ inl same ↦ inl same | inr made ↦ inr (inl made) ])

marked : (es : List Entry) (i place : ℕ) → (slice_get (with_mark es i true) place ≡ slice_get es place)
    ⊎ ((e : Entry) × (place ≡ i) × (slice_get es place ≡ Some e)
    × (slice_get (with_mark es i true) place ≡ Some (record e { reversed = true })))
marked [] i place = inl refl
marked (e ∷ es) zero zero = inr (e, refl, refl, refl)
marked (e ∷ es) zero (suc place) = inl refl
marked (e ∷ es) (suc i) zero = inl refl
marked (e ∷ es) (suc i) (suc place) = elim (marked es i place) [
  | inl same ↦ inl same
  | inr is ↦ inr (is.0, ap suc is.1, is.2, is.3)
]

staged : (asked : LoanRequest) (by : Caller) (r : Result Stage Fault) (l : Ledger) (becomes : LedgerChange) (place : ℕ)
    → change_told (with_value r (λ stage. (Status (stage_number stage), Some (with_stage stage)))) ≡ Some becomes
    → Becomes asked by place (slice_get l.entries place) (slice_get (becomes l).entries place)
staged asked by (Err fault) l becomes place h = absurd (cc)
staged asked by (Ok stage) l becomes place h =
    let is : with_stage stage ≡ becomes = some_same (with_stage stage) becomes h in
    inl (ap (λ (b : LedgerChange). slice_get (b l).entries place) (sym is))

charged : (charge due : ℕ) (by : Caller) (k : Catalogue) (found : Option ChargeDef) (l : Ledger)
    (becomes : LedgerChange) (place : ℕ)
    → change_told (where_found found (λ d. enter (fee_first due) (fee d due by) k (account_in k l))) ≡ Some becomes
    → Becomes (ChargeFee charge due) by place (slice_get l.entries place) (slice_get (becomes l).entries place)
charged charge due by k None l becomes place h = absurd (cc)
charged charge due by k (Some d) l becomes place h =
    let made = entered_is (fee_first due) (fee d due by) k (account_in k l) becomes h in
    added (ChargeFee charge due) by (fee d due by k.day made.0) l becomes place refl refl refl made.2

posted : (asked : Posting) (by : Caller) (k : Catalogue) (l : Ledger) (becomes : LedgerChange) (place : ℕ)
    (a : DisbursedLoan) → with_new_entry (posting asked by k.day a) ≡ becomes
    → Becomes (Post asked) by place (slice_get l.entries place) (slice_get (becomes l).entries place)
posted (Penalty instalment) by k l becomes place a is =
    added (Post (Penalty instalment)) by (posting (Penalty instalment) by k.day a) l becomes place refl refl refl is
posted (Waiver instalment portion) by k l becomes place a is =
    added (Post (Waiver instalment portion)) by (posting (Waiver instalment portion) by k.day a) l becomes place refl
    refl refl is
posted WriteOff by k l becomes place a is =
    added (Post WriteOff) by (posting WriteOff by k.day a) l becomes place refl refl refl is
posted Refund by k l becomes place a is =
    added (Post Refund) by (posting Refund by k.day a) l becomes place refl refl refl is

taken_back : (seq : ℕ) (by : Caller) (k : Catalogue) (l : Ledger) (becomes : LedgerChange) (place : ℕ)
    (a : DisbursedLoan) → account_in k l ≡ Some a → reversal_refused a.entries seq ≡ None
    → with_reversal seq ≡ becomes
    → Becomes (Reverse seq) by place (slice_get l.entries place) (slice_get (becomes l).entries place)
taken_back seq by k l becomes place a there none is =
    let at : StandsAt a.entries seq = may_reverse a.entries seq none in
    subst (λ (b : LedgerChange). Becomes (Reverse seq) by place (slice_get l.entries place)
    (slice_get (b l).entries place)) is
    (elim (marked l.entries (seq - 1) place) [
      | inl same ↦ inl same
      | inr m ↦
          let number : seq ≡ place + 1 = let low = at.first in omega (arith, low, m.1) in
          inr (inr (record { entry = m.0; asked_is = ap Reverse number; before = m.2; now = m.3 }))
    ])

becomes_by : (asked : LoanRequest) (by : Caller) (k : Catalogue) (rows : Rows) (n : ℕ) (l : Ledger)
    (becomes : LedgerChange) (place : ℕ) → change_told (on_loan asked by k rows n l) ≡ Some becomes
    → Becomes asked by place (slice_get l.entries place) (slice_get (becomes l).entries place)
becomes_by Show by k rows n l becomes place h = absurd (cc)
becomes_by ShowInstalments by k rows n l becomes place h = absurd (cc)
becomes_by ShowEntries by k rows n l becomes place h = absurd (cc)
becomes_by (Take step) by k rows n l becomes place h =
    staged (Take step) by (next_stage step k.day l.loan.stage) l becomes place h
becomes_by (Repay asked) by k rows n l becomes place h =
    let made = repay_enters asked by k n l (used_before asked.receipt (uses_from 1 rows.loans)) becomes h in
    added (Repay asked) by (repayment asked by made.0) l becomes place refl refl refl made.2
becomes_by (ChargeFee charge due) by k rows n l becomes place h =
    charged charge due by k (charge_in k charge) l becomes place h
becomes_by (Post asked) by k rows n l becomes place h =
    let made = entered_is none_first (posting asked by) k (account_in k l) becomes h in
    posted asked by k l becomes place made.0 made.2
becomes_by (Reverse seq) by k rows n l becomes place h =
    let made = reversed_is seq (account_in k l) becomes h in
    taken_back seq by k l becomes place made.0 made.1 made.2 made.3

-- ---- requests on offices leave the entries of all loans

abbrev AreSameEntries : Rows → Rows → Type 0
AreSameEntries old new = (n : ℕ) → entries_held (item_numbered new.loans n)
    ≡ entries_held (item_numbered old.loans n)

abbrev AreSameBy : Rows → Result (Reply × Option Rows) Fault → Type 0
AreSameBy rows (Err fault) = Unit {0}
AreSameBy rows (Ok (told, None)) = Unit {0}
AreSameBy rows (Ok (told, Some new)) = AreSameEntries rows new

counted : (rows : Rows) (r : Result ℕ Fault) (told : ℕ → Reply) (new : Rows) → AreSameEntries rows new
    → AreSameBy rows (with_value r (λ n. (told n, Some new)))
counted rows (Err fault) told new same = tt
counted rows (Ok n) told new same = same

shown : (rows : Rows) (found : Option (List ℕ)) (told : List ℕ → Reply)
    → AreSameBy rows (with_found found (λ name. (told name, None)))
shown rows None told = tt
shown rows (Some name) told = tt

refused : (rows : Rows) (r : Result (Unit {0}) Fault) (next : Result (Reply × Option Rows) Fault) → AreSameBy rows next
    → AreSameBy rows (unless_refused r next)
refused rows (Err fault) next same = tt
refused rows (Ok u) next same = same

slice_new : (ls : List Ledger) (new : Ledger) (k : ℕ) → new.entries ≡ []
    → entries_held (slice_get (ls ++ new ∷ []) k) ≡ entries_held (slice_get ls k)
slice_new [] new zero none = none
slice_new [] new (suc k) none = refl
slice_new (l ∷ ls) new zero none = refl
slice_new (l ∷ ls) new (suc k) none = slice_new ls new k none

numbered_new : (ls : List Ledger) (new : Ledger) (n : ℕ) → new.entries ≡ []
    → entries_held (item_numbered (ls ++ new ∷ []) n) ≡ entries_held (item_numbered ls n)
numbered_new ls new n none = go (n == 0)
  where
    go : (b : Bool) → entries_held (cond b None (slice_get (ls ++ new ∷ []) (n - 1)))
        ≡ entries_held (cond b None (slice_get ls (n - 1)))
    go true = refl
    go false = slice_new ls new (n - 1) none

lent : (office : ℕ) (asked : Application) (rows : Rows) (found : Option Product)
    → AreSameBy rows (lend office asked found rows)
lent office asked rows None = tt
lent office asked rows (Some p) = refused rows (lending p asked.principal asked.periods) _
    (counted rows (next_of (length rows.loans) 999999) _ (loan_added (new_loan asked) rows)
    (λ n. numbered_new rows.loans (record { loan = new_loan asked; entries = [] }) n refl))

submitted : (office : ℕ) (asked : Application) (k : Catalogue) (rows : Rows) (client : Option (List ℕ))
    → AreSameBy rows (where_found client (λ name. lend office asked (product_in k asked.product) rows))
submitted office asked k rows None = tt
submitted office asked k rows (Some name) = lent office asked rows (product_in k asked.product)

same_by_office : (asked : OfficeRequest) (office : ℕ) (k : Catalogue) (rows : Rows)
    → AreSameBy rows (on_office asked office k rows)
same_by_office (AddStaff name role) office k rows =
    counted rows (next_of (length rows.staff) 9999) _ (staff_added name role rows) (λ n. refl)
same_by_office (AddClient name) office k rows =
    counted rows (next_of (length rows.clients) 999999) _ (client_added name rows) (λ n. refl)
same_by_office (ShowClient client) office k rows = shown rows (item_numbered rows.clients client) _
same_by_office (SubmitLoan asked) office k rows =
    submitted office asked k rows (item_numbered rows.clients asked.client)
same_by_office (ListLoans above) office k rows = tt

-- ---- the entries of a loan in an institution after a change

abbrev in_office_at : Option Office → ℕ → List Entry
in_office_at o n = entries_held (item_numbered (rows_of o).loans n)

rows_same : (i : Institution) (x : ℕ) (new : Rows) (f : Office) (loan : Account) → office_at x i.offices ≡ Some f
    → AreSameEntries f.rows new
    → entries_held (ledger_at loan (after (Rows_become x new) i)) ≡ entries_held (ledger_at loan i)
rows_same i x new f loan there same =
    let n : ℕ = loan.number in
    elim (cases_eq loan.office x) [
      | inl own ↦
          ap (λ y. in_office_at (office_at y (with_rows x new i.offices)) n) own
          ∙ ap (λ (o : Option Office). in_office_at o n) (rows_found x new i.offices
          ∙ ap (option_map (λ (g : Office). record g { rows = new })) there)
          ∙ same n
          ∙ sym (ap (λ y. in_office_at (office_at y i.offices) n) own
          ∙ ap (λ (o : Option Office). in_office_at o n) there)
      | inr other ↦ ap (λ (o : Option Office). in_office_at o n) (others_stay x loan.office new i.offices other)
    ]

told_same : (i : Institution) (change : Change) (x : ℕ) (f : Office) (loan : Account)
    (r : Result (Reply × Option Rows) Fault) → office_at x i.offices ≡ Some f → AreSameBy f.rows r
    → change_in (of_office x r) ≡ Some change
    → entries_held (ledger_at loan (after change i)) ≡ entries_held (ledger_at loan i)
told_same i change x f loan (Err fault) there same h = absurd (cc)
told_same i change x f loan (Ok (told, None)) there same h = absurd (cc)
told_same i change x f loan (Ok (told, Some new)) there same h =
    let is : Rows_become x new ≡ change = cc in
    ap (λ (c : Change). entries_held (ledger_at loan (after c i))) (sym is) ∙ rows_same i x new f loan there same

pub office_same : (i : Institution) (change : Change) (x : ℕ) (asked : OfficeRequest) (loan : Account)
    (o : Option Office) → office_at x i.offices ≡ o
    → change_in (in_office x (λ k f. on_office asked x k f.rows) i.catalogue o) ≡ Some change
    → entries_held (ledger_at loan (after change i)) ≡ entries_held (ledger_at loan i)
office_same i change x asked loan None there h = absurd (cc)
office_same i change x asked loan (Some f) there h =
    told_same i change x f loan (on_office asked x i.catalogue f.rows) there
    (same_by_office asked x i.catalogue f.rows) h

new_there : (new : Office) (fs : List Office) → is_there fs new.number ≡ false
    → office_at new.number (with_office new fs) ≡ Some new
new_there new [] free = grind (arith, nat_tests)
new_there new (f ∷ fs) free = grind (arith, nat_tests, new_there new fs)

pub none_there : (o : Option Office) → is_some o ≡ false → o ≡ None
none_there None h = refl
none_there (Some f) h = absurd (cc)

pub new_office_same : (i : Institution) (number parent : ℕ) (name : List ℕ) (loan : Account)
    → Fits (Office_added number parent name) i.offices
    → entries_held (ledger_at loan (after (Office_added number parent name) i)) ≡ entries_held (ledger_at loan i)
new_office_same i number parent name loan fit =
    let new : Office = new_office number parent name in
    let n : ℕ = loan.number in
    elim (cases_eq loan.office number) [
      | inl own ↦
          ap (λ y. in_office_at (office_at y (with_office new i.offices)) n) own
          ∙ ap (λ (o : Option Office). in_office_at o n) (new_there new i.offices fit.free)
          ∙ sym (ap (λ y. in_office_at (office_at y i.offices) n) own
          ∙ ap (λ (o : Option Office). in_office_at o n) (none_there (office_at number i.offices) fit.free))
      | inr other ↦ ap (λ (o : Option Office). in_office_at o n) (old_stay new loan.office i.offices other)
    ]

-- a request on a loan leaves all other loans
pub record LedgersAfter (loan : Account) (l m : Ledger) (i j : Institution) : Type 0 where
  pub before : ledger_at loan i ≡ Some l
  pub now : ledger_at loan j ≡ Some m
  pub others : (other : Account) → other ≢ loan → ledger_at other j ≡ ledger_at other i

pub ledgers_after : (loan : Account) (i : Institution) (f : Office) (l : Ledger) (becomes : LedgerChange)
    → office_at loan.office i.offices ≡ Some f → item_numbered f.rows.loans loan.number ≡ Some l
    → LedgersAfter loan l (becomes l) i (after (Rows_become loan.office (loan_changed loan.number becomes f.rows)) i)
ledgers_after loan i f l becomes there found =
    let new : Rows = loan_changed loan.number becomes f.rows in
    let x : ℕ = loan.office in
    let n : ℕ = loan.number in
    let fs : List Office = i.offices in
    let here : office_at x (with_rows x new fs) ≡ Some (record f { rows = new }) =
    rows_found x new fs ∙ ap (option_map (λ (g : Office). record g { rows = new })) there in
    record {
      before = ap (λ (o : Option Office). item_numbered (rows_of o).loans n) there ∙ found;
      now = ap (λ (o : Option Office). item_numbered (rows_of o).loans n) here
          ∙ numbered_same becomes n f.rows.loans l found;
      others = λ other apart. elim (cases_eq other.office x) [
        | inl same ↦
            let number : other.number ≢ n = λ e. apart (λ t. record { office = same t; number = e t }) in
            ap (λ y. item_numbered (rows_of (office_at y (with_rows x new fs))).loans other.number) same
            ∙ ap (λ (o : Option Office). item_numbered (rows_of o).loans other.number) here
            ∙ numbered_other becomes n other.number f.rows.loans number
            ∙ sym (ap (λ y. item_numbered (rows_of (office_at y fs)).loans other.number) same
            ∙ ap (λ (o : Option Office). item_numbered (rows_of o).loans other.number) there)
        | inr elsewhere ↦
            ap (λ (o : Option Office). item_numbered (rows_of o).loans other.number)
            (others_stay x other.office new fs elsewhere)
      ];
    }

pub same_account : (a b : Account) → (a ≡ b) ⊎ (a ≢ b)
same_account a b = elim (cases_eq a.office b.office) [
  | inl office ↦ elim (cases_eq a.number b.number) [
    | inl number ↦ inl (λ t. record { office = office t; number = number t })
    | inr apart ↦ inr (λ e. apart (ap (λ (x : Account). x.number) e))
  ]
  | inr apart ↦ inr (λ e. apart (ap (λ (x : Account). x.office) e))
]

-- ---- one accepted request

-- the entry at a place of a loan is as it was, or is made or taken back by a request on this loan
record IsAsked (call : Call) (loan : Account) (place : ℕ) (old new : Option Entry) : Type 0 where
  asked : LoanRequest
  by : Caller
  request_is : call.request ≡ request.Loan loan asked
  caller_is : call.caller ≡ Some by
  becomes : IsMade asked by old new ⊎ IsMarked asked place old new

abbrev StepAt : Call → Account → ℕ → Institution → Institution → Type 0
StepAt call loan place i j = (entry_at_place loan place j ≡ entry_at_place loan place i)
    ⊎ IsAsked call loan place (entry_at_place loan place i) (entry_at_place loan place j)

asked_of_loan : (call : Call) (own loan : Account) (asked : LoanRequest) (place : ℕ) (i : Institution)
    (change : Change) → call.request ≡ request.Loan own asked → ChangesLoan own asked call.caller i change
    → StepAt call loan place i (after change i)
asked_of_loan call own loan asked place i change is s =
    let j : Institution = after (Rows_become own.office (loan_changed own.number s.becomes s.office.rows)) i in
    let ledgers : LedgersAfter own s.ledger (s.becomes s.ledger) i j =
    ledgers_after own i s.office s.ledger s.becomes s.office_is s.ledger_is in
    let old : slice_get s.ledger.entries place ≡ entry_at_place own place i =
    ap (λ (o : Option Ledger). slice_get (entries_held o) place) (sym ledgers.before) in
    let new : slice_get (s.becomes s.ledger).entries place ≡ entry_at_place own place j =
    ap (λ (o : Option Ledger). slice_get (entries_held o) place) (sym ledgers.now) in
    let by = becomes_by asked s.caller i.catalogue s.office.rows own.number s.ledger s.becomes place s.becomes_is in
    let told : Becomes asked s.caller place (entry_at_place own place i) (entry_at_place own place j) =
    subst (λ (o : Option Entry). Becomes asked s.caller place o (entry_at_place own place j)) old
    (subst (λ (o : Option Entry). Becomes asked s.caller place (slice_get s.ledger.entries place) o) new by) in
    let here : StepAt call own place i j = elim told [
      | inl kept ↦ inl kept
      | inr one ↦ inr (record {
        asked = asked;
        by = s.caller;
        request_is = is;
        caller_is = s.caller_is;
        becomes = one;
      })
    ] in
    subst (λ (c : Change). StepAt call loan place i (after c i)) s.change_is
    (elim (same_account loan own) [
      | inl same ↦ subst (λ (a : Account). StepAt call a place i j) (sym same) here
      | inr apart ↦ inl (ap (λ (o : Option Ledger). slice_get (entries_held o) place) (ledgers.others loan apart))
    ])

asked_of : (call : Call) (c : Caller) (r : Request) (loan : Account) (place : ℕ) (i : Institution) (change : Change)
    → call.request ≡ r → change_in (outcome call i) ≡ Some change → sender_effect (Some c) (plan r) i ≡ Some change
    → Fits change i.offices → StepAt call loan place i (after change i)
asked_of call c (request.Unreadable flaw) loan place i change is h e fit = absurd (cc)
asked_of call c (request.Catalogue asked) loan place i change is h e fit =
    let k = catalogue_change (on_catalogue asked i.catalogue) change e in
    inl (ap (λ (x : Change). entry_at_place loan place (after x i)) k.1)
asked_of call c (request.Office x asked) loan place i change is h e fit =
    inl (ap (λ (es : List Entry). slice_get es place)
    (office_same i change x asked loan (office_at x i.offices) refl e))
asked_of call c (request.Loan own asked) loan place i change is h e fit =
    asked_of_loan call own loan asked place i change is (loan_changes call i change own asked is h)
asked_of call c request.SeenOffices loan place i change is h e fit = absurd (cc)
asked_of call c request.SeenArrears loan place i change is h e fit = absurd (cc)
asked_of call c (request.NewOffice number parent name) loan place i change is h e fit =
    let added : Office_added number parent name ≡ change = cc in
    inl (ap (λ (es : List Entry). slice_get es place)
    (ap (λ (x : Change). entries_held (ledger_at loan (after x i))) (sym added)
    ∙ new_office_same i number parent name loan (subst (λ (x : Change). Fits x i.offices) (sym added) fit)))

-- ---- one line

record MadeAt (loan : Account) (place : ℕ) (l : Line) (i : Institution) : Type 0 where
  entry : Entry
  entered : IsEntered loan entry.kind entry.staff l i
  stands : entry.reversed ≡ false
  before : entry_at_place loan place i ≡ None
  now : entry_at_place loan place (next l i) ≡ Some entry

record MarkedAt (loan : Account) (place : ℕ) (l : Line) (i : Institution) : Type 0 where
  entry : Entry
  taken_back : IsTakenBack loan place l i
  before : entry_at_place loan place i ≡ Some entry
  now : entry_at_place loan place (next l i) ≡ Some (record entry { reversed = true })

abbrev LineStep : Account → ℕ → Line → Institution → Type 0
LineStep loan place l i = (entry_at_place loan place (next l i) ≡ entry_at_place loan place i)
    ⊎ (MadeAt loan place l i ⊎ MarkedAt loan place l i)

accepted_by : (loan : Account) (asked : LoanRequest) (by : Caller) (l : Line) (i : Institution) (change : Change)
    → l.call.request ≡ request.Loan loan asked → l.call.caller ≡ Some by → change_of_line l i ≡ Some change
    → IsPermitted l.call i → IsAccepted loan asked by l i
accepted_by loan asked by l i change is from accepted p =
    let same : p.caller ≡ by = some_same p.caller by (sym p.caller_is ∙ from) in
    record {
      request = is;
      accepted = ap is_some accepted;
      caller = from;
      staff = p.staff;
      staff_is = subst (λ (c : Caller). staff_at i c ≡ Some p.staff) same p.staff_is;
      allowed = subst (λ (r : Request). meets (need r) p.staff.role by.office ≡ true) is
          (subst (λ (c : Caller). meets (need l.call.request) p.staff.role c.office ≡ true) same p.allowed);
    }

line_step : (loan : Account) (place : ℕ) (l : Line) (i : Institution) → IsTree i.offices → LineStep loan place l i
line_step loan place l i t = go l.given_up (change_in (outcome l.call i)) refl refl
  where
    go : (g : Bool) (c : Option Change) → l.given_up ≡ g → change_in (outcome l.call i) ≡ c → LineStep loan place l i
    go true c e f = inl (ap (λ g. entry_at_place loan place (after_line (noted_of l.call i) (cond g None
        (change_in (outcome l.call i))) i)) e)
    go false None e f =
        inl (ap (λ g. entry_at_place loan place (after_line (noted_of l.call i) (cond g None
        (change_in (outcome l.call i))) i)) e
        ∙ ap (λ (c : Option Change). entry_at_place loan place (after_line (noted_of l.call i) c i)) f)
    go false (Some change) e f =
        let is : change_of_line l i ≡ Some change = ap (λ g. cond g None (change_in (outcome l.call i))) e ∙ f in
        let to : entry_at_place loan place (next l i) ≡ entry_at_place loan place (after change i) =
        ap (λ (c : Option Change). entry_at_place loan place (after_line (noted_of l.call i) c i)) is in
        let p : IsPermitted l.call i = permitted l.call i change f in
        let known = known_line l.call.caller l.call.request (plan l.call.request) i change t refl f in
        let effect : sender_effect (Some p.caller) (plan l.call.request) i ≡ Some change =
        ap (λ (c : Option Caller). sender_effect c (plan l.call.request) i) (sym p.caller_is) ∙ known.made_is in
        elim (asked_of l.call p.caller l.call.request loan place i change refl f effect known.fits) [
          | inl kept ↦ inl (to ∙ kept)
          | inr a ↦ elim a.becomes [
            | inl made ↦ inr (inl (record {
              entry = made.entry;
              entered = record {
                asked = a.asked;
                need = made.need;
                accepted = subst (λ (c : Caller). IsAccepted loan a.asked c l i) (sym made.staff)
                    (accepted_by loan a.asked a.by l i change a.request_is a.caller_is is p);
              };
              stands = made.stands;
              before = made.before;
              now = to ∙ made.now;
            }))
            | inr mark ↦ inr (inr (record {
              entry = mark.entry;
              taken_back = record {
                by = a.by;
                accepted = subst (λ (r : LoanRequest). IsAccepted loan r a.by l i) mark.asked_is
                    (accepted_by loan a.asked a.by l i change a.request_is a.caller_is is p);
              };
              before = mark.before;
              now = to ∙ mark.now;
            }))
          ]
        ]

-- ---- a run

record IsSameMade (a b : Entry) : Type 0 where
  kind : a.kind ≡ b.kind
  staff : a.staff ≡ b.staff

-- an entry keeps its kind and who made it
stays : (loan : Account) (place : ℕ) (lines : List Line) (i : Institution) (a b : Entry) → IsTree i.offices
    → entry_at_place loan place i ≡ Some a → entry_at_place loan place (last lines i) ≡ Some b → IsSameMade a b
stays loan place [] i a b t h k =
    let same : a ≡ b = some_same a b (sym h ∙ k) in
    record { kind = ap (λ (e : Entry). e.kind) same; staff = ap (λ (e : Entry). e.staff) same }
stays loan place (l ∷ ls) i a b t h k = elim (line_step loan place l i t) [
  | inl kept ↦ stays loan place ls (next l i) a b (IsTree_next l i t) (kept ∙ h) k
  | inr one ↦ elim one [
    | inl made ↦ let none : entry_at_place loan place i ≡ None = made.before in absurd (cc)
    | inr mark ↦
        let same : mark.entry ≡ a = some_same mark.entry a (sym mark.before ∙ h) in
        let rest = stays loan place ls (next l i) (record mark.entry { reversed = true }) b (IsTree_next l i t)
        mark.now k in
        record {
          kind = ap (λ (e : Entry). e.kind) (sym same) ∙ rest.kind;
          staff = ap (λ (e : Entry). e.staff) (sym same) ∙ rest.staff;
        }
  ]
]

pub each_entered : (loan : Account) (place : ℕ) (lines : List Line) (i : Institution) (e : Entry) → IsTree i.offices
    → entry_at_place loan place i ≡ None → entry_at_place loan place (last lines i) ≡ Some e
    → AtSomeLine (IsEntered loan e.kind e.staff) lines i
each_entered loan place [] i e t h k = absurd (cc)
each_entered loan place (l ∷ ls) i e t h k = elim (line_step loan place l i t) [
  | inl kept ↦ inr (each_entered loan place ls (next l i) e (IsTree_next l i t) (kept ∙ h) k)
  | inr one ↦ elim one [
    | inl made ↦
        let same = stays loan place ls (next l i) made.entry e (IsTree_next l i t) made.now k in
        inl (subst (λ (c : Caller). IsEntered loan e.kind c l i) same.staff
        (subst (λ (x : Kind). IsEntered loan x made.entry.staff l i) same.kind made.entered))
    | inr mark ↦ let some : entry_at_place loan place i ≡ Some mark.entry = mark.before in absurd (cc)
  ]
]

pub each_taken_back : (loan : Account) (place : ℕ) (lines : List Line) (i : Institution) → IsTree i.offices
    → is_reversed (entry_at_place loan place i) ≡ false → is_reversed (entry_at_place loan place (last lines i)) ≡ true
    → AtSomeLine (IsTakenBack loan place) lines i
each_taken_back loan place [] i t h k = absurd (cc)
each_taken_back loan place (l ∷ ls) i t h k = elim (line_step loan place l i t) [
  | inl kept ↦ inr (each_taken_back loan place ls (next l i) (IsTree_next l i t) (ap is_reversed kept ∙ h) k)
  | inr one ↦ elim one [
    | inl made ↦
        inr (each_taken_back loan place ls (next l i) (IsTree_next l i t) (ap is_reversed made.now ∙ made.stands) k)
    | inr mark ↦ inl mark.taken_back
  ]
]
