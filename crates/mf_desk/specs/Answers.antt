-- What the desk does with a request, in the words of the institution that its store stands for.
use Rattle.std.specs.Prelude.{◌≡◌, ℕ, ◌≤◌, ◌^◌, ◌⊎◌, true, false, cond, is_some, List, sum_by, option_map, Option, Some}
use Rattle.std.specs.Prelude.{None, Result, Ok, Err, IfOk, IfErr, IfSome, OnOk, OnErr}
use Rattle.mf_base.specs.declared.fault.Fault.{Fault}
use Rattle.mf_base.specs.declared.fault.Fault.TheVariants.{F2, F4, F9, F20}
use Rattle.mf_office.specs.declared.account.Account.{Account}
use Rattle.mf_office.specs.declared.caller.Caller.{Caller}
use Rattle.mf_account.specs.Change.{KeptAccount}
use Rattle.mf_model.specs.Calls.{Call}
use Rattle.mf_model.specs.declared.request.Request.{Request}
use Rattle.mf_model.specs.declared.loan.Loan.{Loan}
use Rattle.mf_model.specs.declared.reply.LoanReply.{LoanReply}
use Rattle.mf_model.specs.declared.reply.Reply.{Reply}
use Rattle.mf_desk.specs.declared.decision.Decision.{Decision}
use Rattle.mf_arrears.specs.Line.{OfficeLine}
use Rattle.mf_model.specs.Arrears.{arrears_seen}
use Rattle.mf_model.specs.Institution.{Institution, Catalogue, Rows, Ledger, after_line}
use Rattle.mf_model.specs.Loans.{on_loan, LedgerChange, in_loan}
use Rattle.mf_model.specs.Desk.{Plan, plan, Outcome, carried_out, outcome, change_in, of_catalogue, of_office, staff_at}
use Rattle.mf_model.specs.Run.{noted_of}
use Rattle.mf_model.specs.Tree.{seen_office}
use Rattle.mf_model.specs.Outcomes.{where_found}
use Rattle.mf_model.specs.declared.loan.ReceiptUse.{ReceiptUse}
use Rattle.mf_model.specs.declared.request.LoanRequest.{LoanRequest}
use Rattle.mf_model.specs.Store.{receipt_at, rows_at, client_at, loan_at, account_at, change_of, left_by, IsHanded}
use Rattle.mf_model.specs.declared.store.InstitutionStore.{Ghosts}

-- what becomes of a plan, or of what reads as no request
abbrev pub plan_outcome : Result Plan Fault → Caller → Institution → Outcome
plan_outcome (Err fault) c i = Err fault
plan_outcome (Ok p) c i = carried_out c p i

-- what becomes of a request that the caller may send
abbrev pub request_outcome : Caller → Request → Institution → Outcome
request_outcome c request i = plan_outcome (plan request) c i

-- the reply and the change of a decision
abbrev pub decision_outcome : Decision → Institution → Outcome
decision_outcome d i = Ok (d.reply, option_map (λ c. change_of c i) d.commit)

-- what becomes of the catalogue
abbrev pub in_catalogue : (Catalogue → Result (Reply × Option Catalogue) Fault) → Institution → Outcome
in_catalogue act i = of_catalogue (act i.catalogue)

-- what becomes of the rows of office x
abbrev pub in_rows : ℕ → (Catalogue → Rows → Result (Reply × Option Rows) Fault) → Institution → Outcome
in_rows x act i = of_office x (act i.catalogue (rows_at x i))

-- that o sees office x; F4 where it doesn't
abbrev pub sight : ℕ → ℕ → Institution → Result (Unit {0}) Fault
sight o x i = cond (is_some (seen_office o x i)) (Ok tt) (Err F4)

-- the number of office x, where o sees it; F4 where it doesn't
abbrev pub seen_number : ℕ → ℕ → Institution → Result ℕ Fault
seen_number o x i = cond (is_some (seen_office o x i)) (Ok x) (Err F4)

-- a thing that is there; F4 where it isn't
abbrev pub if_there : {A : Type 0} → Option A → Result A Fault
if_there None = Err F4
if_there (Some x) = Ok x

-- that a client is there; F4 where it isn't
abbrev pub client_there : Account → Institution → Result (Unit {0}) Fault
client_there client i = cond (is_some (client_at client i)) (Ok tt) (Err F4)

-- a loan, as it was submitted; F4 where it isn't there
abbrev pub loan_there : Account → Institution → Result Loan Fault
loan_there loan i = if_there (loan_at loan i)

-- an account that there is; F9 where there is none
abbrev pub if_disbursed : Option KeptAccount → Result KeptAccount Fault
if_disbursed None = Err F9
if_disbursed (Some a) = Ok a

-- the account of a loan; F4 where the loan isn't there, F9 where it isn't disbursed
abbrev pub account_there : Account → Institution → Result KeptAccount Fault
account_there loan i = where_found (loan_at loan i) (λ found. if_disbursed (account_at loan i))

-- what a request on a loan comes to, where its office is seen
abbrev pub loan_outcome : Account → LoanRequest → Caller → Institution → Outcome
loan_outcome loan asked c i = in_rows loan.office (λ k rows. in_loan loan (on_loan asked c k rows loan.number) rows) i

-- the entry that carries a receipt of office x, where one is named
abbrev pub use_named : ℕ → Option (List ℕ) → Institution → Result (Option ReceiptUse) Fault
use_named x None i = Ok None
use_named x (Some receipt) i = Ok (receipt_at x receipt i)

-- what becomes of a loan and of the rows of its office
abbrev pub in_ledger : Account → (Catalogue → Ledger → Result (LoanReply × Option LedgerChange) Fault) → Institution
    → Outcome
in_ledger loan act i = in_rows loan.office (λ k rows. in_loan loan (act k) rows) i

-- the arrears that a caller sees; F2 where there is no such member of staff
abbrev pub arrears_told : Caller → Institution → Result (List OfficeLine) Fault
arrears_told c i = cond (is_some (staff_at i c)) (Ok (arrears_seen c.office i)) (Err F2)

module _ {S : Type 0} (store : Ghosts S) where
  -- A decision reads the store and changes nothing. It is the outcome, its refusal the outcome's, and it may give up.
  -- What its commit hands on is as a store asks.
  pub record Decides (told : Institution → Outcome) (old new : S) (result : Result Decision Fault) : Type 0 where
    pub premise : store.clean new → store.clean old
    pub same : store.clean new → (i : Institution) → store.stands old i → store.stands new i
    pub decides : store.clean new → (i : Institution) → store.stands old i
        → IfOk result (λ d. told i ≡ decision_outcome d i)
    pub refuses : store.clean new → (i : Institution) → store.stands old i → IfErr result (λ fault. (fault ≡ F20)
        ⊎ (told i ≡ Err fault))
    pub handed : store.clean new → (i : Institution) → store.stands old i
        → IfOk result (λ d. IfSome d.commit (λ c. IsHanded c i))
    pub stop : store.clean new → (is : List Institution) → store.leaves old is → store.leaves new is

  -- What is worked out of a reading of the store, which changes nothing. It is what the institution gives, its refusal
  -- the institution's, and it may give up.
  pub record Asks {R : Type 0} (value : Institution → Result R Fault) (old new : S) (result : Result R Fault) : Type
      0 where
    pub premise : store.clean new → store.clean old
    pub same : store.clean new → (i : Institution) → store.stands old i → store.stands new i
    pub gives : store.clean new → (i : Institution) → store.stands old i → IfOk result (λ r. value i ≡ Ok r)
    pub refuses : store.clean new → (i : Institution) → store.stands old i → IfErr result (λ fault. (fault ≡ F20)
        ⊎ (value i ≡ Err fault))
    pub stop : store.clean new → (is : List Institution) → store.leaves old is → store.leaves new is

  -- Lines that were read have at most 10^10 loans in all, so that a report can sum them.
  abbrev pub CanBeSummed : S → S → Result (List OfficeLine) Fault → Type 0
  CanBeSummed old new result = store.clean new → (i : Institution) → store.stands old i
      → IfOk result (λ lines. sum_by (λ (line : OfficeLine). line.loans) lines ≤ 10 ^ 10)

  -- What was made of the reply that the institution tells, or its refusal, or the refusal to make something of its
  -- reply, or F20.
  pub record Tells {T : Type 0} (shows : Reply → Result T Fault → Type 0) (told : Institution → Result Reply Fault)
      (old new : S) (result : Result T Fault) : Type 0 where
    pub shown : store.clean new → (i : Institution) → store.stands old i → IfOk result (λ t. (r : Reply)
        × (told i ≡ Ok r) × shows r (Ok t))
    pub refused : store.clean new → (i : Institution) → store.stands old i → IfErr result (λ fault. (fault ≡ F20)
        ⊎ ((told i ≡ Err fault) ⊎ ((r : Reply) × (told i ≡ Ok r) × shows r (Err fault))))

  -- At Ok the call's change is made whole and noted, if it makes one; at Err nothing is changed. A stop leaves what it
  -- left before, or the change.
  pub record Changes {T : Type 0} (call : Call) (old new : S) (result : Result T Fault) : Type 0 where
    pub premise : store.clean new → store.clean old
    pub made : store.clean new → (i : Institution) → store.stands old i
        → OnOk result (store.stands new (after_line (noted_of call i) (change_in (outcome call i)) i))
    pub same : store.clean new → (i : Institution) → store.stands old i → OnErr result (store.stands new i)
    pub stop : store.clean new → (i : Institution) (is : List Institution) → store.stands old i → store.leaves old is
        → OnOk result (store.leaves new (left_by (noted_of call i) (change_in (outcome call i)) false i is))
    pub stop_refused : store.clean new → (i : Institution) (is : List Institution) → store.stands old i
        → store.leaves old is
        → OnErr result (store.leaves new (left_by (noted_of call i) (change_in (outcome call i)) true i is))
