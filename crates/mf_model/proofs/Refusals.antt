-- No reply of the definitions is F20.
use Rattle.std.proofs.Common.{◌≡◌, ℕ, ◌-◌, Bool, true, false, cond, List, length, Option, Some, None, Result, Ok, Err}
use Rattle.std.proofs.Common.{subst}
use Rattle.std.specs.Prelude.{◌&&◌, ◌==◌, not, nat_lt, nat_le, is_some}
use Rattle.mf_base.specs.declared.fault.Fault.{Fault}
use Rattle.mf_base.specs.declared.fault.Fault.TheVariants.{F3, F8, F9, F10, F11, F12, F13, F14, F18, F20}
use Rattle.mf_office.specs.declared.caller.Caller.{Caller}
use Rattle.mf_office.specs.declared.account.Account.{Account}
use Rattle.mf_office.specs.Tree.{is_within, is_at_or_below}
use Rattle.mf_catalog.specs.declared.product.Product.{Product}
use Rattle.mf_catalog.specs.declared.product.ProductMembers.{ProductMembers}
use Rattle.mf_catalog.specs.Product.{charges_there, is_consistent, allows, lending}
use Rattle.mf_account.specs.declared.entry.Entry.{Entry}
use Rattle.mf_account.specs.Loan.{DisbursedLoan, state_of_loan, status_of_loan}
use Rattle.mf_account.specs.declared.entry.Kind.TheVariants.{Fee}
use Rattle.mf_account.specs.Kinds.{is_seal}
use Rattle.mf_account.specs.Standing.{entry_at}
use Rattle.mf_account.specs.Refusals.{is_sealed, admits, is_out_of_order, is_instalment_number, is_forbidden}
use Rattle.mf_account.specs.Refusals.{is_out_of_limits, refusal_of, reversal_refused}
use Rattle.mf_model.specs.declared.loan.Stage.{Stage}
use Rattle.mf_model.specs.declared.reply.Reply.{Reply}
use Rattle.mf_model.specs.declared.reply.LoanReply.{LoanReply}
use Rattle.mf_model.specs.Calls.{Call}
use Rattle.mf_model.specs.declared.request.Flaw.TheVariants.{Malformed, NoRoute, NoMethod}
use Rattle.mf_model.specs.declared.request.Application.{Application}
use Rattle.mf_model.specs.declared.request.CatalogueRequest.{CatalogueRequest}
use Rattle.mf_model.specs.declared.request.CatalogueRequest.TheVariants.{ShowDay, SetDay, AddCharge, ShowCharge}
use Rattle.mf_model.specs.declared.request.CatalogueRequest.TheVariants.{AddProduct, ShowProduct, RetireProduct}
use Rattle.mf_model.specs.declared.request.OfficeRequest.{OfficeRequest}
use Rattle.mf_model.specs.declared.request.OfficeRequest.TheVariants.{AddStaff, AddClient, ShowClient, SubmitLoan}
use Rattle.mf_model.specs.declared.request.OfficeRequest.TheVariants.{ListLoans}
use Rattle.mf_model.specs.declared.request.Repayment.{Repayment}
use Rattle.mf_model.specs.declared.request.LoanRequest.{LoanRequest}
use Rattle.mf_model.specs.declared.request.LoanRequest.TheVariants.{Show, ShowInstalments, ShowEntries, Take, Repay}
use Rattle.mf_model.specs.declared.request.LoanRequest.TheVariants.{ChargeFee, Post, Reverse}
use Rattle.mf_model.specs.declared.request.Request.{Request}
use Rattle.mf_model.specs.declared.request.Request.TheVariants as request
use Rattle.mf_model.specs.Institution.{Institution, Catalogue, Office, Rows, Staff, Ledger, item_numbered, charge_in}
use Rattle.mf_model.specs.Institution.{product_in}
use Rattle.mf_model.specs.Tree.{parent_of, seen_office, is_there}
use Rattle.mf_model.specs.Outcomes.{next_of, with_value, with_found, where_found, unless_refused}
use Rattle.mf_model.specs.Catalogue.{on_catalogue, make_product}
use Rattle.mf_model.specs.Stages.{next_stage}
use Rattle.mf_model.specs.Accounts.{account_in}
use Rattle.mf_model.specs.Receipts.{Use, uses_from, used_before, repeated_seq}
use Rattle.mf_model.specs.Loans.{LedgerChange, repayment, fee, posting, unless_fault, fault_or, none_first, fee_first}
use Rattle.mf_model.specs.Loans.{enter, reverse, repeat_of, unless_known, on_loan, of_loan, in_loan, lend}
use Rattle.mf_model.specs.Desk.{Plan, on_office, plan, need, meets, Outcome, of_catalogue, of_office, in_office}
use Rattle.mf_model.specs.Desk.{carried_out, where_permitted, sent_by, staff_at, outcome, reply_in, reply}
use Rattle.mf_model.proofs.StepLemmas.{IsRuled, IsResultFrom, step_keeps}

-- a success, or a refusal that isn't F20
abbrev Ruled : {A : Type 0} → Result A Fault → Type 0
Ruled (Ok x) = Unit {0}
Ruled (Err fault) = IsRuled fault

one_of : {A : Type 0} (b : Bool) (x y : Result A Fault) → Ruled x → Ruled y → Ruled (cond b x y)
one_of true x y h k = h
one_of false x y h k = k

by_value : {A B : Type 0} (r : Result A Fault) (make : A → B) → Ruled r → Ruled (with_value r make)
by_value (Ok x) make h = tt
by_value (Err fault) make h = h

by_found : {A B : Type 0} (o : Option A) (make : A → B) → Ruled (with_found o make)
by_found None make = tt
by_found (Some x) make = tt

where_it_is : {A B : Type 0} (o : Option A) (act : A → Result B Fault) → ((x : A) → Ruled (act x))
    → Ruled (where_found o act)
where_it_is None act h = tt
where_it_is (Some x) act h = h x

unless : {B : Type 0} (r : Result (Unit {0}) Fault) (next : Result B Fault) → Ruled r → Ruled next
    → Ruled (unless_refused r next)
unless (Err fault) next h k = h
unless (Ok u) next h k = k

next_number : (used limit : ℕ) → Ruled (next_of used limit)
next_number used limit = one_of (nat_lt used limit) _ _ tt tt

made : (members : ProductMembers) (k : Catalogue) → Ruled (make_product members k)
made members k = by_value (next_of (length k.products) 999) _ (next_number (length k.products) 999)

catalogue_ruled : (asked : CatalogueRequest) (k : Catalogue) → Ruled (on_catalogue asked k)
catalogue_ruled ShowDay k = tt
catalogue_ruled (SetDay day) k = one_of (nat_lt k.day day) _ _ tt tt
catalogue_ruled (AddCharge name kind calc value) k =
    by_value (next_of (length k.charges) 999) _ (next_number (length k.charges) 999)
catalogue_ruled (ShowCharge charge) k = by_found (charge_in k charge) _
catalogue_ruled (AddProduct members) k =
    one_of (charges_there (charge_in k) members) _ _ (one_of (is_consistent (charge_in k) members) _ _ (made members k)
    tt) tt
catalogue_ruled (ShowProduct product) k = by_found (product_in k product) _
catalogue_ruled (RetireProduct product) k = where_it_is (product_in k product) _ (λ p. one_of p.retired _ _ tt tt)

lending_ruled : (p : Product) (principal n : ℕ) → Ruled (lending p principal n)
lending_ruled p principal n = one_of p.retired _ _ tt (one_of (allows p.members principal n) _ _ tt tt)

lend_ruled : (office : ℕ) (asked : Application) (product : Option Product) (rows : Rows)
    → Ruled (lend office asked product rows)
lend_ruled office asked product rows =
    where_it_is product _ (λ p. unless (lending p asked.principal asked.periods) _ (lending_ruled p asked.principal
    asked.periods)
    (by_value (next_of (length rows.loans) 999999) _ (next_number (length rows.loans) 999999)))

office_ruled : (asked : OfficeRequest) (x : ℕ) (k : Catalogue) (rows : Rows) → Ruled (on_office asked x k rows)
office_ruled (AddStaff name role) x k rows =
    by_value (next_of (length rows.staff) 9999) _ (next_number (length rows.staff) 9999)
office_ruled (AddClient name) x k rows =
    by_value (next_of (length rows.clients) 999999) _ (next_number (length rows.clients) 999999)
office_ruled (ShowClient client) x k rows = by_found (item_numbered rows.clients client) _
office_ruled (SubmitLoan asked) x k rows = where_it_is (item_numbered rows.clients asked.client) _ (λ name.
    lend_ruled x asked (product_in k asked.product) rows)
office_ruled (ListLoans after) x k rows = tt

step_ruled : (today : ℕ) (from : Stage) (r : Result Stage Fault) → IsResultFrom today from r → Ruled r
step_ruled today from (Ok to) h = tt
step_ruled today from (Err fault) h = h

-- a refusal, if there is one, that isn't F20
abbrev IsRuledRefusal : Option Fault → Type 0
IsRuledRefusal None = Unit {0}
IsRuledRefusal (Some fault) = IsRuled fault

refused_or : (b : Bool) (fault : Fault) (rest : Option Fault) → IsRuled fault → IsRuledRefusal rest
    → IsRuledRefusal (cond b (Some fault) rest)
refused_or true fault rest h k = h
refused_or false fault rest h k = k

refusal_ruled : (a : DisbursedLoan) (e : Entry) (today : ℕ) → IsRuledRefusal (refusal_of a e today)
refusal_ruled a e today =
    refused_or (is_sealed a.entries) F11 _ tt
    (refused_or (not (admits e.kind (status_of_loan a))) F9 _ tt
    (refused_or (is_out_of_order e.kind a.day today e.day) F10 _ tt
    (refused_or (is_forbidden e.kind (is_some a.terms.overdue) (state_of_loan a).rows a.entries e today) F14 _ tt
    (refused_or (is_out_of_limits e.kind e.amount) F8 _ tt
    (refused_or (nat_le 9999 (length a.entries)) F18 None tt tt)))))

fee_ruled : (due : ℕ) (a : DisbursedLoan) → IsRuledRefusal (fee_first due a)
fee_ruled due a = refused_or (is_sealed a.entries) F11 _ tt (refused_or (not (admits Fee (status_of_loan a))) F9 _ tt
    (refused_or (nat_lt due a.day) F10 None tt tt))

reversal_ruled : (es : List Entry) (seq : ℕ) → IsRuledRefusal (reversal_refused es seq)
reversal_ruled es seq =
    refused_or (not (is_instalment_number (length es) seq)) F12 _ tt
    (refused_or (entry_at es (seq - 1)).reversed F13 _ tt
    (refused_or (is_sealed es && not (is_seal (entry_at es (seq - 1)).kind)) F11 None tt tt))

unless_ruled : (refusal : Option Fault) (told : LoanReply) (change : LedgerChange) → IsRuledRefusal refusal
    → Ruled (unless_fault refusal told change)
unless_ruled None told change h = tt
unless_ruled (Some fault) told change h = h

first_ruled : (first next : Option Fault) → IsRuledRefusal first → IsRuledRefusal next
    → IsRuledRefusal (fault_or first next)
first_ruled None next h k = k
first_ruled (Some fault) next h k = h

enter_ruled : (first : DisbursedLoan → Option Fault) (make : ℕ → DisbursedLoan → Entry) (k : Catalogue)
    (o : Option DisbursedLoan)
    → ((a : DisbursedLoan) → IsRuledRefusal (first a)) → Ruled (enter first make k o)
enter_ruled first make k None h = tt
enter_ruled first make k (Some a) h = unless_ruled (fault_or (first a) (refusal_of a (make k.day a) k.day)) _ _
    (first_ruled (first a) _ (h a) (refusal_ruled a (make k.day a) k.day))

reverse_ruled : (seq : ℕ) (o : Option DisbursedLoan) → Ruled (reverse seq o)
reverse_ruled seq None = tt
reverse_ruled seq (Some a) = unless_ruled (reversal_refused a.entries seq) _ _ (reversal_ruled a.entries seq)

repeat_ruled : (r : Result ℕ Fault) → Ruled r → Ruled (repeat_of r)
repeat_ruled (Err fault) h = h
repeat_ruled (Ok seq) h = tt

known_ruled : (n : ℕ) (asked : Repayment) (o : Option Use) (next : Result (LoanReply × Option LedgerChange) Fault)
    → Ruled next → Ruled (unless_known n asked o next)
known_ruled n asked None next h = h
known_ruled n asked (Some u) next h =
    repeat_ruled (repeated_seq n asked.amount asked.day u.by)
    (one_of ((u.by.loan == n) && ((u.by.amount == asked.amount) && (u.by.day == asked.day))) _ _ tt tt)

loan_ruled : (asked : LoanRequest) (c : Caller) (k : Catalogue) (rows : Rows) (n : ℕ) (l : Ledger)
    → Ruled (on_loan asked c k rows n l)
loan_ruled Show c k rows n l = tt
loan_ruled ShowInstalments c k rows n l = tt
loan_ruled ShowEntries c k rows n l = tt
loan_ruled (Take step) c k rows n l = by_value (next_stage step k.day l.loan.stage) _ (step_ruled k.day l.loan.stage
    (next_stage step k.day l.loan.stage) (step_keeps step k.day l.loan.stage))
loan_ruled (Repay asked) c k rows n l = known_ruled n asked (used_before asked.receipt (uses_from 1 rows.loans)) _
    (enter_ruled none_first (λ today. repayment asked c) k (account_in k l) (λ a. tt))
loan_ruled (ChargeFee charge due) c k rows n l = where_it_is (charge_in k charge) _ (λ d. enter_ruled (fee_first due)
    (fee d due c) k (account_in k l) (fee_ruled due))
loan_ruled (Post asked) c k rows n l = enter_ruled none_first (posting asked c) k (account_in k l) (λ a. tt)
loan_ruled (Reverse seq) c k rows n l = reverse_ruled seq (account_in k l)

told_ruled : (account : Account) (rows : Rows) (r : Result (LoanReply × Option LedgerChange) Fault) → Ruled r
    → Ruled (of_loan account rows r)
told_ruled account rows (Err fault) h = h
told_ruled account rows (Ok (told, None)) h = tt
told_ruled account rows (Ok (told, Some change)) h = tt

in_loan_ruled : (account : Account) (asked : LoanRequest) (c : Caller) (k : Catalogue) (rows : Rows)
    → Ruled (in_loan account (on_loan asked c k rows account.number) rows)
in_loan_ruled account asked c k rows = where_it_is (item_numbered rows.loans account.number) _ (λ l. told_ruled account
    rows (on_loan asked c k rows account.number l) (loan_ruled asked c k rows account.number l))

catalogue_outcome : (r : Result (Reply × Option Catalogue) Fault) → Ruled r → Ruled (of_catalogue r)
catalogue_outcome (Err fault) h = h
catalogue_outcome (Ok (told, None)) h = tt
catalogue_outcome (Ok (told, Some k)) h = tt

office_outcome : (x : ℕ) (r : Result (Reply × Option Rows) Fault) → Ruled r → Ruled (of_office x r)
office_outcome x (Err fault) h = h
office_outcome x (Ok (told, None)) h = tt
office_outcome x (Ok (told, Some rows)) h = tt

in_office_ruled : (x : ℕ) (act : Catalogue → Office → Result (Reply × Option Rows) Fault) (k : Catalogue)
    (office : Option Office) → ((f : Office) → Ruled (act k f)) → Ruled (in_office x act k office)
in_office_ruled x act k None h = tt
in_office_ruled x act k (Some f) h = office_outcome x (act k f) (h f)

-- what a plan comes to isn't F20
abbrev IsRuledPlan : Plan → Type 0
IsRuledPlan p = (c : Caller) (i : Institution) → Ruled (carried_out c p i)

abbrev AreRuledPlans : Result Plan Fault → Type 0
AreRuledPlans (Err fault) = IsRuled fault
AreRuledPlans (Ok p) = IsRuledPlan p

plan_ruled : (asked : Request) → AreRuledPlans (plan asked)
plan_ruled (request.Unreadable Malformed) = tt
plan_ruled (request.Unreadable NoRoute) = tt
plan_ruled (request.Unreadable NoMethod) = tt
plan_ruled (request.Catalogue asked) =
    λ c i. catalogue_outcome (on_catalogue asked i.catalogue) (catalogue_ruled asked i.catalogue)
plan_ruled (request.Office office asked) = λ c i. in_office_ruled office (λ k f. on_office asked office k f.rows)
    i.catalogue (seen_office c.office office i) (λ f. office_ruled asked office i.catalogue f.rows)
plan_ruled (request.Loan loan asked) = λ c i. in_office_ruled loan.office
    (λ k f. in_loan loan (on_loan asked c k f.rows loan.number) f.rows) i.catalogue (seen_office c.office loan.office i)
    (λ f. in_loan_ruled loan asked c i.catalogue f.rows)
plan_ruled request.SeenOffices = λ c i. tt
plan_ruled request.SeenArrears = λ c i. tt
plan_ruled (request.NewOffice number parent name) = λ c i.
    one_of (not (is_there i.offices parent && is_at_or_below (parent_of i.offices) parent c.office)) _ _ tt
    (one_of (is_there i.offices number) _ _ tt (one_of (is_within 4 (parent_of i.offices) parent 1) _ _ tt tt))

permitted_ruled : (c : Caller) (asked : Request) (p : Plan) (staff : Option Staff) (i : Institution) → IsRuledPlan p
    → Ruled (where_permitted c asked p staff i)
permitted_ruled c asked p None i h = tt
permitted_ruled c asked p (Some s) i h = one_of (meets (need asked) s.role c.office) (carried_out c p i) (Err F3)
    (h c i) tt

sent_ruled : (caller : Option Caller) (asked : Request) (p : Result Plan Fault) (i : Institution) → AreRuledPlans p
    → Ruled (sent_by caller asked p i)
sent_ruled caller asked (Err fault) i h = h
sent_ruled None asked (Ok p) i h = tt
sent_ruled (Some c) asked (Ok p) i h = permitted_ruled c asked p (staff_at i c) i h

reply_ruled : (o : Outcome) → Ruled o → Ruled (reply_in o)
reply_ruled (Err fault) h = h
reply_ruled (Ok told) h = tt

pub no_reply_is_given_up : (call : Call) (i : Institution) → reply call i ≡ Err F20 → ⊥
no_reply_is_given_up call i e = subst Ruled e (reply_ruled (outcome call i)
    (sent_ruled call.caller call.request (plan call.request) i (plan_ruled call.request)))
