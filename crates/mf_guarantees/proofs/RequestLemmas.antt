-- What is asked of an institution takes nothing away.
use Rattle.std.proofs.Common.{◌≡◌, ℕ, Bool, true, false, cond, List, [], ◌∷◌, length, Option, Some, None}
use Rattle.std.proofs.Common.{Result, Ok, Err, refl, sym, ap, ◌∙◌, subst, arith, inl, inr}
use Rattle.std.specs.Prelude.{is_some, nat_lt, option_map}
use Rattle.std.proofs.lemmas.Bool.{cases_eq, ltb-true}
use Rattle.mf_base.specs.declared.fault.Fault.{Fault}
use Rattle.mf_base.specs.declared.fault.Fault.TheVariants.{F4, F7, F8, F17}
use Rattle.mf_catalog.specs.Product.{charges_there, is_consistent, lending}
use Rattle.mf_catalog.specs.declared.product.Product.{Product}
use Rattle.mf_catalog.specs.declared.product.ProductMembers.{ProductMembers}
use Rattle.mf_office.specs.declared.account.Account.{Account}
use Rattle.mf_office.specs.declared.caller.Caller.{Caller}
use Rattle.mf_account.specs.declared.entry.Entry.{Entry}
use Rattle.mf_account.specs.Loan.{DisbursedLoan}
use Rattle.mf_account.specs.Refusals.{refusal_of, reversal_refused}
use Rattle.mf_catalog.specs.declared.charge.ChargeDef.{ChargeDef}
use Rattle.mf_model.specs.declared.loan.Stage.{Stage}
use Rattle.mf_model.specs.declared.request.Application.{Application}
use Rattle.mf_model.specs.declared.request.CatalogueRequest.{CatalogueRequest}
use Rattle.mf_model.specs.declared.request.CatalogueRequest.TheVariants as asked
use Rattle.mf_model.specs.declared.request.LoanRequest.{LoanRequest}
use Rattle.mf_model.specs.declared.request.LoanRequest.TheVariants.{Show, ShowInstalments, ShowEntries, Take, Repay}
use Rattle.mf_model.specs.declared.request.LoanRequest.TheVariants.{ChargeFee, Post, Reverse}
use Rattle.mf_model.specs.declared.request.OfficeRequest.{OfficeRequest}
use Rattle.mf_model.specs.declared.request.OfficeRequest.TheVariants.{AddStaff, AddClient, ShowClient, SubmitLoan}
use Rattle.mf_model.specs.declared.request.OfficeRequest.TheVariants.{ListLoans}
use Rattle.mf_model.specs.declared.request.Repayment.{Repayment}
use Rattle.mf_model.specs.declared.request.Request.{Request}
use Rattle.mf_model.specs.declared.request.Request.TheVariants as request
use Rattle.mf_model.specs.declared.reply.LoanReply.{LoanReply}
use Rattle.mf_model.specs.declared.reply.LoanReply.TheVariants.{Status}
use Rattle.mf_model.specs.declared.reply.Reply.{Reply}
use Rattle.mf_model.specs.declared.reply.Reply.TheVariants.{DaySet, ProductMade, ProductRetired}
use Rattle.mf_model.specs.Accounts.{account_in}
use Rattle.mf_model.specs.Catalogue.{on_catalogue, day_set, charge_added, product_added, product_retired}
use Rattle.mf_model.specs.Desk.{plan, on_office, of_catalogue, of_office, in_office, change_in}
use Rattle.mf_model.specs.Desk.{sender_effect, outcome}
use Rattle.mf_model.specs.Institution.{Institution, Catalogue, Rows, Ledger, Office}
use Rattle.mf_model.specs.Institution.{office_at, with_rows, new_office, item_numbered, charge_in, product_in}
use Rattle.mf_model.specs.Institution.{Change, Catalogue_becomes, Rows_become, Office_added, after, after_line}
use Rattle.mf_model.specs.Loans.{LedgerChange, with_stage, with_reversal, unless_fault, fault_or, enter}
use Rattle.mf_model.specs.Loans.{none_first, fee_first, reverse, repeat_of, unless_known, on_loan, of_loan, in_loan}
use Rattle.mf_model.specs.Loans.{loan_added, new_loan, lend, repayment, fee, posting}
use Rattle.mf_model.specs.Offices.{staff_added, client_added}
use Rattle.mf_model.specs.Outcomes.{next_of, with_value, with_found, where_found, unless_refused}
use Rattle.mf_model.specs.Receipts.{Use, uses_from, used_before, repeated_seq}
use Rattle.mf_model.specs.Run.{Line, next, noted_of, last}
use Rattle.mf_model.specs.Stages.{next_stage, stage_number}
use Rattle.mf_model.specs.Tree.{IsTree, Fits}
use Rattle.mf_model.proofs.Confined.{others_stay, old_stay}
use Rattle.mf_model.proofs.Runs.{IsTree_next}
use Rattle.mf_model.proofs.StaffLemmas.{rows_found}
use Rattle.mf_model.proofs.Steps.{known_line}
use Rattle.mf_model.proofs.Views.{apart}
use Rattle.mf_guarantees.specs.Kept.{IsSame, IsSameEntry, IsSameLoan, IsSameProduct, RowsRemain, OfficeRemains}
use Rattle.mf_guarantees.specs.Kept.{CatalogueRemains, AllRemains}
use Rattle.mf_guarantees.proofs.RemainLemmas.{remain_self, remain_push, remain_numbered, same_entry, entries_marked}
use Rattle.mf_guarantees.proofs.RemainLemmas.{same_loan, same_product, office_self, catalogue_self, all_self}
use Rattle.mf_guarantees.proofs.RemainLemmas.{all_then}

-- what becomes of a loan takes nothing away
abbrev IsKeptBy : Result (LoanReply × Option LedgerChange) Fault → Type 0
IsKeptBy (Err fault) = Unit {0}
IsKeptBy (Ok (told, None)) = Unit {0}
IsKeptBy (Ok (told, Some change)) = (l : Ledger) → IsSameLoan l (change l)

staged : (r : Result Stage Fault)
    → IsKeptBy (with_value r (λ stage. (Status (stage_number stage), Some (with_stage stage))))
staged (Err fault) = tt
staged (Ok stage) = λ l. record { members = refl; entries = remain_self IsSameEntry same_entry l.entries }

unless : (fault : Option Fault) (told : LoanReply) (change : LedgerChange) → ((l : Ledger) → IsSameLoan l (change l))
    → IsKeptBy (unless_fault fault told change)
unless (Some fault) told change keeps = tt
unless None told change keeps = keeps

entering : (first : DisbursedLoan → Option Fault) (make : ℕ → DisbursedLoan → Entry) (k : Catalogue)
    (account : Option DisbursedLoan) → IsKeptBy (enter first make k account)
entering first make k None = tt
entering first make k (Some a) = unless (fault_or (first a) (refusal_of a (make k.day a) k.day)) _ _
    (λ l. record { members = refl; entries = remain_push IsSameEntry same_entry l.entries (make k.day a) })

repeated : (r : Result ℕ Fault) → IsKeptBy (repeat_of r)
repeated (Err fault) = tt
repeated (Ok seq) = tt

repaying : (asked : Repayment) (c : Caller) (k : Catalogue) (n : ℕ) (l : Ledger) (known : Option Use)
    → IsKeptBy (unless_known n asked known (enter none_first (λ today. repayment asked c) k (account_in k l)))
repaying asked c k n l None = entering none_first (λ today. repayment asked c) k (account_in k l)
repaying asked c k n l (Some u) = repeated (repeated_seq n asked.amount asked.day u.by)

charging : (due : ℕ) (c : Caller) (k : Catalogue) (l : Ledger) (found : Option ChargeDef)
    → IsKeptBy (where_found found (λ d. enter (fee_first due) (fee d due c) k (account_in k l)))
charging due c k l None = tt
charging due c k l (Some d) = entering (fee_first due) (fee d due c) k (account_in k l)

reversing : (seq : ℕ) (account : Option DisbursedLoan) → IsKeptBy (reverse seq account)
reversing seq None = tt
reversing seq (Some a) = unless (reversal_refused a.entries seq) _ (with_reversal seq)
    (λ l. record { members = refl; entries = entries_marked l.entries _ })

kept_on_loan : (asked : LoanRequest) (c : Caller) (k : Catalogue) (rows : Rows) (n : ℕ) (l : Ledger)
    → IsKeptBy (on_loan asked c k rows n l)
kept_on_loan Show c k rows n l = tt
kept_on_loan ShowInstalments c k rows n l = tt
kept_on_loan ShowEntries c k rows n l = tt
kept_on_loan (Take step) c k rows n l = staged (next_stage step k.day l.loan.stage)
kept_on_loan (Repay asked) c k rows n l = repaying asked c k n l (used_before asked.receipt (uses_from 1 rows.loans))
kept_on_loan (ChargeFee charge due) c k rows n l = charging due c k l (charge_in k charge)
kept_on_loan (Post asked) c k rows n l = entering none_first (posting asked c) k (account_in k l)
kept_on_loan (Reverse seq) c k rows n l = reversing seq (account_in k l)

-- what becomes of an office's rows takes nothing away
abbrev AreKeptBy : Rows → Result (Reply × Option Rows) Fault → Type 0
AreKeptBy rows (Err fault) = Unit {0}
AreKeptBy rows (Ok (told, None)) = Unit {0}
AreKeptBy rows (Ok (told, Some new)) = RowsRemain rows new

of_a_loan : (account : Account) (rows : Rows) (r : Result (LoanReply × Option LedgerChange) Fault) → IsKeptBy r
    → AreKeptBy rows (of_loan account rows r)
of_a_loan account rows (Err fault) keeps = tt
of_a_loan account rows (Ok (told, None)) keeps = tt
of_a_loan account rows (Ok (told, Some change)) keeps = record {
  staff = remain_self IsSame (λ x. refl) rows.staff;
  clients = remain_self IsSame (λ x. refl) rows.clients;
  loans = remain_numbered IsSameLoan same_loan account.number change keeps rows.loans;
}

in_a_loan : (account : Account) (act : Ledger → Result (LoanReply × Option LedgerChange) Fault)
    → ((l : Ledger) → IsKeptBy (act l)) → (rows : Rows) (found : Option Ledger)
    → AreKeptBy rows (where_found found (λ l. of_loan account rows (act l)))
in_a_loan account act keeps rows None = tt
in_a_loan account act keeps rows (Some l) = of_a_loan account rows (act l) (keeps l)

counted : (rows : Rows) (r : Result ℕ Fault) (told : ℕ → Reply) (new : Rows) → RowsRemain rows new
    → AreKeptBy rows (with_value r (λ n. (told n, Some new)))
counted rows (Err fault) told new keeps = tt
counted rows (Ok n) told new keeps = keeps

shown : (rows : Rows) (found : Option (List ℕ)) (told : List ℕ → Reply)
    → AreKeptBy rows (with_found found (λ name. (told name, None)))
shown rows None told = tt
shown rows (Some name) told = tt

refused : (rows : Rows) (r : Result (Unit {0}) Fault) (next : Result (Reply × Option Rows) Fault) → AreKeptBy rows next
    → AreKeptBy rows (unless_refused r next)
refused rows (Err fault) next keeps = tt
refused rows (Ok u) next keeps = keeps

lent : (office : ℕ) (asked : Application) (rows : Rows) (found : Option Product)
    → AreKeptBy rows (lend office asked found rows)
lent office asked rows None = tt
lent office asked rows (Some p) = refused rows (lending p asked.principal asked.periods) _
    (counted rows (next_of (length rows.loans) 999999) _ (loan_added (new_loan asked) rows) (record {
      staff = remain_self IsSame (λ x. refl) rows.staff;
      clients = remain_self IsSame (λ x. refl) rows.clients;
      loans = remain_push IsSameLoan same_loan rows.loans (record { loan = new_loan asked; entries = [] });
    }))

submitted : (office : ℕ) (asked : Application) (k : Catalogue) (rows : Rows) (client : Option (List ℕ))
    → AreKeptBy rows (where_found client (λ name. lend office asked (product_in k asked.product) rows))
submitted office asked k rows None = tt
submitted office asked k rows (Some name) = lent office asked rows (product_in k asked.product)

kept_in_office : (asked : OfficeRequest) (office : ℕ) (k : Catalogue) (rows : Rows)
    → AreKeptBy rows (on_office asked office k rows)
kept_in_office (AddStaff name role) office k rows =
    counted rows (next_of (length rows.staff) 9999) _ (staff_added name role rows) (record {
      staff = remain_push IsSame (λ x. refl) rows.staff (record { name = name; role = role });
      clients = remain_self IsSame (λ x. refl) rows.clients;
      loans = remain_self IsSameLoan same_loan rows.loans;
    })
kept_in_office (AddClient name) office k rows =
    counted rows (next_of (length rows.clients) 999999) _ (client_added name rows) (record {
      staff = remain_self IsSame (λ x. refl) rows.staff;
      clients = remain_push IsSame (λ x. refl) rows.clients name;
      loans = remain_self IsSameLoan same_loan rows.loans;
    })
kept_in_office (ShowClient client) office k rows = shown rows (item_numbered rows.clients client) _
kept_in_office (SubmitLoan asked) office k rows =
    submitted office asked k rows (item_numbered rows.clients asked.client)
kept_in_office (ListLoans above) office k rows = tt

-- what becomes of the catalogue takes nothing away
abbrev IsCatalogueKeptBy : Catalogue → Result (Reply × Option Catalogue) Fault → Type 0
IsCatalogueKeptBy k (Err fault) = Unit {0}
IsCatalogueKeptBy k (Ok (told, None)) = Unit {0}
IsCatalogueKeptBy k (Ok (told, Some new)) = CatalogueRemains k new

made : (k : Catalogue) (r : Result ℕ Fault) (told : ℕ → Reply) (new : Catalogue) → CatalogueRemains k new
    → IsCatalogueKeptBy k (with_value r (λ n. (told n, Some new)))
made k (Err fault) told new keeps = tt
made k (Ok n) told new keeps = keeps

told_of : {A : Type 0} (k : Catalogue) (found : Option A) (told : A → Reply)
    → IsCatalogueKeptBy k (with_found found (λ x. (told x, None)))
told_of k None told = tt
told_of k (Some x) told = tt

day_moved : (k : Catalogue) (day : ℕ) (later : Bool) → nat_lt k.day day ≡ later
    → IsCatalogueKeptBy k (cond later (Ok (DaySet day, Some (day_set day k))) (Err F17))
day_moved k day false e = tt
day_moved k day true e = record {
  day = let late = ltb-true k.day day e in omega (arith, late);
  charges = remain_self IsSame (λ x. refl) k.charges;
  products = remain_self IsSameProduct same_product k.products;
}

product_made : (k : Catalogue) (members : ProductMembers) (a b : Bool)
    → IsCatalogueKeptBy k (cond a (cond b (with_value (next_of (length k.products) 999)
    (λ n. (ProductMade n, Some (product_added members k)))) (Err F8)) (Err F4))
product_made k members false b = tt
product_made k members true false = tt
product_made k members true true = made k (next_of (length k.products) 999) _ (product_added members k) (record {
  day = omega arith;
  charges = remain_self IsSame (λ x. refl) k.charges;
  products = remain_push IsSameProduct same_product k.products (record { members = members; retired = false });
})

retired : (k : Catalogue) (n : ℕ) (found : Option Product)
    → IsCatalogueKeptBy k (where_found found (λ product. cond product.retired (Err F7)
    (Ok (ProductRetired n, Some (product_retired n k)))))
retired k n None = tt
retired k n (Some product) = either product.retired
  where
    either : (b : Bool) → IsCatalogueKeptBy k (cond b (Err F7) (Ok (ProductRetired n, Some (product_retired n k))))
    either true = tt
    either false = record {
      day = omega arith;
      charges = remain_self IsSame (λ x. refl) k.charges;
      products = remain_numbered IsSameProduct same_product n (λ p. record p { retired = true })
          (λ p. record { members = refl; retirement = λ h. refl }) k.products;
    }

kept_in_catalogue : (asked : CatalogueRequest) (k : Catalogue) → IsCatalogueKeptBy k (on_catalogue asked k)
kept_in_catalogue asked.ShowDay k = tt
kept_in_catalogue (asked.SetDay day) k = day_moved k day (nat_lt k.day day) refl
kept_in_catalogue (asked.AddCharge name kind calc value) k =
    made k (next_of (length k.charges) 999) _ (charge_added _ k) (record {
      day = omega arith;
      charges = remain_push IsSame (λ x. refl) k.charges
          (record { name = name; kind = kind; calc = calc; value = value });
      products = remain_self IsSameProduct same_product k.products;
    })
kept_in_catalogue (asked.ShowCharge charge) k = told_of k (charge_in k charge) _
kept_in_catalogue (asked.AddProduct members) k =
    product_made k members (charges_there (charge_in k) members) (is_consistent (charge_in k) members)
kept_in_catalogue (asked.ShowProduct product) k = told_of k (product_in k product) _
kept_in_catalogue (asked.RetireProduct product) k = retired k product (product_in k product)

-- changes of an institution
catalogue_changed : (i : Institution) (change : Change) (r : Result (Reply × Option Catalogue) Fault)
    → IsCatalogueKeptBy i.catalogue r → change_in (of_catalogue r) ≡ Some change → AllRemains i (after change i)
catalogue_changed i change (Err fault) keeps h = absurd (cc)
catalogue_changed i change (Ok (told, None)) keeps h = absurd (cc)
catalogue_changed i change (Ok (told, Some k)) keeps h =
    let is : Catalogue_becomes k ≡ change = cc in
    subst (λ (c : Change). AllRemains i (after c i)) is
    (record { catalogue = keeps; offices = λ x f there. (f, there, office_self f) })

rows_changed : (i : Institution) (x : ℕ) (f : Office) (new : Rows) → office_at x i.offices ≡ Some f
    → RowsRemain f.rows new → AllRemains i (after (Rows_become x new) i)
rows_changed i x f new there keeps = record { catalogue = catalogue_self i.catalogue; offices = each }
  where
    each : (y : ℕ) (g : Office) → office_at y i.offices ≡ Some g
        → (h : Office) × (office_at y (with_rows x new i.offices) ≡ Some h) × OfficeRemains g h
    each y g here = elim (cases_eq y x) [
      | inl same ↦
          let one : Some f ≡ Some g = sym there ∙ ap (λ z. office_at z i.offices) (sym same) ∙ here in
          let is : f ≡ g = cc in (
            record f { rows = new },
            ap (λ z. office_at z (with_rows x new i.offices)) same ∙ rows_found x new i.offices
                ∙ ap (option_map (λ (h : Office). record h { rows = new })) there,
            subst (λ (z : Office). OfficeRemains z (record f { rows = new })) is
                (record { number = refl; parent = refl; name = refl; rows = keeps }),
          )
      | inr other ↦ (g, others_stay x y new i.offices other ∙ here, office_self g)
    ]

office_changed : (i : Institution) (change : Change) (x : ℕ) (f : Office) (r : Result (Reply × Option Rows) Fault)
    → office_at x i.offices ≡ Some f → AreKeptBy f.rows r → change_in (of_office x r) ≡ Some change
    → AllRemains i (after change i)
office_changed i change x f (Err fault) there keeps h = absurd (cc)
office_changed i change x f (Ok (told, None)) there keeps h = absurd (cc)
office_changed i change x f (Ok (told, Some new)) there keeps h =
    let is : Rows_become x new ≡ change = cc in
    subst (λ (c : Change). AllRemains i (after c i)) is (rows_changed i x f new there keeps)

in_an_office : (i : Institution) (change : Change) (x : ℕ)
    (act : Catalogue → Office → Result (Reply × Option Rows) Fault)
    → ((f : Office) → AreKeptBy f.rows (act i.catalogue f)) → (found : Option Office) → office_at x i.offices ≡ found
    → change_in (in_office x act i.catalogue found) ≡ Some change → AllRemains i (after change i)
in_an_office i change x act keeps None there h = absurd (cc)
in_an_office i change x act keeps (Some f) there h =
    office_changed i change x f (act i.catalogue f) there (keeps f) h

new_office_there : (i : Institution) (number parent : ℕ) (name : List ℕ)
    → Fits (Office_added number parent name) i.offices → AllRemains i (after (Office_added number parent name) i)
new_office_there i number parent name fit = record {
  catalogue = catalogue_self i.catalogue;
  offices = λ x f there. (
    f,
    old_stay (new_office number parent name) x i.offices (apart i.offices x number (ap is_some there) fit.free)
        ∙ there,
    office_self f,
  );
}

effect_kept : (c : Caller) (request : Request) (i : Institution) (change : Change)
    → sender_effect (Some c) (plan request) i ≡ Some change → Fits change i.offices → AllRemains i (after change i)
effect_kept c (request.Unreadable flaw) i change h fit = absurd (cc)
effect_kept c (request.Catalogue asked) i change h fit =
    catalogue_changed i change (on_catalogue asked i.catalogue) (kept_in_catalogue asked i.catalogue) h
effect_kept c (request.Office office asked) i change h fit =
    in_an_office i change office (λ k f. on_office asked office k f.rows)
    (λ f. kept_in_office asked office i.catalogue f.rows) (office_at office i.offices) refl h
effect_kept c (request.Loan loan asked) i change h fit =
    in_an_office i change loan.office (λ k f. in_loan loan (on_loan asked c k f.rows loan.number) f.rows)
    (λ f. in_a_loan loan (on_loan asked c i.catalogue f.rows loan.number)
    (λ l. kept_on_loan asked c i.catalogue f.rows loan.number l) f.rows (item_numbered f.rows.loans loan.number))
    (office_at loan.office i.offices) refl h
effect_kept c request.SeenOffices i change h fit = absurd (cc)
effect_kept c request.SeenArrears i change h fit = absurd (cc)
effect_kept c (request.NewOffice number parent name) i change h fit =
    let is : Office_added number parent name ≡ change = cc in
    subst (λ (x : Change). AllRemains i (after x i)) is
    (new_office_there i number parent name (subst (λ (x : Change). Fits x i.offices) (sym is) fit))

sent : (caller : Option Caller) (request : Request) (i : Institution) (change : Change)
    → sender_effect caller (plan request) i ≡ Some change → Fits change i.offices → AllRemains i (after change i)
sent None (request.Unreadable flaw) i change h fit = absurd (cc)
sent None (request.Catalogue asked) i change h fit = absurd (cc)
sent None (request.Office office asked) i change h fit = absurd (cc)
sent None (request.Loan loan asked) i change h fit = absurd (cc)
sent None request.SeenOffices i change h fit = absurd (cc)
sent None request.SeenArrears i change h fit = absurd (cc)
sent None (request.NewOffice number parent name) i change h fit = absurd (cc)
sent (Some c) request i change h fit = effect_kept c request i change h fit

one_line : (l : Line) (i : Institution) → IsTree i.offices → AllRemains i (next l i)
one_line l i t = step l.given_up (change_in (outcome l.call i)) refl
  where
    step : (g : Bool) (c : Option Change) → change_in (outcome l.call i) ≡ c
        → AllRemains i (after_line (noted_of l.call i) (cond g None c) i)
    step true c e = all_self i
    step false None e = all_self i
    step false (Some change) e =
        let known = known_line l.call.caller l.call.request (plan l.call.request) i change t refl e in
        let all = sent l.call.caller l.call.request i change known.made_is known.fits in
        record { catalogue = all.catalogue; offices = all.offices }

-- nothing is gone after any run
pub run_keeps : (lines : List Line) (i : Institution) → IsTree i.offices → AllRemains i (last lines i)
run_keeps [] i t = all_self i
run_keeps (l ∷ ls) i t = all_then i (next l i) (last ls (next l i)) (one_line l i t)
    (run_keeps ls (next l i) (IsTree_next l i t))
