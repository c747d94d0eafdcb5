-- An institution stays sound.
use Rattle.std.proofs.Common.{◌≡◌, ◌≢◌, ℕ, zero, suc, ◌+◌, ◌-◌, ◌<◌, ◌≤◌, Bool, true, false, cond, List, [], ◌∷◌, ◌++◌}
use Rattle.std.proofs.Common.{length, codes, Option, Some, None, Ok, Err, refl, sym, ap, ◌∙◌, subst, arith}
use Rattle.std.specs.Prelude.{◌==◌, ◌&&◌, ◌||◌, not, nat_lt, nat_le, is_some, option_map, Result}
use Rattle.std.specs.List.{AllByRecursion}
use Rattle.std.specs.Str.{is_utf8, chars}
use lib.Utf8.{encode}
use Rattle.std.proofs.lemmas.Str.{IsUtf8-from_is_utf8}
use Rattle.std.proofs.lemmas.Bool.Decides.{nat_tests}
use Rattle.mf_base.specs.DayText.{last_entered_day}
use Rattle.mf_base.specs.declared.fault.Fault.{Fault}
use Rattle.mf_base.specs.declared.fault.Fault.TheVariants.{F4, F7, F8, F11, F12, F13, F17, F18}
use Rattle.mf_office.specs.declared.staff.Role.{Role}
use Rattle.mf_office.specs.declared.caller.Caller.{Caller}
use Rattle.mf_office.specs.declared.account.Account.{Account}
use Rattle.mf_office.specs.Numbers.{IsNumberUpTo}
use Rattle.mf_office.specs.Tree.{IsTreeOf}
use Rattle.mf_model.specs.Calls.{Call}
use Rattle.mf_model.specs.declared.request.Request.{Request}
use Rattle.mf_model.specs.declared.request.Request.TheVariants as request
use Rattle.mf_model.specs.declared.request.CatalogueRequest.{CatalogueRequest}
use Rattle.mf_model.specs.declared.request.CatalogueRequest.TheVariants.{ShowDay, SetDay, AddCharge, ShowCharge}
use Rattle.mf_model.specs.declared.request.CatalogueRequest.TheVariants.{AddProduct, ShowProduct, RetireProduct}
use Rattle.mf_model.specs.declared.request.OfficeRequest.{OfficeRequest}
use Rattle.mf_model.specs.declared.request.OfficeRequest.TheVariants.{AddStaff, AddClient, ShowClient, SubmitLoan}
use Rattle.mf_model.specs.declared.request.OfficeRequest.TheVariants.{ListLoans}
use Rattle.mf_model.specs.declared.request.LoanRequest.{LoanRequest}
use Rattle.mf_model.specs.declared.request.LoanRequest.TheVariants.{Show, ShowInstalments, ShowEntries, Take, Repay}
use Rattle.mf_model.specs.declared.request.LoanRequest.TheVariants.{ChargeFee, Post, Reverse}
use Rattle.mf_model.specs.declared.waivable.Waivable.{Waivable}
use Rattle.mf_model.specs.declared.waivable.Waivable.TheVariants.{Penalties, Fees, Interest}
use Rattle.mf_model.specs.Waivable.{portion_of}
use Rattle.mf_model.specs.declared.request.Posting.{Posting}
use Rattle.mf_model.specs.declared.request.Posting.TheVariants.{Penalty, Waiver, WriteOff, Refund}
use Rattle.mf_model.specs.declared.request.LoanStep.{LoanStep}
use Rattle.mf_model.specs.declared.request.Application.{Application}
use Rattle.mf_model.specs.declared.request.Repayment.{Repayment}
use Rattle.mf_model.specs.declared.reply.LoanReply.{LoanReply}
use Rattle.mf_model.specs.declared.reply.LoanReply.TheVariants.{Shown, Instalments, Entries, Status, Entered, Repeated}
use Rattle.mf_model.specs.declared.reply.LoanReply.TheVariants.{Reversed}
use Rattle.mf_model.specs.declared.reply.Reply.{Reply}
use Rattle.mf_model.specs.declared.reply.Reply.TheVariants.{StaffMade, ClientMade, ClientShown, DayShown, DaySet}
use Rattle.mf_model.specs.declared.reply.Reply.TheVariants.{ChargeMade, ChargeShown, ProductMade, ProductShown}
use Rattle.mf_model.specs.declared.reply.Reply.TheVariants.{ProductRetired, LoanMade, Loan, LoansShown}
use Rattle.mf_model.specs.Institution.{Institution, Catalogue, ListedCharge, ListedProduct, Office, Rows, Staff, Ledger}
use Rattle.mf_model.specs.Institution.{no_rows}
use Rattle.mf_model.specs.Institution.{product_of, charge_in, product_in, office_at, with_rows, with_office, new_office}
use Rattle.mf_model.specs.Institution.{Change, Catalogue_becomes, Rows_become, Office_added, after, after_line}
use Rattle.mf_model.specs.Institution.{after_noted, Noted}
use Rattle.mf_model.specs.Institution.{newly_made, item_numbered, with_numbered}
use Rattle.mf_model.specs.Tree.{parent_of, is_there, Fits}
use Rattle.mf_catalog.specs.declared.charge.ChargeDef.{ChargeDef}
use Rattle.mf_catalog.specs.declared.terms.Terms.{Terms}
use Rattle.mf_catalog.specs.declared.product.Product.{Product}
use Rattle.mf_catalog.specs.declared.product.ProductMembers.{ProductMembers}
use Rattle.mf_alloc.specs.declared.row.Portion.TheVariants.{Principal}
use Rattle.mf_account.specs.declared.entry.Entry.{Entry}
use Rattle.mf_account.specs.Loan.{DisbursedLoan, AreEntries, IsSoundDisbursed}
use Rattle.mf_account.specs.Kinds.{is_seal}
use Rattle.mf_account.specs.Refusals.{refusal_of, reversal_refused, is_sealed, is_instalment_number, HasForm}
use Rattle.mf_account.specs.Refusals.{IsOffered}
use Rattle.mf_account.specs.Standing.{entry_at, with_mark}
use Rattle.mf_account.proofs.SoundLemmas.{sound-entered, sound-reversed}
use Rattle.mf_catalog.specs.Product.{charges_there, is_consistent, allows, lending}
use Rattle.mf_model.specs.declared.loan.Stage.{Stage}
use Rattle.mf_model.specs.Outcomes.{next_of, with_value, with_found, where_found, unless_refused}
use Rattle.mf_model.specs.Catalogue.{show_day, day_set, set_day, charge_added, add_charge, show_charge, product_added}
use Rattle.mf_model.specs.Catalogue.{add_product, show_product, product_retired, retire_product, on_catalogue}
use Rattle.mf_model.specs.Offices.{staff_added, add_staff, client_added, add_client, show_client}
use Rattle.mf_model.specs.Stages.{stage_number, disbursed_on, next_stage}
use Rattle.mf_model.specs.Accounts.{terms_in, account_in, statement, instalments_in, entries_in}
use Rattle.mf_model.specs.Loans.{LedgerChange, with_stage, with_new_entry, with_reversal, repayment, fee, posting}
use Rattle.mf_model.specs.Loans.{unless_fault, fault_or, none_first, fee_first, enter, reverse, repeat_of, unless_known}
use Rattle.mf_model.specs.Loans.{on_loan, loan_changed, of_loan, in_loan, loan_added, new_loan, submit, lines_above}
use Rattle.mf_model.specs.Loans.{list_loans}
use Rattle.mf_model.specs.Desk.{Plan, plan, on_office, in_office, of_office, of_catalogue, change_in, sender_effect}
use Rattle.mf_model.specs.Desk.{outcome, staff_at, where_permitted, sent_by}
use Rattle.mf_model.specs.Run.{Line, next, last, noted_of}
use Rattle.mf_model.specs.Sound.{IsName, AreMembers, IsSoundCharge, IsSoundOffer, IsSoundCatalogue, IsSoundLoan}
use Rattle.mf_model.specs.Sound.{IsEntryBy, AreEntered, AreEntriesBy, is_staff, lends, IsSoundRows, IsSoundOffice}
use Rattle.mf_model.specs.Sound.{IsSound, IsCatalogueInRange, IsOfficeInRange, IsRepayment, IsLoanInRange, IsInRange}
use Rattle.mf_model.specs.Sound.{AreInRange}
use Rattle.mf_model.proofs.StepLemmas.{IsResultFrom, step_keeps}
use Rattle.mf_model.proofs.AdmittedLemmas.{admitted, dated_in_order}
use Rattle.mf_model.proofs.Views.{IsTree_after}
use Rattle.mf_model.proofs.Steps.{known_line}
use Rattle.mf_model.proofs.Confined.{IsTree_new}
use Rattle.mf_model.specs.Receipts.{Use, uses_from, used_before, repeated_seq, AreApart}
use Rattle.mf_model.proofs.ReceiptLemmas.{KnownStay, known_entered, known_same, uses_with, uses_marked, uses_push}
use Rattle.mf_model.proofs.ReceiptLemmas.{apart_entered}
use Rattle.mf_model.proofs.StaffLemmas.{KeepsStaff, KeepsStaffOf, staff_with_rows, staff_with_office}
use Rattle.mf_model.proofs.AccountLemmas.{IsRunning, account_is, account_sound, day_of_stage, entered_at, no_entries}
use Rattle.mf_model.proofs.AccountLemmas.{days_by}
use Rattle.mf_model.proofs.Growing.{Grows, grows_self, StaffGrows, rows_grow, terms_push, terms_with, terms_charge}
use Rattle.mf_model.proofs.Growing.{all_at, all_with_at, all_push, all_map, all_with, length_push, length_with}
use Rattle.mf_model.proofs.Growing.{numbered_push, there_push, numbered_with, consistent_grows, charge_stays}
use Rattle.mf_model.proofs.Growing.{offices_grow, lends_by_members, and_left, and_right}

-- the receipts that were known are
abbrev pub KeepsUses : Rows → Rows → Type 0
KeepsUses old new = KnownStay (uses_from 1 old.loans) (uses_from 1 new.loans)

abbrev pub KeepsUsesOf : ℕ → Rows → List Office → Type 0
KeepsUsesOf x rows fs = (f : Office) → office_at x fs ≡ Some f → KeepsUses f.rows rows

-- what a change must bring
abbrev pub IsSoundChange : Institution → Change → Type 0
IsSoundChange i (Catalogue_becomes catalogue) = IsSoundCatalogue catalogue × Grows i.catalogue catalogue
IsSoundChange i (Rows_become x rows) = IsSoundRows i.catalogue (is_staff i.offices) rows × KeepsStaffOf x rows i.offices
    × KeepsUsesOf x rows i.offices
IsSoundChange i (Office_added number parent name) = IsNumberUpTo 9999 number × IsName name

each_with_rows : (k : Catalogue) (s : Caller → Bool) (x : ℕ) (rows : Rows) (fs : List Office) → IsSoundRows k s rows
    → AllByRecursion (IsSoundOffice k s) fs → AllByRecursion (IsSoundOffice k s) (with_rows x rows fs)
each_with_rows k s x rows [] r a = tt
each_with_rows k s x rows (f ∷ fs) r a =
    (record { number = a.0.number; name = a.0.name; rows = either (f.number == x) }, each_with_rows k s x rows fs r a.1)
  where
    either : (b : Bool) → IsSoundRows k s (cond b rows f.rows)
    either true = r
    either false = a.0.rows

each_with_office : (k : Catalogue) (s : Caller → Bool) (new : Office) (fs : List Office) → IsSoundOffice k s new
    → AllByRecursion (IsSoundOffice k s) fs → AllByRecursion (IsSoundOffice k s) (with_office new fs)
each_with_office k s new [] n a = (n, tt)
each_with_office k s new (f ∷ fs) n a = either (nat_lt new.number f.number) (each_with_office k s new fs n a.1)
  where
    either : (b : Bool) → AllByRecursion (IsSoundOffice k s) (with_office new fs) → AllByRecursion (IsSoundOffice k s)
        (cond b (new ∷ f ∷ fs) (f ∷ with_office new fs))
    either true rest = (n, a)
    either false rest = (a.0, rest)

no_rows_sound : (k : Catalogue) (s : Caller → Bool) → IsSoundRows k s no_rows
no_rows_sound k s = record {
  staff_limit = omega arith;
  staff_names = tt;
  client_limit = omega arith;
  client_names = tt;
  loan_limit = omega arith;
  loans = tt;
  receipts = tt;
}

pub sound_after : (change : Change) (i : Institution) → IsSound i → Fits change i.offices → IsSoundChange i change
    → IsSound (after change i)
sound_after (Catalogue_becomes catalogue) i s fit c = record {
  catalogue = c.0;
  tree = IsTree_after (Catalogue_becomes catalogue) i s.tree fit;
  each = offices_grow i.catalogue catalogue (is_staff i.offices) (is_staff i.offices) i.offices c.1 (λ caller h. h)
      s.each;
}
sound_after (Rows_become x rows) i s fit c =
    let k = i.catalogue in
    let old = is_staff i.offices in
    let new = is_staff (with_rows x rows i.offices) in
    let grows : StaffGrows old new = staff_with_rows x rows i.offices c.1 in
    record {
      catalogue = s.catalogue;
      tree = IsTree_after (Rows_become x rows) i s.tree fit;
      each = each_with_rows k new x rows i.offices (rows_grow k k old new rows (grows_self k) grows c.0)
          (offices_grow k k old new i.offices (grows_self k) grows s.each);
    }
sound_after (Office_added number parent name) i s fit c =
    let k = i.catalogue in
    let added = new_office number parent name in
    let old = is_staff i.offices in
    let new = is_staff (with_office added i.offices) in
    record {
      catalogue = s.catalogue;
      tree = IsTree_after (Office_added number parent name) i s.tree fit;
      each = each_with_office k new added i.offices (record { number = c.0; name = c.1; rows = no_rows_sound k new })
          (offices_grow k k old new i.offices (grows_self k) (staff_with_office added i.offices fit.free) s.each);
    }

pub found_sound : (k : Catalogue) (s : Caller → Bool) (x : ℕ) (fs : List Office) (f : Office)
    → AllByRecursion (IsSoundOffice k s) fs → office_at x fs ≡ Some f → IsSoundOffice k s f
found_sound k s x [] f a e = absurd (cc)
found_sound k s x (g ∷ fs) f a e = either (g.number == x) (found_sound k s x fs f a.1) e
  where
    either : (b : Bool) → (office_at x fs ≡ Some f → IsSoundOffice k s f) → cond b (Some g) (office_at x fs) ≡ Some f
        → IsSoundOffice k s f
    either true rest h = let same : g ≡ f = cc in subst (IsSoundOffice k s) same a.0
    either false rest h = rest h

-- rows that are sound, and have each member of staff and each receipt that there was
abbrev pub AreRowsAfter : Catalogue → (Caller → Bool) → Rows → Rows → Type 0
AreRowsAfter k s old new = IsSoundRows k s new × KeepsStaff old new × KeepsUses old new

uses_same : (rows : Rows) → KeepsUses rows rows
uses_same rows = known_same (uses_from 1 rows.loans) (uses_from 1 rows.loans) refl

-- an act that keeps the rows of an office sound, under a sound catalogue
abbrev pub KeepsRows : Catalogue → (Caller → Bool) → (Catalogue → Office → Result (Reply × Option Rows) Fault) → Type 0
KeepsRows k s act = (f : Office) (reply : Reply) (rows : Rows) → IsSoundRows k s f.rows
    → act k f ≡ Ok (reply, Some rows) → AreRowsAfter k s f.rows rows

some_of : {X : Type 0} (x y : X) → Some x ≡ Some y → x ≡ y
some_of x y h = cc

office_sound : (x : ℕ) (act : Catalogue → Office → Result (Reply × Option Rows) Fault) (i : Institution)
    (change : Change) → IsSound i → KeepsRows i.catalogue (is_staff i.offices) act
    → change_in (in_office x act i.catalogue (office_at x i.offices)) ≡ Some change → IsSoundChange i change
office_sound x act i change s k h = at (office_at x i.offices) refl h
  where
    become : (f : Office) → office_at x i.offices ≡ Some f → IsSoundRows i.catalogue (is_staff i.offices) f.rows
        → (r : Result (Reply × Option Rows) Fault) → act i.catalogue f ≡ r → change_in (of_office x r) ≡ Some change
        → IsSoundChange i change
    become f there s (Err e) is h = absurd (cc)
    become f there s (Ok (reply, None)) is h = absurd (cc)
    become f there s (Ok (reply, Some rows)) is h =
        let same : Rows_become x rows ≡ change = cc in
        let made : AreRowsAfter i.catalogue (is_staff i.offices) f.rows rows = k f reply rows s is in
        subst (IsSoundChange i) same (
          made.0,
          (λ g found. subst (λ (y : Office). KeepsStaff y.rows rows)
              (some_of f g (sym there ∙ found)) made.1),
          (λ g found. subst (λ (y : Office). KeepsUses y.rows rows)
              (some_of f g (sym there ∙ found)) made.2),
        )

    at : (f : Option Office) → office_at x i.offices ≡ f → change_in (in_office x act i.catalogue f) ≡ Some change
        → IsSoundChange i change
    at None is h = absurd (cc)
    at (Some f) is h = become f is (found_sound i.catalogue (is_staff i.offices) x i.offices f s.each is).rows
        (act i.catalogue f) refl h

-- an act that keeps the catalogue sound and lets what was lent stand
abbrev pub KeepsCatalogue : (Catalogue → Result (Reply × Option Catalogue) Fault) → Type 0
KeepsCatalogue act = (k : Catalogue) (reply : Reply) (l : Catalogue) → IsSoundCatalogue k → act k ≡ Ok (reply, Some l)
    → IsSoundCatalogue l × Grows k l

catalogue_sound : (act : Catalogue → Result (Reply × Option Catalogue) Fault) (i : Institution) (change : Change)
    → IsSound i → KeepsCatalogue act → change_in (of_catalogue (act i.catalogue)) ≡ Some change → IsSoundChange i change
catalogue_sound act i change s k h = become (act i.catalogue) refl h
  where
    become : (r : Result (Reply × Option Catalogue) Fault) → act i.catalogue ≡ r → change_in (of_catalogue r)
        ≡ Some change → IsSoundChange i change
    become (Err e) is h = absurd (cc)
    become (Ok (reply, None)) is h = absurd (cc)
    become (Ok (reply, Some l)) is h = let same : Catalogue_becomes l ≡ change =
        cc in subst (IsSoundChange i) same (k i.catalogue reply l s.catalogue is)

-- how a success comes about
next_below : (used limit n : ℕ) → next_of used limit ≡ Ok n → nat_lt used limit ≡ true
next_below used limit n h = either (nat_lt used limit) h
  where
    either : (b : Bool) → cond b (Ok (used + 1)) (Err F18) ≡ Ok n → b ≡ true
    either true h = refl
    either false h = absurd (cc)

with_value_ok : {A B : Type 0} (r : Result A Fault) (make : A → B) (x : B) → with_value r make ≡ Ok x → (y : A)
    × (r ≡ Ok y) × (make y ≡ x)
with_value_ok (Err e) make x h = absurd (cc)
with_value_ok (Ok y) make x h = (y, refl, cc)

with_found_ok : {A B : Type 0} (o : Option A) (make : A → B) (x : B) → with_found o make ≡ Ok x → (y : A) × (make y ≡ x)
with_found_ok None make x h = absurd (cc)
with_found_ok (Some y) make x h = (y, cc)

where_found_ok : {A B : Type 0} (o : Option A) (act : A → Result B Fault) (x : B) → where_found o act ≡ Ok x → (y : A)
    × (o ≡ Some y) × (act y ≡ Ok x)
where_found_ok None act x h = absurd (cc)
where_found_ok (Some y) act x h = (y, refl, h)

unless_refused_ok : {B : Type 0} (r : Result (Unit {0}) Fault) (next : Result B Fault) (x : B) → unless_refused r next
    ≡ Ok x → (r ≡ Ok tt) × (next ≡ Ok x)
unless_refused_ok (Err e) next x h = absurd (cc)
unless_refused_ok (Ok u) next x h = (refl, h)

cond_ok : {B : Type 0} (b : Bool) (next : Result B Fault) (e : Fault) (x : B) → cond b next (Err e) ≡ Ok x → (b ≡ true)
    × (next ≡ Ok x)
cond_ok true next e x h = (refl, h)
cond_ok false next e x h = absurd (cc)

not_cond_ok : {B : Type 0} (b : Bool) (next : Result B Fault) (e : Fault) (x : B) → cond b (Err e) next ≡ Ok x
    → next ≡ Ok x
not_cond_ok true next e x h = absurd (cc)
not_cond_ok false next e x h = h

abbrev ok : {A : Type 0} → A → Result A Fault
ok x = Ok x

ok_of : {A : Type 0} (x y : A) → ok x ≡ ok y → x ≡ y
ok_of x y h = cc

abbrev success : {R X : Type 0} → R → Option X → R × Option X
success reply change = (reply, change)

-- the change of a success
changed : {R X : Type 0} (reply other : R) (x y : X) → success reply (Some x) ≡ success other (Some y) → x ≡ y
changed {R = R} {X = X} reply other x y h = let same : Some x ≡ Some y = ap (λ (r : R × Option X). r.1) h in cc

not_changed : {R X : Type 0} (reply other : R) (y : X) → success reply None ≡ success other (Some y) → ⊥
not_changed {R = R} {X = X} reply other y h = let never : None ≡ Some y = ap (λ (r : R × Option X). r.1) h in cc

-- the offices' acts
staff_sound : (office : ℕ) (name : List ℕ) (role : Role) → IsName name → (k : Catalogue) (s : Caller → Bool)
    → KeepsRows k s (λ k f. add_staff office name role f.rows)
staff_sound office name role n k staffed f reply new s h =
    let rows = f.rows in
    let made = with_value_ok (next_of (length rows.staff) 9999) (λ (m : ℕ).
    (StaffMade (record { office = office; staff = m }), Some (staff_added name role rows))) (reply, Some new) h in
    subst (AreRowsAfter k staffed rows) (changed _ reply (staff_added name role rows) new made.2) (
      record {
        staff_limit = length_push rows.staff (record { name = name; role = role }) 9999 (next_below (length rows.staff)
            9999 made.0 made.1);
        staff_names = all_push (λ (t : Staff). IsName t.name) rows.staff (record { name = name; role = role })
            s.staff_names n;
        client_limit = s.client_limit;
        client_names = s.client_names;
        loan_limit = s.loan_limit;
        loans = s.loans;
        receipts = s.receipts;
      },
      there_push rows.staff (record { name = name; role = role }),
      uses_same rows,
    )

client_stays : (k : Catalogue) (s : Caller → Bool) (clients : List (List ℕ)) (name : List ℕ) (l : Ledger)
    → IsSoundLoan k s clients l → IsSoundLoan k s (clients ++ name ∷ []) l
client_stays k s clients name l i = record {
  client = there_push clients name l.loan.client i.client;
  product = i.product;
  stage = i.stage;
  entries = i.entries;
}

client_sound : (office : ℕ) (name : List ℕ) → IsName name → (k : Catalogue) (s : Caller → Bool)
    → KeepsRows k s (λ k f. add_client office name f.rows)
client_sound office name n k staffed f reply new s h =
    let rows = f.rows in
    let made = with_value_ok (next_of (length rows.clients) 999999) (λ (m : ℕ).
    (ClientMade (record { office = office; number = m }), Some (client_added name rows))) (reply, Some new) h in
    subst (AreRowsAfter k staffed rows) (changed _ reply (client_added name rows) new made.2) (
      record {
        staff_limit = s.staff_limit;
        staff_names = s.staff_names;
        client_limit = length_push rows.clients name 999999 (next_below (length rows.clients) 999999 made.0 made.1);
        client_names = all_push IsName rows.clients name s.client_names n;
        loan_limit = s.loan_limit;
        loans = all_map (IsSoundLoan k staffed rows.clients) (IsSoundLoan k staffed (rows.clients ++ name ∷ []))
            rows.loans (client_stays k staffed rows.clients name) s.loans;
        receipts = s.receipts;
      },
      (λ m there. there),
      uses_same rows,
    )

shown_keeps : (office n : ℕ) → (k : Catalogue) (s : Caller → Bool) → KeepsRows k s (λ k f. show_client office n f.rows)
shown_keeps office n k staffed f reply new s h =
    let shown = with_found_ok {B = Reply × Option Rows} (item_numbered f.rows.clients n)
    (λ name. (ClientShown (record { office = office; number = n }) name, None)) (reply, Some new) h in
    absurd (not_changed _ reply new shown.1)

list_keeps : (x n : ℕ) → (k : Catalogue) (s : Caller → Bool) → KeepsRows k s (λ k f. list_loans x n k f.rows)
list_keeps x n k staffed f reply new s h =
    absurd (let same : success (LoansShown (lines_above k x n f.rows.loans)) None ≡ success reply (Some new) = ok_of
    (success (LoansShown (lines_above k x n f.rows.loans)) None) (success reply (Some new)) h in not_changed _ reply
    new same)

-- what a loan is lent by stands with it
submit_sound : (office : ℕ) (asked : Application) → (k : Catalogue) (s : Caller → Bool)
    → KeepsRows k s (λ k f. submit office asked k f.rows)
submit_sound office asked k staffed f reply new s h =
    let rows = f.rows in
    let there = where_found_ok (item_numbered rows.clients asked.client) _ (reply, Some new) h in
    let of_product = where_found_ok (product_in k asked.product) _ (reply, Some new) there.2 in
    let p = of_product.0 in
    let lent = unless_refused_ok (lending p asked.principal asked.periods) _ (reply, Some new) of_product.2 in
    let made = with_value_ok (next_of (length rows.loans) 999999)
    (λ (m : ℕ). (LoanMade (record { office = office; number = m }), Some (loan_added (new_loan asked) rows)))
    (reply, Some new) lent.1 in
    let not_retired = not_cond_ok p.retired (cond (allows p.members asked.principal asked.periods) (Ok tt) (Err F8)) F7
    tt lent.0 in
    let allowed = cond_ok (allows p.members asked.principal asked.periods) (Ok tt) F8 tt not_retired in
    subst (AreRowsAfter k staffed rows) (changed _ reply (loan_added (new_loan asked) rows) new made.2) (
      record {
        staff_limit = s.staff_limit;
        staff_names = s.staff_names;
        client_limit = s.client_limit;
        client_names = s.client_names;
        loan_limit = length_push rows.loans (record { loan = new_loan asked; entries = [] }) 999999
            (next_below (length rows.loans) 999999 made.0 made.1);
        loans = all_push (IsSoundLoan k staffed rows.clients) rows.loans (record {
          loan = new_loan asked;
          entries = [];
        }) s.loans (record {
          client = ap is_some there.1;
          product = ap (λ (o : Option Product). lends o asked.principal asked.periods) of_product.1 ∙ allowed.0;
          stage = tt;
          entries = refl;
        });
        receipts = subst AreApart (sym (uses_push 1 (new_loan asked) rows.loans)) s.receipts;
      },
      (λ m there. there),
      known_same (uses_from 1 rows.loans) (uses_from 1 (loan_added (new_loan asked) rows).loans)
          (uses_push 1 (new_loan asked) rows.loans),
    )

office_keeps : (office : ℕ) (asked : OfficeRequest) → IsOfficeInRange office asked → (k : Catalogue) (s : Caller → Bool)
    → KeepsRows k s (λ k f. on_office asked office k f.rows)
office_keeps office (AddStaff name role) r = staff_sound office name role r.1
office_keeps office (AddClient name) r = client_sound office name r.1
office_keeps office (ShowClient client) r = shown_keeps office client
office_keeps office (SubmitLoan asked) r = submit_sound office asked
office_keeps office (ListLoans after) r = list_keeps office after

none_before : (today : ℕ) (s : Caller → Bool) (periods : ℕ) (d : Option ℕ) (es : List Entry) → d ≡ None
    → AreEntriesBy today s periods d es → es ≡ []
none_before today s periods None es h i = i
none_before today s periods (Some d) es h i = absurd (cc)

none_by : (today : ℕ) (s : Caller → Bool) (periods : ℕ) (d : Option ℕ) (es : List Entry) → es ≡ []
    → AreEntriesBy today s periods d es
none_by today s periods None es h = h
none_by today s periods (Some day) es h = subst (λ (xs : List Entry). AreEntered today s periods day xs) (sym h)
    (record { lawful = no_entries periods day; each = tt })

-- what becomes of loan n leaves it sound, each receipt apart, and those known that were
record KeepsLoan (k : Catalogue) (staffed : Caller → Bool) (rows : Rows) (n : ℕ) (l : Ledger)
    (change : LedgerChange) : Type 0 where
  sound : IsSoundLoan k staffed rows.clients (change l)
  apart : AreApart (uses_from 1 (with_numbered n change rows.loans))
  known : KnownStay (uses_from 1 rows.loans) (uses_from 1 (with_numbered n change rows.loans))

-- a loan of sound rows
record IsLoanOf (k : Catalogue) (staffed : Caller → Bool) (rows : Rows) (l : Ledger) : Type 0 where
  sound : IsSoundLoan k staffed rows.clients l
  apart : AreApart (uses_from 1 rows.loans)

step_sound : (step : LoanStep) (k : Catalogue) (s : Caller → Bool) (rows : Rows) (n : ℕ) (l : Ledger) (told : LoanReply)
    (change : LedgerChange) → IsLoanOf k s rows l → with_value {B = LoanReply × Option LedgerChange}
    (next_stage step k.day l.loan.stage) (λ stage. (Status (stage_number stage), Some (with_stage stage)))
    ≡ Ok (told, Some change) → KeepsLoan k s rows n l change
step_sound step k s rows n l told change was h =
    either (next_stage step k.day l.loan.stage) (step_keeps step k.day l.loan.stage) h
  where
    either : (r : Result Stage Fault) → IsResultFrom k.day l.loan.stage r → with_value {B = LoanReply
        × Option LedgerChange} r (λ stage. (Status (stage_number stage), Some (with_stage stage)))
        ≡ Ok (told, Some change) → KeepsLoan k s rows n l change
    either (Err e) b h = absurd (cc)
    either (Ok stage) b h =
        let same : with_stage stage ≡ change = changed (Status (stage_number stage)) told (with_stage stage) change
        (ok_of (success (Status (stage_number stage)) (Some (with_stage stage))) (success told (Some change)) h) in
        let none : l.entries ≡ [] =
        none_before k.day s l.loan.periods (disbursed_on l.loan.stage) l.entries b.1 was.sound.entries in
        let uses = uses_with n 1 (with_stage stage) rows.loans (λ x m. refl) in
        subst (KeepsLoan k s rows n l) same (record {
          sound = record {
            client = was.sound.client;
            product = was.sound.product;
            stage = b.0;
            entries = none_by k.day s l.loan.periods (disbursed_on stage) l.entries none;
          };
          apart = subst AreApart (sym uses) was.apart;
          known = known_same (uses_from 1 rows.loans) (uses_from 1 (with_numbered n (with_stage stage) rows.loans))
              uses;
        })

-- an account takes an entry: its loan has it, and is sound
entered_sound : (k : Catalogue) (s : Caller → Bool) (clients : List (List ℕ)) (l : Ledger) (a : DisbursedLoan)
    (e : Entry)
    → IsSoundCatalogue k → IsSoundLoan k s clients l → account_in k l ≡ Some a → IsOffered a e k.day
    → refusal_of a e k.day ≡ None → IsEntryBy k.day s e → IsSoundLoan k s clients (with_new_entry e l)
entered_sound k s clients l a e c was h offered none by =
    let is : IsRunning k l a = account_is k l a h in
    let sound : IsSoundDisbursed a = account_sound k s clients l a c was h in
    let taken : IsSoundDisbursed (record a { entries = a.entries ++ e ∷ [] }) =
    sound-entered a e k.day sound offered (admitted a e k.day sound none) in
    let lawful : AreEntries l.loan.periods is.day (l.entries ++ e ∷ []) =
    subst (λ (x : DisbursedLoan). AreEntries x.periods x.day (x.entries ++ e ∷ [])) (sym is.account_is) taken.entries in
    let all : AreEntered k.day s l.loan.periods is.day (l.entries ++ e ∷ []) = record {
      lawful = lawful;
      each = all_push (IsEntryBy k.day s) l.entries e (entered_at k s clients l is.day is.day_is was).each by;
    } in
    record {
      client = was.client;
      product = was.product;
      stage = was.stage;
      entries = subst (λ d. AreEntriesBy k.day s l.loan.periods d (l.entries ++ e ∷ [])) (sym is.day_is) all;
    }

-- what is asked of an entry that is offered holds of the next one of an account, where its columns are its kind's
next_offered : (k : Catalogue) (s : Caller → Bool) (clients : List (List ℕ)) (l : Ledger) (a : DisbursedLoan)
    (e : Entry)
    → e.seq ≡ length a.entries + 1 → e.reversed ≡ false → HasForm e.kind k.day e → IsSoundLoan k s clients l
    → account_in k l ≡ Some a → IsOffered a e k.day
next_offered k s clients l a e next stands form was h =
    let is : IsRunning k l a = account_is k l a h in
    record {
      next = next;
      stands = stands;
      disbursed = subst (λ (x : DisbursedLoan). x.day ≤ k.day) is.account_is
          (day_of_stage k.day l.loan.stage is.day is.day_is
          was.stage);
      latest = subst (λ (x : DisbursedLoan). (i : ℕ) → i < length x.entries → (entry_at x.entries i).day ≤ k.day)
          is.account_is (days_by k.day s l.entries (entered_at k s clients l is.day is.day_is was).each);
      form = form;
    }

pub repayment_offered : (k : Catalogue) (s : Caller → Bool) (clients : List (List ℕ)) (l : Ledger) (a : DisbursedLoan)
    (asked : Repayment) (staff : Caller) → IsRepayment asked → IsSoundLoan k s clients l → account_in k l ≡ Some a
    → IsOffered a (repayment asked staff a) k.day
repayment_offered k s clients l a asked staff r =
    next_offered k s clients l a (repayment asked staff a) refl refl (r.0.0, r.0.1, refl, refl)

never_principal : (p : Waivable) → portion_of p ≢ Principal
never_principal Penalties = λ is. cc
never_principal Fees = λ is. cc
never_principal Interest = λ is. cc

-- a posting is the next entry, stands, and has its kind's columns
pub record IsNext (a : DisbursedLoan) (today : ℕ) (e : Entry) : Type 0 where
  pub next : e.seq ≡ length a.entries + 1
  pub stands : e.reversed ≡ false
  pub form : HasForm e.kind today e

pub posting_is_next : (asked : Posting) (staff : Caller) (today : ℕ) (a : DisbursedLoan)
    → IsNext a today (posting asked staff today a)
posting_is_next (Penalty instalment) staff today a = record { next = refl; stands = refl; form = (refl, refl, refl) }
posting_is_next (Waiver instalment portion) staff today a =
    record { next = refl; stands = refl; form = (refl, refl, never_principal portion, refl) }
posting_is_next WriteOff staff today a = record { next = refl; stands = refl; form = (refl, refl, refl, refl, refl) }
posting_is_next Refund staff today a = record { next = refl; stands = refl; form = (refl, refl, refl, refl, refl) }

-- a posting counts from the business day, and carries no receipt
posting_by : (asked : Posting) (staff : Caller) (today : ℕ) (s : Caller → Bool) (a : DisbursedLoan) → s staff ≡ true
    → IsEntryBy today s (posting asked staff today a) × ((posting asked staff today a).receipt ≡ None)
posting_by (Penalty instalment) staff today s a there =
    (record { day = omega arith; staff = there; receipt = tt }, refl)
posting_by (Waiver instalment portion) staff today s a there =
    (record { day = omega arith; staff = there; receipt = tt }, refl)
posting_by WriteOff staff today s a there = (record { day = omega arith; staff = there; receipt = tt }, refl)
posting_by Refund staff today s a there = (record { day = omega arith; staff = there; receipt = tt }, refl)

in_order : (a : DisbursedLoan) (asked : Repayment) (staff : Caller) (today : ℕ)
    → refusal_of a (repayment asked staff a) today
    ≡ None → asked.day ≤ today
in_order a asked staff today h =
    let order : (nat_lt asked.day a.day || nat_lt today asked.day) ≡ false =
    dated_in_order a (repayment asked staff a) today h in
    grind (arith, nat_tests)

-- an entry that its account may take
record IsMade (k : Catalogue) (s : Caller → Bool) (rows : Rows) (a : DisbursedLoan) (e : Entry) : Type 0 where
  offered : IsOffered a e k.day
  by : IsEntryBy k.day s e
  free : used_before e.receipt (uses_from 1 rows.loans) ≡ None

-- nothing refuses it
none_refused : (first next : Option Fault) → fault_or first next ≡ None → next ≡ None
none_refused None next h = h
none_refused (Some fault) next h = absurd (cc)

unless_fault_ok : (refusal : Option Fault) (tell told : LoanReply) (becomes change : LedgerChange)
    → unless_fault refusal tell becomes ≡ Ok (told, Some change) → (refusal ≡ None) × (becomes ≡ change)
unless_fault_ok (Some fault) tell told becomes change h = absurd (cc)
unless_fault_ok None tell told becomes change h =
    (refl, changed tell told becomes change (ok_of (success tell (Some becomes)) (success told (Some change)) h))

-- an entry that is made leaves its loan sound
enter_sound : (first : DisbursedLoan → Option Fault) (make : ℕ → DisbursedLoan → Entry) (k : Catalogue)
    (s : Caller → Bool)
    (rows : Rows) (n : ℕ) (l : Ledger) (told : LoanReply) (change : LedgerChange) → IsSoundCatalogue k
    → IsLoanOf k s rows l → ((a : DisbursedLoan) → account_in k l ≡ Some a → refusal_of a (make k.day a) k.day ≡ None
    → IsMade k s rows a (make k.day a)) → enter first make k (account_in k l) ≡ Ok (told, Some change)
    → KeepsLoan k s rows n l change
enter_sound first make k s rows n l told change catalogue was made h = at (account_in k l) refl h
  where
    at : (o : Option DisbursedLoan) → account_in k l ≡ o → enter first make k o ≡ Ok (told, Some change)
        → KeepsLoan k s rows n l change
    at None is h = absurd (cc)
    at (Some a) is h =
        let e : Entry = make k.day a in
        let taken = unless_fault_ok (fault_or (first a) (refusal_of a (make k.day a) k.day))
        (Entered (make k.day a).seq) told (with_new_entry (make k.day a)) change h in
        let none : refusal_of a (make k.day a) k.day ≡ None =
        none_refused (first a) (refusal_of a (make k.day a) k.day) taken.0 in
        let m : IsMade k s rows a (make k.day a) = made a is none in
        subst (KeepsLoan k s rows n l) taken.1 (record {
          sound = entered_sound k s rows.clients l a (make k.day a) catalogue was.sound is m.offered none m.by;
          apart = apart_entered n (make k.day a) rows.loans m.free was.apart;
          known = known_entered n (make k.day a) rows.loans m.free;
        })

-- a repayment that is entered carries no receipt that was used
unless_known_ok : (n : ℕ) (asked : Repayment) (o : Option Use) (next : Result (LoanReply × Option LedgerChange) Fault)
    (told : LoanReply) (change : LedgerChange) → unless_known n asked o next ≡ Ok (told, Some change) → (o ≡ None)
    × (next ≡ Ok (told, Some change))
unless_known_ok n asked None next told change h = (refl, h)
unless_known_ok n asked (Some u) next told change h = absurd (never (repeated_seq n asked.amount asked.day u.by) h)
  where
    never : (r : Result ℕ Fault) → repeat_of r ≡ Ok (told, Some change) → ⊥
    never (Err e) h = cc
    never (Ok seq) h =
        not_changed (Repeated seq) told change (ok_of (success (Repeated seq) None) (success told (Some change)) h)

repayment_made : (asked : Repayment) (c : Caller) (k : Catalogue) (s : Caller → Bool) (rows : Rows) (l : Ledger)
    (a : DisbursedLoan) → s c ≡ true → IsRepayment asked → IsLoanOf k s rows l
    → used_before asked.receipt (uses_from 1 rows.loans) ≡ None → account_in k l ≡ Some a
    → refusal_of a (repayment asked c a) k.day ≡ None → IsMade k s rows a (repayment asked c a)
repayment_made asked c k s rows l a there r was free is none = record {
  offered = repayment_offered k s rows.clients l a asked c r was.sound is;
  by = record { day = in_order a asked c k.day none; staff = there; receipt = r.2 };
  free = free;
}

fee_made : (charge : ChargeDef) (due : ℕ) (c : Caller) (k : Catalogue) (s : Caller → Bool) (rows : Rows) (l : Ledger)
    (a : DisbursedLoan) → s c ≡ true → IsLoanOf k s rows l → account_in k l ≡ Some a
    → IsMade k s rows a (fee charge due c k.day a)
fee_made charge due c k s rows l a there was is = record {
  offered = next_offered k s rows.clients l a (fee charge due c k.day a) refl refl (refl, refl, refl) was.sound is;
  by = record { day = omega arith; staff = there; receipt = tt };
  free = refl;
}

posting_made : (asked : Posting) (c : Caller) (k : Catalogue) (s : Caller → Bool) (rows : Rows) (l : Ledger)
    (a : DisbursedLoan) → s c ≡ true → IsLoanOf k s rows l → account_in k l ≡ Some a
    → IsMade k s rows a (posting asked c k.day a)
posting_made asked c k s rows l a there was is =
    let by = posting_by asked c k.day s a there in
    let n = posting_is_next asked c k.day a in
    record {
      offered = next_offered k s rows.clients l a (posting asked c k.day a) n.next n.stands n.form was.sound is;
      by = by.0;
      free = ap (λ receipt. used_before receipt (uses_from 1 rows.loans)) by.1;
    }

-- a reversed entry leaves the others as they are
all_marked : (P : Entry → Type 0) → ((e : Entry) → P e → P (record e { reversed = true })) → (at : ℕ) (es : List Entry)
    → AllByRecursion P es → AllByRecursion P (with_mark es at true)
all_marked P keeps at [] all = tt
all_marked P keeps zero (e ∷ es) all = (keeps e all.0, all.1)
all_marked P keeps (suc at) (e ∷ es) all = (all.0, all_marked P keeps at es all.1)

entry_by_marked : (today : ℕ) (s : Caller → Bool) (e : Entry) → IsEntryBy today s e
    → IsEntryBy today s (record e { reversed = true })
entry_by_marked today s e by = record { day = by.day; staff = by.staff; receipt = by.receipt }

-- an entry that may be reversed is there
there_among : (n seq : ℕ) → is_instalment_number n seq ≡ true → seq - 1 < n
there_among n seq h =
    let first : nat_le 1 seq ≡ true = and_left (nat_le 1 seq) (nat_le seq n) h in
    let last : nat_le seq n ≡ true = and_right (nat_le 1 seq) (nat_le seq n) h in
    let some : 1 ≤ seq = grind (arith, nat_tests) in
    let most : seq ≤ n = grind (arith, nat_tests) in
    omega (arith, some, most)

reversible : (es : List Entry) (seq : ℕ) → reversal_refused es seq ≡ None → seq - 1 < length es
reversible es seq h = either (is_instalment_number (length es) seq) refl h
  where
    either : (b : Bool) → is_instalment_number (length es) seq ≡ b → cond (not b) (Some F12)
        (cond (entry_at es (seq - 1)).reversed (Some F13)
        (cond (is_sealed es && not (is_seal (entry_at es (seq - 1)).kind)) (Some F11) None)) ≡ None
        → seq - 1 < length es
    either false is h = absurd (cc)
    either true is h = there_among (length es) seq is

-- a reversal leaves its loan sound
reversed_sound : (seq : ℕ) (k : Catalogue) (s : Caller → Bool) (clients : List (List ℕ)) (l : Ledger)
    (a : DisbursedLoan)
    → IsSoundCatalogue k → IsSoundLoan k s clients l → account_in k l ≡ Some a → reversal_refused a.entries seq ≡ None
    → IsSoundLoan k s clients (with_reversal seq l)
reversed_sound seq k s clients l a c was h none =
    let is : IsRunning k l a = account_is k l a h in
    let sound : IsSoundDisbursed a = account_sound k s clients l a c was h in
    let without : IsSoundDisbursed (record a { entries = with_mark a.entries (seq - 1) true }) =
    sound-reversed a (seq - 1) sound (reversible a.entries seq none) in
    let lawful : AreEntries l.loan.periods is.day (with_mark l.entries (seq - 1) true) = subst (λ (x : DisbursedLoan).
    AreEntries x.periods x.day (with_mark x.entries (seq - 1) true)) (sym is.account_is) without.entries in
    let all : AreEntered k.day s l.loan.periods is.day (with_mark l.entries (seq - 1) true) = record {
      lawful = lawful;
      each = all_marked (IsEntryBy k.day s) (entry_by_marked k.day s) (seq - 1) l.entries
          (entered_at k s clients l is.day is.day_is was).each;
    } in
    record {
      client = was.client;
      product = was.product;
      stage = was.stage;
      entries = subst (λ d. AreEntriesBy k.day s l.loan.periods d (with_mark l.entries (seq - 1) true))
          (sym is.day_is) all;
    }

reverse_sound : (seq : ℕ) (k : Catalogue) (s : Caller → Bool) (rows : Rows) (n : ℕ) (l : Ledger) (told : LoanReply)
    (change : LedgerChange) → IsSoundCatalogue k → IsLoanOf k s rows l → reverse seq (account_in k l)
    ≡ Ok (told, Some change) → KeepsLoan k s rows n l change
reverse_sound seq k s rows n l told change catalogue was h = at (account_in k l) refl h
  where
    uses : uses_from 1 (with_numbered n (with_reversal seq) rows.loans) ≡ uses_from 1 rows.loans
    uses = uses_with n 1 (with_reversal seq) rows.loans (λ x m. uses_marked m (seq - 1) x.entries)

    at : (o : Option DisbursedLoan) → account_in k l ≡ o → reverse seq o ≡ Ok (told, Some change)
        → KeepsLoan k s rows n l change
    at None is h = absurd (cc)
    at (Some a) is h =
        let taken = unless_fault_ok (reversal_refused a.entries seq) (Reversed seq) told (with_reversal seq) change h in
        subst (KeepsLoan k s rows n l) taken.1 (record {
          sound = reversed_sound seq k s rows.clients l a catalogue was.sound is taken.0;
          apart = subst AreApart (sym uses) was.apart;
          known = known_same (uses_from 1 rows.loans) (uses_from 1 (with_numbered n (with_reversal seq) rows.loans))
              uses;
        })

not_told : (tell told : LoanReply) (change : LedgerChange) → ok (success tell None) ≡ Ok (success told (Some change))
    → ⊥
not_told tell told change h = not_changed tell told change (ok_of (success tell None) (success told (Some change)) h)

change_sound : (asked : LoanRequest) (c : Caller) (k : Catalogue) (s : Caller → Bool) (rows : Rows) (n : ℕ) (l : Ledger)
    (told : LoanReply) (change : LedgerChange) → IsSoundCatalogue k → s c ≡ true → IsLoanInRange asked
    → IsLoanOf k s rows l → on_loan asked c k rows n l ≡ Ok (told, Some change) → KeepsLoan k s rows n l change
change_sound Show c k s rows n l told change catalogue there r was h =
    absurd (not_told (Shown (statement k l)) told change h)
change_sound ShowInstalments c k s rows n l told change catalogue there r was h =
    absurd (not_told (Instalments (instalments_in k l)) told change h)
change_sound ShowEntries c k s rows n l told change catalogue there r was h =
    absurd (not_told (Entries (entries_in k l)) told change h)
change_sound (Take step) c k s rows n l told change catalogue there r was h =
    step_sound step k s rows n l told change was h
change_sound (Repay asked) c k s rows n l told change catalogue there r was h =
    let fresh = unless_known_ok n asked (used_before asked.receipt (uses_from 1 rows.loans))
    (enter none_first (λ today. repayment asked c) k (account_in k l)) told change h in
    enter_sound none_first (λ today. repayment asked c) k s rows n l told change catalogue was (λ a is none.
    repayment_made asked c k s rows l a there r was fresh.0 is none) fresh.1
change_sound (ChargeFee charge due) c k s rows n l told change catalogue there r was h =
    let found = where_found_ok (charge_in k charge) _ (told, Some change) h in
    enter_sound (fee_first due) (fee found.0 due c) k s rows n l told change catalogue was (λ a is none.
    fee_made found.0 due c k s rows l a there was is) found.2
change_sound (Post asked) c k s rows n l told change catalogue there r was h =
    enter_sound none_first (posting asked c) k s rows n l told change catalogue was (λ a is none. posting_made asked c k
    s rows l a there was is) h
change_sound (Reverse seq) c k s rows n l told change catalogue there r was h =
    reverse_sound seq k s rows n l told change catalogue was h

changed_rows : (n : ℕ) (change : LedgerChange) (k : Catalogue) (staffed : Caller → Bool) (rows : Rows) (l : Ledger)
    → item_numbered rows.loans n ≡ Some l → KeepsLoan k staffed rows n l change → IsSoundRows k staffed rows
    → AreRowsAfter k staffed rows (loan_changed n change rows)
changed_rows n change k staffed rows l there now s = (
  record {
    staff_limit = s.staff_limit;
    staff_names = s.staff_names;
    client_limit = s.client_limit;
    client_names = s.client_names;
    loan_limit = rw (length_with n change rows.loans) s.loan_limit;
    loans = all_with_at (IsSoundLoan k staffed rows.clients) n change rows.loans l there now.sound s.loans;
    receipts = now.apart;
  },
  (λ m there. there),
  now.known,
)

loan_keeps : (account : Account) (asked : LoanRequest) (c : Caller) → IsLoanInRange asked → (k : Catalogue) (s : Caller
    → Bool) → IsSoundCatalogue k → s c ≡ true
    → KeepsRows k s (λ k f. in_loan account (on_loan asked c k f.rows account.number) f.rows)
loan_keeps account asked c r k staffed catalogue there_is f reply new s h =
    let there = where_found_ok (item_numbered f.rows.loans account.number) _ (reply, Some new) h in
    let was : IsLoanOf k staffed f.rows there.0 = record {
      sound = all_at (IsSoundLoan k staffed f.rows.clients)
          f.rows.loans account.number there.0 s.loans there.1;
      apart = s.receipts;
    } in
    become there.0 there.1 (on_loan asked c k f.rows account.number there.0) (λ told change. change_sound asked c k
    staffed f.rows account.number there.0 told change catalogue there_is r was) there.2
  where
    become : (l : Ledger) → item_numbered f.rows.loans account.number ≡ Some l
        → (o : Result (LoanReply × Option LedgerChange) Fault) → ((told : LoanReply) (change : LedgerChange)
        → o ≡ Ok (told, Some change) → KeepsLoan k staffed f.rows account.number l change) → of_loan account f.rows o
        ≡ Ok (reply, Some new) → AreRowsAfter k staffed f.rows new
    become l is (Err e) by h = absurd (cc)
    become l is (Ok (told, None)) by h = absurd (not_changed (Loan account told) reply new
        (ok_of (success (Loan account told) None) (success reply (Some new)) h))
    become l is (Ok (told, Some change)) by h =
        let rows = loan_changed account.number change f.rows in
        let same : rows ≡ new = changed (Loan account told) reply rows new (ok_of (success (Loan account told)
        (Some rows)) (success reply (Some new)) h) in
        subst (AreRowsAfter k staffed f.rows) same (changed_rows account.number change k staffed f.rows l is
        (by told change refl) s)

-- the catalogue's acts
same_lends : (k l : Catalogue) → k.products ≡ l.products → k.day ≤ l.day → ((n : ℕ) (t : Terms) → terms_in k n ≡ Some t
    → terms_in l n ≡ Some t) → Grows k l
same_lends k l same d terms = record {
  day = d;
  terms = terms;
  products = λ n principal periods h.
      ap (λ (ps : List ListedProduct). lends (option_map (product_of n) (item_numbered ps n)) principal periods)
      (sym same) ∙ h;
}

day_shown_keeps : KeepsCatalogue show_day
day_shown_keeps k reply l s h =
    absurd (not_changed (DayShown k.day) reply l (ok_of (success (DayShown k.day) None) (success reply (Some l)) h))

day_sound : (day : ℕ) → day ≤ last_entered_day → KeepsCatalogue (set_day day)
day_sound day d k reply l s h =
    let set = cond_ok (nat_lt k.day day) (Ok (DaySet day, Some (day_set day k))) F17 (reply, Some l) h in
    let later : k.day ≤ day = grind (arith, nat_tests) in
    let same : day_set day k ≡ l = changed (DaySet day) reply (day_set day k) l
    (ok_of (success (DaySet day) (Some (day_set day k))) (success reply (Some l)) set.1) in
    subst (λ (x : Catalogue). IsSoundCatalogue x × Grows k x) same (
      record {
        day = d;
        charge_limit = s.charge_limit;
        charges = s.charges;
        product_limit = s.product_limit;
        products = s.products;
      },
      same_lends k (day_set day k) refl later (λ n t given. given),
    )

offer_stays : (k : Catalogue) (c : ListedCharge) (p : ListedProduct) → IsSoundOffer (charge_in k) p
    → IsSoundOffer (charge_in (charge_added c k)) p
offer_stays k c p s = record {
  members = s.members;
  consistent = consistent_grows (charge_in k)
      (charge_in (charge_added c k)) p.members (λ n d. charge_stays k.charges c n d) s.consistent;
}

charge_sound : (c : ListedCharge) → IsSoundCharge c → KeepsCatalogue (add_charge c)
charge_sound c n k reply l s h =
    let made = with_value_ok (next_of (length k.charges) 999) (λ (m : ℕ). (ChargeMade m, Some (charge_added c k)))
    (reply, Some l) h in
    subst (λ (x : Catalogue). IsSoundCatalogue x × Grows k x) (changed _ reply (charge_added c k) l made.2) (
      record {
        day = s.day;
        charge_limit = length_push k.charges c 999 (next_below (length k.charges) 999 made.0 made.1);
        charges = all_push IsSoundCharge k.charges c s.charges n;
        product_limit = s.product_limit;
        products = all_map (IsSoundOffer (charge_in k)) (IsSoundOffer (charge_in (charge_added c k))) k.products
            (offer_stays k c) s.products;
      },
      same_lends k (charge_added c k) refl (omega arith) (λ n t. terms_charge k c n t s.products),
    )

charge_shown_keeps : (n : ℕ) → KeepsCatalogue (show_charge n)
charge_shown_keeps n k reply l s h =
    let shown = with_found_ok {B = Reply × Option Catalogue} (charge_in k n) (λ charge. (ChargeShown charge, None))
    (reply, Some l) h in
    absurd (not_changed _ reply l shown.1)

product_shown_keeps : (n : ℕ) → KeepsCatalogue (show_product n)
product_shown_keeps n k reply l s h =
    let shown = with_found_ok {B = Reply × Option Catalogue} (product_in k n) (λ product. (ProductShown product, None))
    (reply, Some l) h in
    absurd (not_changed _ reply l shown.1)

product_stays : (products : List ListedProduct) (p : ListedProduct) (n principal periods : ℕ)
    → lends (option_map (product_of n) (item_numbered products n)) principal periods ≡ true
    → lends (option_map (product_of n) (item_numbered (products ++ p ∷ []) n)) principal periods ≡ true
product_stays products p n principal periods h = found (item_numbered products n) refl h
  where
    found : (o : Option ListedProduct) → item_numbered products n ≡ o
        → lends (option_map (product_of n) o) principal periods
        ≡ true → lends (option_map (product_of n) (item_numbered (products ++ p ∷ []) n)) principal periods ≡ true
    found None e h = absurd (cc)
    found (Some q) e h = ap (λ (o : Option ListedProduct). lends (option_map (product_of n) o) principal periods)
        (numbered_push products p n q e) ∙ h

product_sound : (members : ProductMembers) → AreMembers members → KeepsCatalogue (add_product members)
product_sound members n k reply l s h =
    let there = cond_ok (charges_there (charge_in k) members) _ F4 (reply, Some l) h in
    let consistent = cond_ok (is_consistent (charge_in k) members) _ F8 (reply, Some l) there.1 in
    let made = with_value_ok (next_of (length k.products) 999)
    (λ (m : ℕ). (ProductMade m, Some (product_added members k))) (reply, Some l) consistent.1 in
    subst (λ (x : Catalogue). IsSoundCatalogue x × Grows k x) (changed _ reply (product_added members k) l made.2) (
      record {
        day = s.day;
        charge_limit = s.charge_limit;
        charges = s.charges;
        product_limit = length_push k.products (record { members = members; retired = false }) 999
            (next_below (length k.products) 999 made.0 made.1);
        products = all_push (IsSoundOffer (charge_in k)) k.products (record { members = members; retired = false })
            s.products (record { members = n; consistent = consistent.0 });
      },
      record {
        day = omega arith;
        products = λ m principal periods. product_stays k.products (record { members = members; retired = false }) m
            principal periods;
        terms = λ m t. terms_push k (record { members = members; retired = false }) m t;
      },
    )

retired_stays : (charges : ℕ → Option ChargeDef) (p : ListedProduct) → IsSoundOffer charges p
    → IsSoundOffer charges (record p { retired = true })
retired_stays charges p s = record { members = s.members; consistent = s.consistent }

retire_sound : (n : ℕ) → KeepsCatalogue (retire_product n)
retire_sound n k reply l s h =
    let there = where_found_ok (product_in k n) _ (reply, Some l) h in
    let retired = not_cond_ok there.0.retired (Ok (ProductRetired n, Some (product_retired n k))) F7 (reply, Some l)
    there.2 in
    let same : product_retired n k ≡ l = changed (ProductRetired n) reply (product_retired n k) l
    (ok_of (success (ProductRetired n) (Some (product_retired n k))) (success reply (Some l)) retired) in
    let retire = λ (p : ListedProduct). record p { retired = true } in
    subst (λ (x : Catalogue). IsSoundCatalogue x × Grows k x) same (
      record {
        day = s.day;
        charge_limit = s.charge_limit;
        charges = s.charges;
        product_limit = rw (length_with n (λ (p : ListedProduct). record p { retired = true }) k.products)
            s.product_limit;
        products = all_with (IsSoundOffer (charge_in k)) n (λ (p : ListedProduct). record p { retired = true })
            k.products
            (retired_stays (charge_in k)) s.products;
      },
      record {
        day = omega arith;
        products = λ m principal periods lent. lends_by_members m m principal periods
            (item_numbered (product_retired n k).products m) (item_numbered k.products m)
            (numbered_with (λ (p : ListedProduct). p.members) n (λ (p : ListedProduct). record p { retired = true })
            k.products
            (λ p. refl) m) ∙ lent;
        terms = λ m t. terms_with k (product_retired n k).products m t
            (numbered_with (λ (p : ListedProduct). p.members) n
            (λ (p : ListedProduct). record p { retired = true }) k.products (λ p. refl) m);
      },
    )

catalogue_keeps : (asked : CatalogueRequest) → IsCatalogueInRange asked → KeepsCatalogue (on_catalogue asked)
catalogue_keeps ShowDay r = day_shown_keeps
catalogue_keeps (SetDay day) r = day_sound day r
catalogue_keeps (AddCharge name kind calc value) r =
    charge_sound (record { name = name; kind = kind; calc = calc; value = value }) (record { name = r.0; value = r.1 })
catalogue_keeps (ShowCharge charge) r = charge_shown_keeps charge
catalogue_keeps (AddProduct members) r = product_sound members r
catalogue_keeps (ShowProduct product) r = product_shown_keeps product
catalogue_keeps (RetireProduct product) r = retire_sound product

-- what a request of a member of staff changes is sound, if its members lie in their ranges
effect_sound : (c : Caller) (request : Request) (i : Institution) (change : Change) → is_staff i.offices c ≡ true
    → IsSound i → IsInRange request → sender_effect (Some c) (plan request) i ≡ Some change → IsSoundChange i change
effect_sound c (request.Unreadable flaw) i change b s r h = absurd (cc)
effect_sound c (request.Catalogue asked) i change b s r h =
    catalogue_sound (on_catalogue asked) i change s (catalogue_keeps asked r) h
effect_sound c (request.Office office asked) i change b s r h = office_sound office (λ k f. on_office asked office k
    f.rows) i change s (office_keeps office asked r i.catalogue (is_staff i.offices)) h
effect_sound c (request.Loan loan asked) i change b s r h = office_sound loan.office
    (λ k f. in_loan loan (on_loan asked c k f.rows loan.number) f.rows) i change s (loan_keeps loan asked c r.1
    i.catalogue (is_staff i.offices) s.catalogue b) h
effect_sound c request.SeenOffices i change b s r h = absurd (cc)
effect_sound c request.SeenArrears i change b s r h = absurd (cc)
effect_sound c (request.NewOffice number parent name) i change b s r h =
    let is : Office_added number parent name ≡ change = cc in subst (IsSoundChange i) is (r.0, r.2)

-- whoever sends an accepted request is there
sender_there : (c : Caller) (request : Request) (p : Result Plan Fault) (i : Institution) (change : Change)
    → change_in (sent_by (Some c) request p i) ≡ Some change → is_staff i.offices c ≡ true
sender_there c request (Err e) i change h = absurd (cc)
sender_there c request (Ok p) i change h = there (staff_at i c) h
  where
    there : (o : Option Staff) → change_in (where_permitted c request p o i) ≡ Some change → is_some o ≡ true
    there None h = absurd (cc)
    there (Some staff) h = refl

pub by_sound : (caller : Option Caller) (request : Request) (i : Institution) (change : Change) → IsSound i
    → IsInRange request → change_in (sent_by caller request (plan request) i) ≡ Some change
    → sender_effect caller (plan request) i ≡ Some change → IsSoundChange i change
by_sound None request i change s r sent h = nobody (plan request) h
  where
    nobody : (p : Result Plan Fault) → sender_effect None p i ≡ Some change → IsSoundChange i change
    nobody (Err e) h = absurd (cc)
    nobody (Ok p) h = absurd (cc)
by_sound (Some c) request i change s r sent h =
    effect_sound c request i change (sender_there c request (plan request) i change sent) s r h

-- an accepted request leaves a sound institution
pub accepted_sound : (call : Call) (i : Institution) (change : Change) → IsSound i → IsInRange call.request
    → change_in (outcome call i) ≡ Some change → IsSound (after change i)
accepted_sound call i change s r h =
    let k = known_line call.caller call.request (plan call.request) i change s.tree refl h in
    sound_after change i s k.fits (by_sound call.caller call.request i change s r h k.made_is)

-- what is noted doesn't matter
pub noted_sound : (noted : Noted) (change : Change) (i : Institution) → IsSound (after change i)
    → IsSound (after_noted noted change i)
noted_sound noted change i s = record { catalogue = s.catalogue; tree = s.tree; each = s.each }

pub next_sound : (l : Line) (i : Institution) → IsSound i → IsInRange l.call.request → IsSound (next l i)
next_sound l i s r = step l.given_up (change_in (outcome l.call i)) refl
  where
    step : (g : Bool) (c : Option Change) → change_in (outcome l.call i) ≡ c
        → IsSound (after_line (noted_of l.call i) (cond g None c) i)
    step true c e = s
    step false None e = s
    step false (Some change) e = noted_sound (noted_of l.call i) change i (accepted_sound l.call i change s r e)

pub last_sound : (ls : List Line) (i : Institution) → IsSound i → AreInRange ls → IsSound (last ls i)
last_sound [] i s r = s
last_sound (l ∷ ls) i s r = last_sound ls (next l i) (next_sound l i s r.0) r.1

-- a new institution
head_office_name : IsName (codes "Head Office")
unfolding chars is_utf8 encode
head_office_name = record {
  text = IsUtf8-from_is_utf8 (codes "Head Office") refl;
  some = omega arith;
  most = omega arith;
  plain = refl;
}

head_manager_name : IsName (codes "Head Manager")
unfolding chars is_utf8 encode
head_manager_name = record {
  text = IsUtf8-from_is_utf8 (codes "Head Manager") refl;
  some = omega arith;
  most = omega arith;
  plain = refl;
}

pub new_sound : (day : ℕ) → day ≤ last_entered_day → IsSound (newly_made day)
new_sound day h = record {
  catalogue = record { day = h; charge_limit = omega arith; charges = tt; product_limit = omega arith; products = tt };
  tree = IsTree_new day;
  each = (
    record {
      number = (omega arith, omega arith);
      name = head_office_name;
      rows = record {
        staff_limit = omega arith;
        staff_names = (head_manager_name, tt);
        client_limit = omega arith;
        client_names = tt;
        loan_limit = omega arith;
        loans = tt;
        receipts = tt;
      };
    },
    tt,
  );
}

-- the offices of a sound institution are a tree as the keys of offices know it
number_sound : (k : Catalogue) (s : Caller → Bool) (fs : List Office) (x : ℕ) → AllByRecursion (IsSoundOffice k s) fs
    → is_there fs x ≡ true → IsNumberUpTo 9999 x
number_sound k s [] x a h = absurd (cc)
number_sound k s (f ∷ fs) x a h = either (f.number == x) refl (number_sound k s fs x a.1) h
  where
    either : (b : Bool) → (f.number == x) ≡ b → (is_there fs x ≡ true → IsNumberUpTo 9999 x)
        → is_some (cond b (Some f) (office_at x fs)) ≡ true → IsNumberUpTo 9999 x
    either true e rest h = let same : f.number ≡ x =
        grind (arith, nat_tests) in subst (IsNumberUpTo 9999) same a.0.number
    either false e rest h = rest h

pub sound_tree : (i : Institution) → IsSound i → IsTreeOf (is_there i.offices) (parent_of i.offices)
sound_tree i s = record {
  numbered = λ x there. number_sound i.catalogue (is_staff i.offices) i.offices x s.each there;
  head_there = s.tree.head_there;
  head = s.tree.head;
  parents_there = λ x p there e. s.tree.parents_there x p e;
  all_below = s.tree.all_below;
}
