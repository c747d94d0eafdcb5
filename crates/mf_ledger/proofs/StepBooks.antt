-- What one accepted request moves of an institution's books.
use Rattle.std.proofs.Common.{◌≡◌, ℕ, Bool, true, false, cond, List, [], ◌∷◌, ◌++◌, length, Option, Some, None}
use Rattle.std.proofs.Common.{Result, Ok, Err, refl, sym, ap, ◌∙◌, subst, arith}
use Rattle.std.specs.Prelude.{◌==◌, option_map, ℤ, pos, ◌+ℤ◌, ◌-ℤ◌}
use Rattle.std.proofs.lemmas.Bool.Decides.{nat_tests}
use Rattle.std.proofs.lemmas.Int.{ints}
use Rattle.mf_base.specs.declared.fault.Fault.{Fault}
use Rattle.mf_catalog.specs.declared.charge.ChargeDef.{ChargeDef}
use Rattle.mf_catalog.specs.declared.product.Product.{Product}
use Rattle.mf_catalog.specs.Product.{lending}
use Rattle.mf_office.specs.declared.account.Account.{Account}
use Rattle.mf_office.specs.declared.caller.Caller.{Caller}
use Rattle.mf_account.specs.declared.entry.Entry.{Entry}
use Rattle.mf_account.specs.Loan.{DisbursedLoan}
use Rattle.mf_account.specs.Refusals.{refusal_of, reversal_refused}
use Rattle.mf_model.specs.declared.loan.Stage.{Stage}
use Rattle.mf_model.specs.declared.reply.LoanReply.{LoanReply}
use Rattle.mf_model.specs.declared.reply.LoanReply.TheVariants.{Status}
use Rattle.mf_model.specs.declared.reply.Reply.{Reply}
use Rattle.mf_model.specs.declared.request.Application.{Application}
use Rattle.mf_model.specs.declared.request.LoanRequest.{LoanRequest}
use Rattle.mf_model.specs.declared.request.LoanRequest.TheVariants.{Show, ShowInstalments, ShowEntries, Take, Repay}
use Rattle.mf_model.specs.declared.request.LoanRequest.TheVariants.{ChargeFee, Post, Reverse}
use Rattle.mf_model.specs.declared.request.OfficeRequest.{OfficeRequest}
use Rattle.mf_model.specs.declared.request.OfficeRequest.TheVariants.{AddStaff, AddClient, ShowClient, SubmitLoan}
use Rattle.mf_model.specs.declared.request.OfficeRequest.TheVariants.{ListLoans}
use Rattle.mf_model.specs.declared.request.Repayment.{Repayment}
use Rattle.mf_model.specs.declared.request.Request.{Request}
use Rattle.mf_model.specs.declared.request.Request.TheVariants as request
use Rattle.mf_model.specs.Accounts.{account_in}
use Rattle.mf_model.specs.Calls.{Call}
use Rattle.mf_model.specs.Catalogue.{on_catalogue}
use Rattle.mf_model.specs.Desk.{plan, on_office, of_office, in_office, change_in, outcome, sender_effect}
use Rattle.mf_model.specs.Institution.{Institution, Catalogue, Office, Rows, Ledger, Noted, office_at, item_numbered}
use Rattle.mf_model.specs.Institution.{with_rows, new_office, Change, Catalogue_becomes, Rows_become}
use Rattle.mf_model.specs.Institution.{Office_added, after, after_noted, charge_in, product_in}
use Rattle.mf_model.specs.Loans.{LedgerChange, on_loan, loan_changed, loan_added, new_loan, lend, with_stage}
use Rattle.mf_model.specs.Loans.{with_new_entry, with_reversal, none_first, fee_first, enter, repayment, fee, posting}
use Rattle.mf_model.specs.Loans.{unless_fault, fault_or, reverse, repeat_of, unless_known}
use Rattle.mf_model.specs.Offices.{staff_added, client_added}
use Rattle.mf_model.specs.Outcomes.{next_of, with_value, with_found, where_found, unless_refused}
use Rattle.mf_model.specs.Receipts.{Use, uses_from, used_before, repeated_seq}
use Rattle.mf_model.specs.Sound.{IsSound, IsSoundOffice, IsSoundLoan, IsInRange, is_staff}
use Rattle.mf_model.specs.Stages.{next_stage, stage_number}
use Rattle.mf_model.specs.Store.{rows_of, ledger_at}
use Rattle.mf_model.specs.Tree.{IsTree}
use Rattle.mf_model.proofs.Growing.{Grows}
use Rattle.mf_model.proofs.SoundLemmas.{IsSoundChange, by_sound}
use Rattle.mf_model.proofs.StaffLemmas.{rows_found}
use Rattle.mf_model.proofs.Steps.{known_line, catalogue_change}
use Rattle.mf_guarantees.proofs.LoanSteps.{IsPermitted, permitted, loan_changes, change_told, some_same}
use Rattle.mf_guarantees.proofs.MoveLemmas.{numbered_same}
use Rattle.mf_ledger.specs.declared.books.LoanSums.{LoanSums}
use Rattle.mf_ledger.specs.declared.books.Title.{Title}
use Rattle.mf_ledger.specs.Books.{signed_sum, sums_in, amount_on}
use Rattle.mf_ledger.specs.Runs.{Selection, where_meant, loan_balance, office_balance, balance, sums_of}
use Rattle.mf_ledger.specs.Runs.{product_of_loan, loan_postings, transactions_of, posted_by, posted}
use Rattle.mf_ledger.proofs.SignedSums.{sum-same, numbered_changed, rows_changed, office_put_in}
use Rattle.mf_ledger.proofs.LoanBooks.{same_account, same_sums, posted_at, nothing_yet}

-- ---- what becomes of a loan leaves its product

abbrev pub KeepsProduct : Result (LoanReply × Option LedgerChange) Fault → Type 0
KeepsProduct (Err fault) = Unit {0}
KeepsProduct (Ok (told, None)) = Unit {0}
KeepsProduct (Ok (told, Some change)) = (l : Ledger) → (change l).loan.product ≡ l.loan.product

staged : (r : Result Stage Fault)
    → KeepsProduct (with_value r (λ stage. (Status (stage_number stage), Some (with_stage stage))))
staged (Err fault) = tt
staged (Ok stage) = λ l. refl

unless : (fault : Option Fault) (told : LoanReply) (change : LedgerChange)
    → ((l : Ledger) → (change l).loan.product ≡ l.loan.product) → KeepsProduct (unless_fault fault told change)
unless (Some fault) told change keeps = tt
unless None told change keeps = keeps

entering : (first : DisbursedLoan → Option Fault) (make : ℕ → DisbursedLoan → Entry) (k : Catalogue)
    (account : Option DisbursedLoan) → KeepsProduct (enter first make k account)
entering first make k None = tt
entering first make k (Some a) =
    unless (fault_or (first a) (refusal_of a (make k.day a) k.day)) _ (with_new_entry (make k.day a)) (λ l. refl)

repeated : (r : Result ℕ Fault) → KeepsProduct (repeat_of r)
repeated (Err fault) = tt
repeated (Ok seq) = tt

repaying : (asked : Repayment) (c : Caller) (k : Catalogue) (n : ℕ) (l : Ledger) (known : Option Use)
    → KeepsProduct (unless_known n asked known (enter none_first (λ today. repayment asked c) k (account_in k l)))
repaying asked c k n l None = entering none_first (λ today. repayment asked c) k (account_in k l)
repaying asked c k n l (Some u) = repeated (repeated_seq n asked.amount asked.day u.by)

charging : (due : ℕ) (c : Caller) (k : Catalogue) (l : Ledger) (found : Option ChargeDef)
    → KeepsProduct (where_found found (λ d. enter (fee_first due) (fee d due c) k (account_in k l)))
charging due c k l None = tt
charging due c k l (Some d) = entering (fee_first due) (fee d due c) k (account_in k l)

reversing : (seq : ℕ) (account : Option DisbursedLoan) → KeepsProduct (reverse seq account)
reversing seq None = tt
reversing seq (Some a) = unless (reversal_refused a.entries seq) _ (with_reversal seq) (λ l. refl)

pub product_kept : (asked : LoanRequest) (c : Caller) (k : Catalogue) (rows : Rows) (n : ℕ) (l : Ledger)
    → KeepsProduct (on_loan asked c k rows n l)
product_kept Show c k rows n l = tt
product_kept ShowInstalments c k rows n l = tt
product_kept ShowEntries c k rows n l = tt
product_kept (Take step) c k rows n l = staged (next_stage step k.day l.loan.stage)
product_kept (Repay asked) c k rows n l = repaying asked c k n l (used_before asked.receipt (uses_from 1 rows.loans))
product_kept (ChargeFee charge due) c k rows n l = charging due c k l (charge_in k charge)
product_kept (Post asked) c k rows n l = entering none_first (posting asked c) k (account_in k l)
product_kept (Reverse seq) c k rows n l = reversing seq (account_in k l)

pub told_keeps : (r : Result (LoanReply × Option LedgerChange) Fault) (becomes : LedgerChange) (l : Ledger)
    → KeepsProduct r → change_told r ≡ Some becomes → (becomes l).loan.product ≡ l.loan.product
told_keeps (Err fault) becomes l keeps h = absurd (cc)
told_keeps (Ok (told, None)) becomes l keeps h = absurd (cc)
told_keeps (Ok (told, Some change)) becomes l keeps h =
    let is : change ≡ becomes = some_same change becomes h in
    ap (λ (b : LedgerChange). (b l).loan.product) (sym is) ∙ keeps l

-- ---- requests on offices add at most a loan, which has nothing on any account

abbrev pub IsNothing : (Ledger → ℤ) → Type 0
IsNothing read = (asked : Application) → read (record { loan = new_loan asked; entries = [] }) ≡ pos 0

abbrev pub AddsNothing : Rows → Result (Reply × Option Rows) Fault → Type 0
AddsNothing rows (Err fault) = Unit {0}
AddsNothing rows (Ok (told, None)) = Unit {0}
AddsNothing rows (Ok (told, Some new)) =
    (read : Ledger → ℤ) → IsNothing read → signed_sum read new.loans ≡ signed_sum read rows.loans

pushed : (read : Ledger → ℤ) (ls : List Ledger) (new : Ledger) → read new ≡ pos 0
    → signed_sum read (ls ++ new ∷ []) ≡ signed_sum read ls
pushed read [] new none = omega (arith, ints, none)
pushed read (l ∷ ls) new none = let rest = pushed read ls new none in omega (arith, ints, rest)

counted : (rows : Rows) (r : Result ℕ Fault) (told : ℕ → Reply) (new : Rows)
    → ((read : Ledger → ℤ) → IsNothing read → signed_sum read new.loans ≡ signed_sum read rows.loans)
    → AddsNothing rows (with_value r (λ n. (told n, Some new)))
counted rows (Err fault) told new same = tt
counted rows (Ok n) told new same = same

shown : (rows : Rows) (found : Option (List ℕ)) (told : List ℕ → Reply)
    → AddsNothing rows (with_found found (λ name. (told name, None)))
shown rows None told = tt
shown rows (Some name) told = tt

refused : (rows : Rows) (r : Result (Unit {0}) Fault) (next : Result (Reply × Option Rows) Fault)
    → AddsNothing rows next → AddsNothing rows (unless_refused r next)
refused rows (Err fault) next same = tt
refused rows (Ok u) next same = same

lent : (office : ℕ) (asked : Application) (rows : Rows) (found : Option Product)
    → AddsNothing rows (lend office asked found rows)
lent office asked rows None = tt
lent office asked rows (Some p) = refused rows (lending p asked.principal asked.periods) _
    (counted rows (next_of (length rows.loans) 999999) _ (loan_added (new_loan asked) rows)
    (λ read none. pushed read rows.loans (record { loan = new_loan asked; entries = [] }) (none asked)))

submitted : (office : ℕ) (asked : Application) (k : Catalogue) (rows : Rows) (client : Option (List ℕ))
    → AddsNothing rows (where_found client (λ name. lend office asked (product_in k asked.product) rows))
submitted office asked k rows None = tt
submitted office asked k rows (Some name) = lent office asked rows (product_in k asked.product)

pub adds_nothing : (asked : OfficeRequest) (office : ℕ) (k : Catalogue) (rows : Rows)
    → AddsNothing rows (on_office asked office k rows)
adds_nothing (AddStaff name role) office k rows =
    counted rows (next_of (length rows.staff) 9999) _ (staff_added name role rows) (λ read none. refl)
adds_nothing (AddClient name) office k rows =
    counted rows (next_of (length rows.clients) 999999) _ (client_added name rows) (λ read none. refl)
adds_nothing (ShowClient client) office k rows = shown rows (item_numbered rows.clients client) _
adds_nothing (SubmitLoan asked) office k rows =
    submitted office asked k rows (item_numbered rows.clients asked.client)
adds_nothing (ListLoans above) office k rows = tt

-- ---- the balances after a change

pub found_number : (x : ℕ) (fs : List Office) (f : Office) → office_at x fs ≡ Some f → f.number ≡ x
found_number x [] f h = absurd (cc)
found_number x (g ∷ fs) f h = go (g.number == x) refl (found_number x fs f) h
  where
    go : (b : Bool) → (g.number == x) ≡ b → (office_at x fs ≡ Some f → f.number ≡ x)
        → cond b (Some g) (office_at x fs) ≡ Some f → f.number ≡ x
    go true e rest h =
        let same : g ≡ f = some_same g f h in
        let number : g.number ≡ x = grind (arith, nat_tests) in
        ap (λ (o : Office). o.number) (sym same) ∙ number
    go false e rest h = rest h

pub meant_sum : (b : Bool) (old new : ℤ) → where_meant b old +ℤ where_meant b (new -ℤ old) ≡ where_meant b new
meant_sum true old new = omega (arith, ints)
meant_sum false old new = omega (arith, ints)

pub loan_sums : (after before old_office new_office old_loan new_loan old new posted moved : ℤ)
    → after +ℤ old_office ≡ before +ℤ new_office → new_office +ℤ old_loan ≡ old_office +ℤ new_loan → old_loan ≡ old
    → new_loan ≡ new → posted ≡ moved → old +ℤ moved ≡ new → after ≡ before +ℤ (posted +ℤ pos 0)
loan_sums after before old_office new_office old_loan new_loan old new posted moved a b c d e f =
    omega (arith, ints, a, b, c, d, e, f)

pub office_sums : (after before old new : ℤ) → after +ℤ old ≡ before +ℤ new → new ≡ old → after ≡ before
office_sums after before old new a b = omega (arith, ints, a, b)

-- a request on a loan
pub record LedgersAt (loan : Account) (l m : Ledger) (i j : Institution) : Type 0 where
  pub before : ledger_at loan i ≡ Some l
  pub now : ledger_at loan j ≡ Some m

pub ledgers_at : (loan : Account) (i : Institution) (f : Office) (l : Ledger) (becomes : LedgerChange) (noted : Noted)
    → office_at loan.office i.offices ≡ Some f → item_numbered f.rows.loans loan.number ≡ Some l
    → LedgersAt loan l (becomes l) i
    (after_noted noted (Rows_become loan.office (loan_changed loan.number becomes f.rows)) i)
ledgers_at loan i f l becomes noted there found =
    let new : Rows = loan_changed loan.number becomes f.rows in
    let x : ℕ = loan.office in
    let here : office_at x (with_rows x new i.offices) ≡ Some (record f { rows = new }) =
    rows_found x new i.offices ∙ ap (option_map (λ (g : Office). record g { rows = new })) there in
    record {
      before = ap (λ (o : Option Office). item_numbered (rows_of o).loans loan.number) there ∙ found;
      now = ap (λ (o : Option Office). item_numbered (rows_of o).loans loan.number) here
          ∙ numbered_same becomes loan.number f.rows.loans l found;
    }

module _ (title : Title) (meant : Selection) where
  -- what is posted for a request moves the balances
  abbrev pub Moves : Request → ℕ → Institution → Institution → Type 0
  Moves r n i j = balance title meant j ≡ balance title meant i +ℤ posted title meant (transactions_of n r i j)

  loan_moves : (asked : LoanRequest) (loan : Account) (n : ℕ) (i : Institution) (f : Office) (l : Ledger)
      (becomes : LedgerChange) (noted : Noted) → IsTree i.offices → office_at loan.office i.offices ≡ Some f
      → item_numbered f.rows.loans loan.number ≡ Some l → (becomes l).loan.product ≡ l.loan.product
      → Moves (request.Loan loan asked) n i
      (after_noted noted (Rows_become loan.office (loan_changed loan.number becomes f.rows)) i)
  loan_moves asked loan n i f l becomes noted tree there found product =
      let k : Catalogue = i.catalogue in
      let x : ℕ = loan.office in
      let new : Rows = loan_changed loan.number becomes f.rows in
      let j : Institution = after_noted noted (Rows_become x new) i in
      let at = ledgers_at loan i f l becomes noted there found in
      let number : f.number ≡ x = found_number x i.offices f there in
      let m : Ledger = becomes l in
      let b : Bool = meant x l.loan.product in
      let offices = rows_changed (office_balance title meant k) x new i.offices f tree.ascending there in
      let loans = numbered_changed becomes (loan_balance title meant k f.number) loan.number f.rows.loans l found in
      let old : loan_balance title meant k f.number l ≡ where_meant b (amount_on title (sums_in k l)) =
      ap (λ y. where_meant (meant y l.loan.product) (amount_on title (sums_in k l))) number in
      let now : loan_balance title meant k f.number m ≡ where_meant b (amount_on title (sums_in k m)) =
      ap (λ y. where_meant (meant y m.loan.product) (amount_on title (sums_in k m))) number
      ∙ ap (λ p. where_meant (meant x p) (amount_on title (sums_in k m))) product in
      let told = posted_at title meant x (product_of_loan (ledger_at loan i)) (sums_of k (ledger_at loan i))
      (sums_of k (ledger_at loan j)) in
      let read = ap (λ (o : Option Ledger). where_meant (meant x (product_of_loan o))
      (amount_on title (sums_of k (ledger_at loan j)) -ℤ amount_on title (sums_of k o))) at.before
      ∙ ap (λ (o : Option Ledger). where_meant b (amount_on title (sums_of k o) -ℤ amount_on title (sums_in k l)))
      at.now
      in
      let one = meant_sum b (amount_on title (sums_in k l)) (amount_on title (sums_in k m)) in
      loan_sums (balance title meant j) (balance title meant i) (office_balance title meant k f)
      (office_balance title meant k (record f { rows = new })) (loan_balance title meant k f.number l)
      (loan_balance title meant k f.number m) (where_meant b (amount_on title (sums_in k l)))
      (where_meant b (amount_on title (sums_in k m)))
      (signed_sum (posted_by title meant) (loan_postings loan i j))
      (where_meant b (amount_on title (sums_in k m) -ℤ amount_on title (sums_in k l))) offices loans old now
      (told ∙ read) one

  new_is_nothing : (k : Catalogue) (x : ℕ) → IsNothing (loan_balance title meant k x)
  new_is_nothing k x asked = go (meant x asked.product)
    where
      go : (b : Bool) → where_meant b (amount_on title (sums_in k (record { loan = new_loan asked; entries = [] })))
          ≡ pos 0
      go true = nothing_yet title
      go false = refl

  -- a request on an office
  office_told : (i : Institution) (change : Change) (x : ℕ) (f : Office) (noted : Noted)
      (r : Result (Reply × Option Rows) Fault) → IsTree i.offices → office_at x i.offices ≡ Some f
      → AddsNothing f.rows r → change_in (of_office x r) ≡ Some change
      → balance title meant (after_noted noted change i) ≡ balance title meant i
  office_told i change x f noted (Err fault) tree there same h = absurd (cc)
  office_told i change x f noted (Ok (told, None)) tree there same h = absurd (cc)
  office_told i change x f noted (Ok (told, Some new)) tree there same h =
      let is : Rows_become x new ≡ change = some_same (Rows_become x new) change h in
      let offices = rows_changed (office_balance title meant i.catalogue) x new i.offices f tree.ascending there in
      let own = same (loan_balance title meant i.catalogue f.number) (new_is_nothing i.catalogue f.number) in
      ap (λ (c : Change). balance title meant (after_noted noted c i)) (sym is)
      ∙ office_sums (balance title meant (after_noted noted (Rows_become x new) i)) (balance title meant i)
      (office_balance title meant i.catalogue f) (office_balance title meant i.catalogue (record f { rows = new }))
      offices own

  office_moves : (i : Institution) (change : Change) (x : ℕ) (asked : OfficeRequest) (noted : Noted)
      (o : Option Office) → IsTree i.offices → office_at x i.offices ≡ o
      → change_in (in_office x (λ k f. on_office asked x k f.rows) i.catalogue o) ≡ Some change
      → balance title meant (after_noted noted change i) ≡ balance title meant i
  office_moves i change x asked noted None tree there h = absurd (cc)
  office_moves i change x asked noted (Some f) tree there h =
      office_told i change x f noted (on_office asked x i.catalogue f.rows) tree there
      (adds_nothing asked x i.catalogue f.rows) h

  -- the catalogue grows
  same_loans : (k m : Catalogue) (staffed : Caller → Bool) (f : Office) → Grows k m → IsSoundOffice k staffed f
      → office_balance title meant m f ≡ office_balance title meant k f
  same_loans k m staffed f grows is =
      sum-same (IsSoundLoan k staffed f.rows.clients) (loan_balance title meant m f.number)
      (loan_balance title meant k f.number)
      (λ l sound. ap (λ (s : LoanSums). where_meant (meant f.number l.loan.product) (amount_on title s))
      (same_sums k m l (same_account k m grows staffed f.rows.clients l sound))) f.rows.loans is.rows.loans

  catalogue_moves : (i : Institution) (m : Catalogue) (noted : Noted) → IsSound i → Grows i.catalogue m
      → balance title meant (after_noted noted (Catalogue_becomes m) i) ≡ balance title meant i
  catalogue_moves i m noted s grows =
      sum-same (IsSoundOffice i.catalogue (is_staff i.offices)) (office_balance title meant m)
      (office_balance title meant i.catalogue)
      (λ f is. same_loans i.catalogue m (is_staff i.offices) f grows is) i.offices s.each

  nothing_posted : (i : Institution) (j : Institution) → balance title meant j ≡ balance title meant i
      → balance title meant j ≡ balance title meant i +ℤ pos 0
  nothing_posted i j h = omega (arith, ints, h)

  request_moves : (call : Call) (c : Caller) (r : Request) (n : ℕ) (i : Institution) (change : Change)
      (noted : Noted) → IsSound i → IsSoundChange i change → call.request ≡ r
      → change_in (outcome call i) ≡ Some change → sender_effect (Some c) (plan r) i ≡ Some change
      → Moves r n i (after_noted noted change i)
  request_moves call c (request.Unreadable flaw) n i change noted s sound is h e = absurd (cc)
  request_moves call c (request.Catalogue asked) n i change noted s sound is h e =
      let k = catalogue_change (on_catalogue asked i.catalogue) change e in
      let grown : IsSoundChange i (Catalogue_becomes k.0) = subst (IsSoundChange i) k.1 sound in
      nothing_posted i (after_noted noted change i)
      (ap (λ (x : Change). balance title meant (after_noted noted x i)) k.1 ∙ catalogue_moves i k.0 noted s grown.1)
  request_moves call c (request.Office x asked) n i change noted s sound is h e =
      nothing_posted i (after_noted noted change i)
      (office_moves i change x asked noted (office_at x i.offices) s.tree refl e)
  request_moves call c (request.Loan loan asked) n i change noted s sound is h e =
      let made = loan_changes call i change loan asked is h in
      let product = told_keeps (on_loan asked made.caller i.catalogue made.office.rows loan.number made.ledger)
      made.becomes made.ledger
      (product_kept asked made.caller i.catalogue made.office.rows loan.number made.ledger) made.becomes_is in
      subst (λ (x : Change). Moves (request.Loan loan asked) n i (after_noted noted x i)) made.change_is
      (loan_moves asked loan n i made.office made.ledger made.becomes noted s.tree made.office_is made.ledger_is
      product)
  request_moves call c request.SeenOffices n i change noted s sound is h e = absurd (cc)
  request_moves call c request.SeenArrears n i change noted s sound is h e = absurd (cc)
  request_moves call c (request.NewOffice number parent name) n i change noted s sound is h e =
      let added : Office_added number parent name ≡ change = some_same (Office_added number parent name) change e in
      nothing_posted i (after_noted noted change i)
      (ap (λ (x : Change). balance title meant (after_noted noted x i)) (sym added)
      ∙ office_put_in (office_balance title meant i.catalogue) (new_office number parent name) i.offices refl)

  pub call_moves : (call : Call) (n : ℕ) (i : Institution) (change : Change) (noted : Noted) → IsSound i
      → IsInRange call.request → change_in (outcome call i) ≡ Some change
      → Moves call.request n i (after_noted noted change i)
  call_moves call n i change noted s r h =
      let p : IsPermitted call i = permitted call i change h in
      let known = known_line call.caller call.request (plan call.request) i change s.tree refl h in
      let effect : sender_effect (Some p.caller) (plan call.request) i ≡ Some change =
      ap (λ (c : Option Caller). sender_effect c (plan call.request) i) (sym p.caller_is) ∙ known.made_is in
      request_moves call p.caller call.request n i change noted s
      (by_sound call.caller call.request i change s r h known.made_is) refl h effect
