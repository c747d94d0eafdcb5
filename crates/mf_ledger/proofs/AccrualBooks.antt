-- Books on an accrual basis along a run.
use Rattle.std.proofs.Common.{◌≡◌, ◌≤◌, ◌+◌, ◌-◌, ℕ, zero, suc, Bool, true, false, cond, List, [], ◌∷◌, ◌++◌, Option}
use Rattle.std.proofs.Common.{Some, None}
use Rattle.std.proofs.Common.{Result, Ok, Err, length, refl, sym, ap, ◌∙◌, subst, arith, append_assoc}
use Rattle.std.specs.Prelude.{is_some, ℤ, pos, ◌+ℤ◌, ◌-ℤ◌}
use Rattle.std.specs.List.{AllByRecursion, flat_map, range_with_len}
use Rattle.std.proofs.lemmas.Int.{ints}
use Rattle.mf_base.specs.declared.fault.Fault.{Fault}
use Rattle.mf_office.specs.declared.account.Account.{Account}
use Rattle.mf_office.specs.declared.caller.Caller.{Caller}
use Rattle.mf_account.specs.Balance.{balances_of}
use Rattle.mf_account.specs.Loan.{DisbursedLoan}
use Rattle.mf_model.specs.declared.reply.Reply.{Reply}
use Rattle.mf_model.specs.declared.request.LoanRequest.{LoanRequest}
use Rattle.mf_model.specs.declared.request.OfficeRequest.{OfficeRequest}
use Rattle.mf_model.specs.declared.request.Request.{Request}
use Rattle.mf_model.specs.declared.request.Request.TheVariants as request
use Rattle.mf_model.specs.Accounts.{account_in, of_account, no_balances, no_sums}
use Rattle.mf_model.specs.Calls.{Call}
use Rattle.mf_model.specs.Catalogue.{on_catalogue}
use Rattle.mf_model.specs.Desk.{plan, on_office, of_office, in_office, change_in, outcome, sender_effect}
use Rattle.mf_model.specs.Institution.{Institution, Catalogue, Office, Rows, Ledger, Noted, Change, Catalogue_becomes}
use Rattle.mf_model.specs.Institution.{Rows_become, Office_added, after_noted, after_line, office_at, item_numbered}
use Rattle.mf_model.specs.Institution.{new_office}
use Rattle.mf_model.specs.Loans.{LedgerChange, on_loan, loan_changed, new_loan}
use Rattle.mf_model.specs.Run.{Line, change_of_line, noted_of, next, last}
use Rattle.mf_model.specs.Sound.{IsSound, IsSoundOffice, IsSoundLoan, IsInRange, AreInRange, is_staff}
use Rattle.mf_model.specs.Store.{ledger_at}
use Rattle.mf_model.specs.Tree.{IsTree}
use Rattle.mf_model.proofs.Growing.{Grows}
use Rattle.mf_model.proofs.SoundLemmas.{IsSoundChange, by_sound, next_sound}
use Rattle.mf_model.proofs.Steps.{known_line, catalogue_change}
use Rattle.mf_model.proofs.Runs.{IsTree_next}
use Rattle.mf_journal.specs.Journal.{write_of, writes_of}
use Rattle.mf_guarantees.proofs.LoanSteps.{IsPermitted, permitted, loan_changes, some_same}
use Rattle.mf_ledger.specs.declared.accrual.AccruedSums.{AccruedSums}
use Rattle.mf_ledger.specs.declared.books.Posting.{Posting}
use Rattle.mf_ledger.specs.declared.books.Title.{Title}
use Rattle.mf_ledger.specs.declared.books.Title.TheVariants.{Cash, Principal, Interest, Fees, Penalties}
use Rattle.mf_ledger.specs.declared.books.Title.TheVariants.{DisbursementFees, Overpaid, WrittenOff}
use Rattle.mf_ledger.specs.declared.books.Title.TheVariants.{InterestReceivable, FeesReceivable, PenaltiesReceivable}
use Rattle.mf_ledger.specs.declared.books.Title.TheVariants.{InterestWaived, FeesWaived, PenaltiesWaived}
use Rattle.mf_ledger.specs.declared.books.Title.TheVariants.{InterestWrittenOff, FeesWrittenOff, PenaltiesWrittenOff}
use Rattle.mf_ledger.specs.declared.books.Transaction.{Transaction}
use Rattle.mf_ledger.specs.Books.{signed_sum}
use Rattle.mf_ledger.specs.Runs.{Selection, where_meant, product_of_loan, posted_by, posted, posted_in_all}
use Rattle.mf_ledger.specs.Accrual.{accrued_in, accrued_on, accrued_of, adjusting_between, due_of, loan_accrued}
use Rattle.mf_ledger.specs.Accrual.{office_accrued, accrued, adjusting_of, due_of_loans, due_on}
use Rattle.mf_ledger.specs.Accrual.{due_between, adjustments_of, adjustments}
use Rattle.mf_ledger.proofs.SignedSums.{sum-append, sum-difference, sum-same, numbered_changed, rows_changed}
use Rattle.mf_ledger.proofs.SignedSums.{office_put_in}
use Rattle.mf_ledger.proofs.LoanBooks.{same_account}
use Rattle.mf_ledger.proofs.StepBooks.{product_kept, told_keeps, IsNothing, AddsNothing, adds_nothing}
use Rattle.mf_ledger.proofs.StepBooks.{ledgers_at, found_number, meant_sum, loan_sums, office_sums}
use Rattle.mf_ledger.proofs.RunBooks.{posted_in, kept, all-both, day_grows, IsFrom, later_from}
use Rattle.mf_ledger.proofs.OpeningLemmas.{sum-flat, each-same}

-- ---- one loan

-- nothing is meant where nothing is moved
unmoved : (b : Bool) → pos 0 ≡ where_meant b (pos 0 -ℤ pos 0)
unmoved true = refl
unmoved false = refl

pub adjusted_at : (title : Title) (meant : Selection) (office product : ℕ) (s t : AccruedSums)
    → signed_sum (posted_by title meant) (adjusting_between office product s t)
    ≡ where_meant (meant office product) (accrued_on title t -ℤ accrued_on title s)
adjusted_at Cash meant office product s t = unmoved (meant office product)
adjusted_at Principal meant office product s t = unmoved (meant office product)
adjusted_at Interest meant office product s t = omega (arith, ints)
adjusted_at Fees meant office product s t = omega (arith, ints)
adjusted_at Penalties meant office product s t = omega (arith, ints)
adjusted_at DisbursementFees meant office product s t = unmoved (meant office product)
adjusted_at Overpaid meant office product s t = unmoved (meant office product)
adjusted_at WrittenOff meant office product s t = unmoved (meant office product)
adjusted_at InterestReceivable meant office product s t = omega (arith, ints)
adjusted_at FeesReceivable meant office product s t = omega (arith, ints)
adjusted_at PenaltiesReceivable meant office product s t = omega (arith, ints)
adjusted_at InterestWaived meant office product s t = omega (arith, ints)
adjusted_at FeesWaived meant office product s t = omega (arith, ints)
adjusted_at PenaltiesWaived meant office product s t = omega (arith, ints)
adjusted_at InterestWrittenOff meant office product s t = omega (arith, ints)
adjusted_at FeesWrittenOff meant office product s t = omega (arith, ints)
adjusted_at PenaltiesWrittenOff meant office product s t = omega (arith, ints)

pub nothing_accrued : (title : Title)
    → accrued_on title (record { due = no_sums; waived = no_sums; written_off = no_sums }) ≡ pos 0
nothing_accrued Cash = refl
nothing_accrued Principal = refl
nothing_accrued Interest = refl
nothing_accrued Fees = refl
nothing_accrued Penalties = refl
nothing_accrued DisbursementFees = refl
nothing_accrued Overpaid = refl
nothing_accrued WrittenOff = refl
nothing_accrued InterestReceivable = refl
nothing_accrued FeesReceivable = refl
nothing_accrued PenaltiesReceivable = refl
nothing_accrued InterestWaived = refl
nothing_accrued FeesWaived = refl
nothing_accrued PenaltiesWaived = refl
nothing_accrued InterestWrittenOff = refl
nothing_accrued FeesWrittenOff = refl
nothing_accrued PenaltiesWrittenOff = refl

-- what is adjusted comes to nothing, whatever the sums are
pub adjusting_nothing : (office product : ℕ) (s t : AccruedSums)
    → signed_sum (λ (p : Posting). p.amount) (adjusting_between office product s t) ≡ pos 0
adjusting_nothing office product s t = omega (arith, ints)

-- accrual reads off the account alone
same_accrued : (day : ℕ) (k m : Catalogue) (l : Ledger) → account_in m l ≡ account_in k l
    → accrued_in day m l ≡ accrued_in day k l
same_accrued day k m l same = ap read same
  where
    read : Option DisbursedLoan → AccruedSums
    read o = record {
      due = of_account no_sums (due_of day) o;
      waived = (of_account no_balances balances_of o).waived;
      written_off = (of_account no_balances balances_of o).written_off;
    }

-- ---- one request, at a day

module _ (title : Title) (meant : Selection) (day : ℕ) where
  -- what a request adds, at a day
  abbrev pub at_day : ℕ → Request → Institution → Institution → List Transaction
  at_day n (request.Loan loan asked) i j = record {
    number = n;
    day = day;
    loan = loan;
    postings = adjusting_between loan.office (product_of_loan (ledger_at loan i))
        (accrued_of day i.catalogue (ledger_at loan i)) (accrued_of day j.catalogue (ledger_at loan j));
  } ∷ []
  at_day n _ i j = []

  abbrev pub Adds : Request → ℕ → Institution → Institution → Type 0
  Adds r n i j = accrued title meant day j ≡ accrued title meant day i +ℤ posted title meant (at_day n r i j)

  loan_adds : (asked : LoanRequest) (loan : Account) (n : ℕ) (i : Institution) (f : Office) (l : Ledger)
      (becomes : LedgerChange) (noted : Noted) → IsTree i.offices → office_at loan.office i.offices ≡ Some f
      → item_numbered f.rows.loans loan.number ≡ Some l → (becomes l).loan.product ≡ l.loan.product
      → Adds (request.Loan loan asked) n i
      (after_noted noted (Rows_become loan.office (loan_changed loan.number becomes f.rows)) i)
  loan_adds asked loan n i f l becomes noted tree there found product =
      let k : Catalogue = i.catalogue in
      let x : ℕ = loan.office in
      let new : Rows = loan_changed loan.number becomes f.rows in
      let j : Institution = after_noted noted (Rows_become x new) i in
      let at = ledgers_at loan i f l becomes noted there found in
      let number : f.number ≡ x = found_number x i.offices f there in
      let m : Ledger = becomes l in
      let b : Bool = meant x l.loan.product in
      let offices = rows_changed (office_accrued title meant day k) x new i.offices f tree.ascending there in
      let loans = numbered_changed becomes (loan_accrued title meant day k f.number) loan.number f.rows.loans l found in
      let old : loan_accrued title meant day k f.number l ≡ where_meant b (accrued_on title (accrued_in day k l)) =
      ap (λ y. where_meant (meant y l.loan.product) (accrued_on title (accrued_in day k l))) number in
      let now : loan_accrued title meant day k f.number m ≡ where_meant b (accrued_on title (accrued_in day k m)) =
      ap (λ y. where_meant (meant y m.loan.product) (accrued_on title (accrued_in day k m))) number
      ∙ ap (λ p. where_meant (meant x p) (accrued_on title (accrued_in day k m))) product in
      let told = adjusted_at title meant x (product_of_loan (ledger_at loan i)) (accrued_of day k (ledger_at loan i))
      (accrued_of day k (ledger_at loan j)) in
      let read = ap (λ (o : Option Ledger). where_meant (meant x (product_of_loan o))
      (accrued_on title (accrued_of day k (ledger_at loan j)) -ℤ accrued_on title (accrued_of day k o))) at.before
      ∙ ap (λ (o : Option Ledger). where_meant b (accrued_on title (accrued_of day k o)
      -ℤ accrued_on title (accrued_in day k l))) at.now
      in
      let one = meant_sum b (accrued_on title (accrued_in day k l)) (accrued_on title (accrued_in day k m)) in
      loan_sums (accrued title meant day j) (accrued title meant day i) (office_accrued title meant day k f)
      (office_accrued title meant day k (record f { rows = new })) (loan_accrued title meant day k f.number l)
      (loan_accrued title meant day k f.number m) (where_meant b (accrued_on title (accrued_in day k l)))
      (where_meant b (accrued_on title (accrued_in day k m)))
      (signed_sum (posted_by title meant) (adjusting_between x (product_of_loan (ledger_at loan i))
      (accrued_of day k (ledger_at loan i)) (accrued_of day k (ledger_at loan j))))
      (where_meant b (accrued_on title (accrued_in day k m) -ℤ accrued_on title (accrued_in day k l))) offices loans
      old now (told ∙ read) one

  new_is_nothing : (k : Catalogue) (x : ℕ) → IsNothing (loan_accrued title meant day k x)
  new_is_nothing k x asked = go (meant x asked.product)
    where
      go : (b : Bool)
          → where_meant b (accrued_on title (accrued_in day k (record { loan = new_loan asked; entries = [] }))) ≡ pos 0
      go true = nothing_accrued title
      go false = refl

  office_told : (i : Institution) (change : Change) (x : ℕ) (f : Office) (noted : Noted)
      (r : Result (Reply × Option Rows) Fault) → IsTree i.offices → office_at x i.offices ≡ Some f
      → AddsNothing f.rows r → change_in (of_office x r) ≡ Some change
      → accrued title meant day (after_noted noted change i) ≡ accrued title meant day i
  office_told i change x f noted (Err fault) tree there same h = absurd (cc)
  office_told i change x f noted (Ok (told, None)) tree there same h = absurd (cc)
  office_told i change x f noted (Ok (told, Some new)) tree there same h =
      let is : Rows_become x new ≡ change = some_same (Rows_become x new) change h in
      let offices = rows_changed (office_accrued title meant day i.catalogue) x new i.offices f tree.ascending there in
      let own = same (loan_accrued title meant day i.catalogue f.number) (new_is_nothing i.catalogue f.number) in
      ap (λ (c : Change). accrued title meant day (after_noted noted c i)) (sym is)
      ∙ office_sums (accrued title meant day (after_noted noted (Rows_become x new) i)) (accrued title meant day i)
      (office_accrued title meant day i.catalogue f)
      (office_accrued title meant day i.catalogue (record f { rows = new })) offices own

  office_adds : (i : Institution) (change : Change) (x : ℕ) (asked : OfficeRequest) (noted : Noted)
      (o : Option Office) → IsTree i.offices → office_at x i.offices ≡ o
      → change_in (in_office x (λ k f. on_office asked x k f.rows) i.catalogue o) ≡ Some change
      → accrued title meant day (after_noted noted change i) ≡ accrued title meant day i
  office_adds i change x asked noted None tree there h = absurd (cc)
  office_adds i change x asked noted (Some f) tree there h =
      office_told i change x f noted (on_office asked x i.catalogue f.rows) tree there
      (adds_nothing asked x i.catalogue f.rows) h

  same_loans : (k m : Catalogue) (staffed : Caller → Bool) (f : Office) → Grows k m → IsSoundOffice k staffed f
      → office_accrued title meant day m f ≡ office_accrued title meant day k f
  same_loans k m staffed f grows is =
      sum-same (IsSoundLoan k staffed f.rows.clients) (loan_accrued title meant day m f.number)
      (loan_accrued title meant day k f.number)
      (λ l sound. ap (λ (s : AccruedSums). where_meant (meant f.number l.loan.product) (accrued_on title s))
      (same_accrued day k m l (same_account k m grows staffed f.rows.clients l sound))) f.rows.loans is.rows.loans

  catalogue_adds : (i : Institution) (m : Catalogue) (noted : Noted) → IsSound i → Grows i.catalogue m
      → accrued title meant day (after_noted noted (Catalogue_becomes m) i) ≡ accrued title meant day i
  catalogue_adds i m noted s grows =
      sum-same (IsSoundOffice i.catalogue (is_staff i.offices)) (office_accrued title meant day m)
      (office_accrued title meant day i.catalogue)
      (λ f is. same_loans i.catalogue m (is_staff i.offices) f grows is) i.offices s.each

  nothing_posted : (i : Institution) (j : Institution) → accrued title meant day j ≡ accrued title meant day i
      → accrued title meant day j ≡ accrued title meant day i +ℤ pos 0
  nothing_posted i j h = omega (arith, ints, h)

  request_adds : (call : Call) (c : Caller) (r : Request) (n : ℕ) (i : Institution) (change : Change)
      (noted : Noted) → IsSound i → IsSoundChange i change → call.request ≡ r
      → change_in (outcome call i) ≡ Some change → sender_effect (Some c) (plan r) i ≡ Some change
      → Adds r n i (after_noted noted change i)
  request_adds call c (request.Unreadable flaw) n i change noted s sound is h e = absurd (cc)
  request_adds call c (request.Catalogue asked) n i change noted s sound is h e =
      let k = catalogue_change (on_catalogue asked i.catalogue) change e in
      let grown : IsSoundChange i (Catalogue_becomes k.0) = subst (IsSoundChange i) k.1 sound in
      nothing_posted i (after_noted noted change i)
      (ap (λ (x : Change). accrued title meant day (after_noted noted x i)) k.1 ∙ catalogue_adds i k.0 noted s grown.1)
  request_adds call c (request.Office x asked) n i change noted s sound is h e =
      nothing_posted i (after_noted noted change i)
      (office_adds i change x asked noted (office_at x i.offices) s.tree refl e)
  request_adds call c (request.Loan loan asked) n i change noted s sound is h e =
      let made = loan_changes call i change loan asked is h in
      let product = told_keeps (on_loan asked made.caller i.catalogue made.office.rows loan.number made.ledger)
      made.becomes made.ledger
      (product_kept asked made.caller i.catalogue made.office.rows loan.number made.ledger) made.becomes_is in
      subst (λ (x : Change). Adds (request.Loan loan asked) n i (after_noted noted x i)) made.change_is
      (loan_adds asked loan n i made.office made.ledger made.becomes noted s.tree made.office_is made.ledger_is
      product)
  request_adds call c request.SeenOffices n i change noted s sound is h e = absurd (cc)
  request_adds call c request.SeenArrears n i change noted s sound is h e = absurd (cc)
  request_adds call c (request.NewOffice number parent name) n i change noted s sound is h e =
      let added : Office_added number parent name ≡ change = some_same (Office_added number parent name) change e in
      nothing_posted i (after_noted noted change i)
      (ap (λ (x : Change). accrued title meant day (after_noted noted x i)) (sym added)
      ∙ office_put_in (office_accrued title meant day i.catalogue) (new_office number parent name) i.offices refl)

  pub call_adds : (call : Call) (n : ℕ) (i : Institution) (change : Change) (noted : Noted) → IsSound i
      → IsInRange call.request → change_in (outcome call i) ≡ Some change
      → Adds call.request n i (after_noted noted change i)
  call_adds call n i change noted s r h =
      let p : IsPermitted call i = permitted call i change h in
      let known = known_line call.caller call.request (plan call.request) i change s.tree refl h in
      let effect : sender_effect (Some p.caller) (plan call.request) i ≡ Some change =
      ap (λ (c : Option Caller). sender_effect c (plan call.request) i) (sym p.caller_is) ∙ known.made_is in
      request_adds call p.caller call.request n i change noted s
      (by_sound call.caller call.request i change s r h known.made_is) refl h effect

-- on the business day of the request
pub same_day : (title : Title) (meant : Selection) (n : ℕ) (r : Request) (i j : Institution)
    → posted title meant (at_day title meant i.catalogue.day n r i j) ≡ posted title meant (adjusting_of n r i j)
same_day title meant n (request.Unreadable flaw) i j = refl
same_day title meant n (request.Catalogue asked) i j = refl
same_day title meant n (request.Office x asked) i j = refl
same_day title meant n (request.Loan loan asked) i j = refl
same_day title meant n request.SeenOffices i j = refl
same_day title meant n request.SeenArrears i j = refl
same_day title meant n (request.NewOffice number parent name) i j = refl

-- ---- the days that pass

meant_less : (b : Bool) (y z : ℤ) → where_meant b (y -ℤ z) ≡ where_meant b y -ℤ where_meant b z
meant_less true y z = refl
meant_less false y z = refl

-- a sum of steps is the whole way
steps : (read : ℕ → ℤ) (first n : ℕ)
    → signed_sum (λ x. read x -ℤ read (x - 1)) (range_with_len (first + 1) n) ≡ read (first + n) -ℤ read first
steps read first zero =
    let same : first + 0 ≡ first = omega arith in
    let value = ap read same in
    omega (arith, ints, value)
steps read first (suc n) =
    let back : first + 1 - 1 ≡ first = omega arith in
    let value = ap read back in
    let on : first + 1 + n ≡ first + suc n = omega arith in
    let end = ap read on in
    let rest = steps read (first + 1) n in
    omega (arith, ints, value, end, rest)

module _ (title : Title) (meant : Selection) where
  due_loans : (n day : ℕ) (k : Catalogue) (office m : ℕ) (ls : List Ledger)
      → posted title meant (due_of_loans n day k office m ls)
      ≡ signed_sum (λ l. loan_accrued title meant day k office l -ℤ loan_accrued title meant (day - 1) k office l) ls
  due_loans n day k office m [] = refl
  due_loans n day k office m (l ∷ ls) =
      let here = adjusted_at title meant office l.loan.product (accrued_in (day - 1) k l) (accrued_in day k l)
      ∙ meant_less (meant office l.loan.product) (accrued_on title (accrued_in day k l))
      (accrued_on title (accrued_in (day - 1) k l)) in
      let rest = due_loans n day k office (m + 1) ls in
      omega (arith, ints, here, rest)

  due_day : (n : ℕ) (i : Institution) (day : ℕ) → posted title meant (due_on n i day)
      ≡ accrued title meant day i -ℤ accrued title meant (day - 1) i
  due_day n i day =
      sum-flat (posted_in title meant) (λ (f : Office). due_of_loans n day i.catalogue f.number 1 f.rows.loans)
      i.offices
      ∙ each-same
      (λ (f : Office). posted title meant (due_of_loans n day i.catalogue f.number 1 f.rows.loans))
      (λ f. office_accrued title meant day i.catalogue f -ℤ office_accrued title meant (day - 1) i.catalogue f)
      (λ f. due_loans n day i.catalogue f.number 1 f.rows.loans
      ∙ sum-difference (loan_accrued title meant (day - 1) i.catalogue f.number)
      (loan_accrued title meant day i.catalogue f.number) f.rows.loans) i.offices
      ∙ sum-difference (office_accrued title meant (day - 1) i.catalogue) (office_accrued title meant day i.catalogue)
      i.offices

  pub due_days : (n first last : ℕ) (i : Institution) → first ≤ last → posted title meant (due_between n first last i)
      ≡ accrued title meant last i -ℤ accrued title meant first i
  due_days n first last i order =
      let end : first + (last - first) ≡ last = omega (arith, order) in
      sum-flat (posted_in title meant) (due_on n i) (range_with_len (first + 1) (last - first))
      ∙ each-same (λ x. posted title meant (due_on n i x))
      (λ x. accrued title meant x i -ℤ accrued title meant (x - 1) i) (due_day n i)
      (range_with_len (first + 1) (last - first))
      ∙ steps (λ x. accrued title meant x i) first (last - first)
      ∙ ap (λ x. accrued title meant x i -ℤ accrued title meant first i) end

  -- ---- one line, and a run

  abbrev pub Runs : (n : ℕ) (l : Line) (i j : Institution) → Type 0
  Runs n l i j = accrued title meant j.catalogue.day j ≡ accrued title meant i.catalogue.day i
      +ℤ posted title meant (adjustments_of n l.call.request i j)

  pub line_adds : (l : Line) (n : ℕ) (i : Institution) (change : Change) → IsSound i → IsInRange l.call.request
      → change_of_line l i ≡ Some change → Runs n l i (next l i)
  line_adds l n i change s r e =
      let d : ℕ = i.catalogue.day in
      let j : Institution = next l i in
      let moves : Adds title meant d l.call.request n i j =
      subst (λ (c : Option Change). Adds title meant d l.call.request n i (after_line (noted_of l.call i) c i)) (sym e)
      (call_adds title meant d l.call n i change (noted_of l.call i) s r
      (kept l.given_up (change_in (outcome l.call i)) change e)) in
      let here = same_day title meant n l.call.request i j in
      let days = due_days n d j.catalogue.day j (day_grows l i s.tree) in
      let both = sum-append (posted_in title meant) (adjusting_of n l.call.request i j)
      (due_between n d j.catalogue.day j) in
      sums (accrued title meant j.catalogue.day j) (accrued title meant d j) (accrued title meant d i)
      (posted title meant (at_day title meant d n l.call.request i j))
      (posted title meant (adjusting_of n l.call.request i j))
      (posted title meant (due_between n d j.catalogue.day j))
      (posted title meant (adjustments_of n l.call.request i j)) moves here days both
    where
      sums : (w x y p q u z : ℤ) → x ≡ y +ℤ p → p ≡ q → u ≡ w -ℤ x → z ≡ q +ℤ u → w ≡ y +ℤ z
      sums w x y p q u z a b c d = omega (arith, ints, a, b, c, d)

  pub line_leaves : (l : Line) (i : Institution) → change_of_line l i ≡ None
      → accrued title meant (next l i).catalogue.day (next l i) ≡ accrued title meant i.catalogue.day i
  line_leaves l i e =
      ap (λ (c : Option Change). accrued title meant (after_line (noted_of l.call i) c i).catalogue.day
      (after_line (noted_of l.call i) c i)) e

  pub run_adds : (ls : List Line) (n : ℕ) (i : Institution) → IsSound i → AreInRange ls
      → accrued title meant (last ls i).catalogue.day (last ls i)
      ≡ accrued title meant i.catalogue.day i +ℤ posted title meant (adjustments n ls i)
  run_adds [] n i s r = omega (arith, ints)
  run_adds (l ∷ ls) n i s r =
      go (change_of_line l i) refl (λ m. run_adds ls m (next l i) (next_sound l i s r.0) r.1)
    where
      go : (c : Option Change) → change_of_line l i ≡ c
          → ((m : ℕ) → accrued title meant (last ls (next l i)).catalogue.day (last ls (next l i))
          ≡ accrued title meant (next l i).catalogue.day (next l i) +ℤ posted title meant (adjustments m ls (next l i)))
          → accrued title meant (last ls (next l i)).catalogue.day (last ls (next l i))
          ≡ accrued title meant i.catalogue.day i +ℤ posted title meant (adjustments n (l ∷ ls) i)
      go None e rest =
          let which = ap (λ (c : Option Change). posted title meant (cond (is_some c)
          (adjustments_of (n + 1) l.call.request i (next l i) ++ adjustments (n + 1) ls (next l i))
          (adjustments n ls (next l i)))) e in
          let leaves = line_leaves l i e in
          rest n ∙ sums (accrued title meant (next l i).catalogue.day (next l i))
          (accrued title meant i.catalogue.day i) (posted title meant (adjustments n ls (next l i)))
          (posted title meant (adjustments n (l ∷ ls) i)) leaves which
        where
          sums : (x y p q : ℤ) → x ≡ y → q ≡ p → x +ℤ p ≡ y +ℤ q
          sums x y p q a b = omega (arith, ints, a, b)
      go (Some change) e rest =
          let which = ap (λ (c : Option Change). posted title meant (cond (is_some c)
          (adjustments_of (n + 1) l.call.request i (next l i) ++ adjustments (n + 1) ls (next l i))
          (adjustments n ls (next l i)))) e in
          let both = sum-append (posted_in title meant) (adjustments_of (n + 1) l.call.request i (next l i))
          (adjustments (n + 1) ls (next l i)) in
          let moves = line_adds l (n + 1) i change s r.0 e in
          rest (n + 1) ∙ sums (accrued title meant (next l i).catalogue.day (next l i))
          (accrued title meant i.catalogue.day i)
          (posted title meant (adjustments_of (n + 1) l.call.request i (next l i)))
          (posted title meant (adjustments (n + 1) ls (next l i))) (posted title meant (adjustments n (l ∷ ls) i))
          moves (which ∙ both)
        where
          sums : (x y p q z : ℤ) → x ≡ y +ℤ p → z ≡ p +ℤ q → x +ℤ q ≡ y +ℤ z
          sums x y p q z a b = omega (arith, ints, a, b)

-- ---- each adjusting transaction comes to nothing

abbrev IsNull : Transaction → Type 0
IsNull t = posted_in_all t ≡ pos 0

request_null : (n : ℕ) (r : Request) (i j : Institution) → AllByRecursion IsNull (adjusting_of n r i j)
request_null n (request.Unreadable flaw) i j = tt
request_null n (request.Catalogue asked) i j = tt
request_null n (request.Office x asked) i j = tt
request_null n (request.Loan loan asked) i j = (
  adjusting_nothing loan.office (product_of_loan (ledger_at loan i))
      (accrued_of i.catalogue.day i.catalogue (ledger_at loan i))
      (accrued_of i.catalogue.day j.catalogue (ledger_at loan j)),
  tt,
)
request_null n request.SeenOffices i j = tt
request_null n request.SeenArrears i j = tt
request_null n (request.NewOffice number parent name) i j = tt

flat-null : {X : Type 0} (made : X → List Transaction) → ((x : X) → AllByRecursion IsNull (made x)) → (xs : List X)
    → AllByRecursion IsNull (flat_map made xs)
flat-null made each [] = tt
flat-null made each (x ∷ xs) = all-both IsNull (made x) (flat_map made xs) (each x) (flat-null made each xs)

loans_null : (n day : ℕ) (k : Catalogue) (office m : ℕ) (ls : List Ledger)
    → AllByRecursion IsNull (due_of_loans n day k office m ls)
loans_null n day k office m [] = tt
loans_null n day k office m (l ∷ ls) = (
  adjusting_nothing office l.loan.product (accrued_in (day - 1) k l) (accrued_in day k l),
  loans_null n day k office (m + 1) ls,
)

line_null : (n : ℕ) (r : Request) (i j : Institution) → AllByRecursion IsNull (adjustments_of n r i j)
line_null n r i j =
    all-both IsNull (adjusting_of n r i j) (due_between n i.catalogue.day j.catalogue.day j) (request_null n r i j)
    (flat-null (due_on n j)
    (λ day. flat-null (λ (f : Office). due_of_loans n day j.catalogue f.number 1 f.rows.loans)
    (λ f. loans_null n day j.catalogue f.number 1 f.rows.loans) j.offices)
    (range_with_len (i.catalogue.day + 1) (j.catalogue.day - i.catalogue.day)))

pub each_null : (ls : List Line) (n : ℕ) (i : Institution) → AllByRecursion IsNull (adjustments n ls i)
each_null [] n i = tt
each_null (l ∷ ls) n i = go (is_some (change_of_line l i)) (λ m. each_null ls m (next l i))
  where
    go : (b : Bool) → ((m : ℕ) → AllByRecursion IsNull (adjustments m ls (next l i)))
        → AllByRecursion IsNull (cond b
        (adjustments_of (n + 1) l.call.request i (next l i) ++ adjustments (n + 1) ls (next l i))
        (adjustments n ls (next l i)))
    go true rest = all-both IsNull (adjustments_of (n + 1) l.call.request i (next l i))
        (adjustments (n + 1) ls (next l i)) (line_null (n + 1) l.call.request i (next l i)) (rest (n + 1))
    go false rest = rest n

-- ---- a longer run, and the days of adjusting transactions

pub longer : (ls ks : List Line) (n : ℕ) (i : Institution) → adjustments n (ls ++ ks) i
    ≡ adjustments n ls i ++ adjustments (n + length (writes_of ls i)) ks (last ls i)
longer [] ks n i = let same : n ≡ n + 0 = omega arith in ap (λ m. adjustments m ks i) same
longer (l ∷ ls) ks n i = go (is_some (change_of_line l i)) (λ m. longer ls ks m (next l i))
  where
    go : (b : Bool)
        → ((m : ℕ) → adjustments m (ls ++ ks) (next l i) ≡ adjustments m ls (next l i)
        ++ adjustments (m + length (writes_of ls (next l i))) ks (last ls (next l i)))
        → cond b
        (adjustments_of (n + 1) l.call.request i (next l i) ++ adjustments (n + 1) (ls ++ ks) (next l i))
        (adjustments n (ls ++ ks) (next l i))
        ≡ cond b (adjustments_of (n + 1) l.call.request i (next l i) ++ adjustments (n + 1) ls (next l i))
        (adjustments n ls (next l i))
        ++ adjustments (n + length (cond b (write_of l i ∷ writes_of ls (next l i)) (writes_of ls (next l i)))) ks
        (last ls (next l i))
    go true rest =
        let number : n + 1 + length (writes_of ls (next l i)) ≡ n + length (write_of l i ∷ writes_of ls (next l i)) =
        omega arith in
        ap (λ ts. adjustments_of (n + 1) l.call.request i (next l i) ++ ts) (rest (n + 1))
        ∙ sym (append_assoc (adjustments_of (n + 1) l.call.request i (next l i)) (adjustments (n + 1) ls (next l i))
        (adjustments (n + 1 + length (writes_of ls (next l i))) ks (last ls (next l i))))
        ∙ ap (λ m. (adjustments_of (n + 1) l.call.request i (next l i) ++ adjustments (n + 1) ls (next l i))
        ++ adjustments m ks (last ls (next l i))) number
    go false rest = rest n

request_from : (n : ℕ) (r : Request) (i j : Institution)
    → AllByRecursion (IsFrom i.catalogue.day) (adjusting_of n r i j)
request_from n (request.Unreadable flaw) i j = tt
request_from n (request.Catalogue asked) i j = tt
request_from n (request.Office x asked) i j = tt
request_from n (request.Loan loan asked) i j = (omega arith, tt)
request_from n request.SeenOffices i j = tt
request_from n request.SeenArrears i j = tt
request_from n (request.NewOffice number parent name) i j = tt

loans_from : (a n day : ℕ) (k : Catalogue) (office m : ℕ) (ls : List Ledger) → a ≤ day
    → AllByRecursion (IsFrom a) (due_of_loans n day k office m ls)
loans_from a n day k office m [] h = tt
loans_from a n day k office m (l ∷ ls) h = (h, loans_from a n day k office (m + 1) ls h)

offices_from : (a n day : ℕ) (k : Catalogue) (fs : List Office) → a ≤ day
    → AllByRecursion (IsFrom a) (flat_map (λ (f : Office). due_of_loans n day k f.number 1 f.rows.loans) fs)
offices_from a n day k [] h = tt
offices_from a n day k (f ∷ fs) h =
    all-both (IsFrom a) (due_of_loans n day k f.number 1 f.rows.loans)
    (flat_map (λ (g : Office). due_of_loans n day k g.number 1 g.rows.loans) fs)
    (loans_from a n day k f.number 1 f.rows.loans h) (offices_from a n day k fs h)

pub days_from : (a n first count : ℕ) (i : Institution) → a ≤ first
    → AllByRecursion (IsFrom a) (flat_map (due_on n i) (range_with_len first count))
days_from a n first zero i h = tt
days_from a n first (suc count) i h =
    all-both (IsFrom a) (due_on n i first) (flat_map (due_on n i) (range_with_len (first + 1) count))
    (offices_from a n first i.catalogue i.offices h) (days_from a n (first + 1) count i (omega (arith, h)))

pub line_from : (n : ℕ) (r : Request) (i j : Institution)
    → AllByRecursion (IsFrom i.catalogue.day) (adjustments_of n r i j)
line_from n r i j =
    all-both (IsFrom i.catalogue.day) (adjusting_of n r i j) (due_between n i.catalogue.day j.catalogue.day j)
    (request_from n r i j)
    (days_from i.catalogue.day n (i.catalogue.day + 1) (j.catalogue.day - i.catalogue.day) j (omega arith))

pub each_dated : (ls : List Line) (n : ℕ) (i : Institution) → IsTree i.offices
    → AllByRecursion (IsFrom i.catalogue.day) (adjustments n ls i)
each_dated [] n i t = tt
each_dated (l ∷ ls) n i t = go (is_some (change_of_line l i))
    (λ m. later_from i.catalogue.day (next l i).catalogue.day (day_grows l i t) (adjustments m ls (next l i))
    (each_dated ls m (next l i) (IsTree_next l i t)))
  where
    go : (b : Bool) → ((m : ℕ) → AllByRecursion (IsFrom i.catalogue.day) (adjustments m ls (next l i)))
        → AllByRecursion (IsFrom i.catalogue.day) (cond b
        (adjustments_of (n + 1) l.call.request i (next l i) ++ adjustments (n + 1) ls (next l i))
        (adjustments n ls (next l i)))
    go true rest = all-both (IsFrom i.catalogue.day) (adjustments_of (n + 1) l.call.request i (next l i))
        (adjustments (n + 1) ls (next l i)) (line_from (n + 1) l.call.request i (next l i)) (rest (n + 1))
    go false rest = rest n
