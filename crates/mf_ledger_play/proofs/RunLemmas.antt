-- The transactions of the run that lines tell, line by line.
use Rattle.std.proofs.Common.{◌≡◌, ◌≤◌, ◌<◌, ℕ, ◌+◌, Bool, true, false, cond, List, [], ◌∷◌, ◌++◌, length, Option}
use Rattle.std.proofs.Common.{Some, None, refl, sym, ap, ap₂, ◌∙◌, arith, append-nil, append_assoc}
use Rattle.std.specs.Prelude.{◌&&◌, nat_le, is_some, option_map, option_and_then}
use Rattle.std.specs.List.{AllByRecursion, cons_option, flat_map}
use Rattle.std.proofs.lemmas.Bool.Decides.{nat_tests}
use Rattle.std.proofs.lemmas.Grind.{flat_map-append}
use Rattle.std.proofs.lemmas.List.Elements.{filter-append}
use Rattle.mf_office.specs.declared.account.Account.{Account}
use Rattle.mf_office.specs.declared.caller.Caller.{Caller}
use Rattle.mf_model.specs.Answering.{line_answered}
use Rattle.mf_model.specs.Calls.{Call}
use Rattle.mf_model.specs.Institution.{Institution, JournalLine, after_line}
use Rattle.mf_model.specs.Run.{last, next, noted_of}
use Rattle.mf_model.specs.Tree.{IsTree}
use Rattle.mf_model.specs.Unseen.{call_from}
use Rattle.mf_model.specs.declared.request.Request.{Request}
use Rattle.mf_model.specs.declared.request.Request.TheVariants as request
use Rattle.mf_model.specs.declared.request.LoanRequest.{LoanRequest}
use Rattle.mf_ledger.specs.Accrual.{adjusting_of, due_between}
use Rattle.mf_ledger.specs.Basis.{booked, booked_of}
use Rattle.mf_ledger.specs.Runs.{between, transactions_of}
use Rattle.mf_ledger.specs.declared.basis.Basis.{Basis}
use Rattle.mf_ledger.specs.declared.basis.Basis.TheVariants.{Cash, Accrual}
use Rattle.mf_ledger.specs.declared.books.Transaction.{Transaction}
use Rattle.mf_ledger.proofs.BasisBooks.{booked_dated}
use Rattle.mf_play.specs.Play.{asked_by_text, call_told, caller_told, if_readable, text_told, IsPlayed, PlaysTo}
use Rattle.mf_wire_requests.specs.Requests.{request_of}
use Rattle.mf_ledger_play.specs.Due.{passed_of}
use Rattle.mf_ledger_play.specs.Playing.{own_of}
use Rattle.mf_ledger_play.specs.Told.{adjusted_postings, form_text, loan_named, loan_told, moved, moved_postings}
use Rattle.mf_ledger_play.specs.Told.{run_told, span_text, state_at, transaction_with}
use Rattle.mf_ledger_play.specs.declared.form.BooksAsked.{BooksAsked}
use Rattle.mf_ledger_play.specs.declared.line.Booking.{Booking}
use Rattle.mf_ledger_play.specs.declared.line.LoanMoved.{LoanMoved}

-- ---- the request of a line

none≢some : {A : Type 0} (x : A) → None ≡ Some x → ⊥
none≢some x h = cc

some_same : {A : Type 0} (x y : A) → Some x ≡ Some y → x ≡ y
some_same x y h = cc

readable : (r q : Request) → if_readable r ≡ Some q → r ≡ q
readable (request.Unreadable flaw) q h = absurd (none≢some q h)
readable (request.Catalogue asked) q h = some_same _ q h
readable (request.Office office asked) q h = some_same _ q h
readable (request.Loan loan asked) q h = some_same _ q h
readable request.SeenOffices q h = some_same _ q h
readable request.SeenArrears q h = some_same _ q h
readable (request.NewOffice number parent name) q h = some_same _ q h

pub told_request : (l : JournalLine) (call : Call) → call_told l ≡ Some call
    → request_of l.method l.path l.body ≡ call.request
told_request l call e = by_caller (caller_told l) e
  where
    by_request : (caller : Caller) (o : Option Request) → asked_by_text (text_told l) ≡ o
        → option_map (λ r. call_from caller r (text_told l)) o ≡ Some call
        → request_of l.method l.path l.body ≡ call.request
    by_request caller None is h = absurd (none≢some call h)
    by_request caller (Some q) is h =
        readable (request_of l.method l.path l.body) q is
        ∙ ap (λ (c : Call). c.request) (some_same (call_from caller q (text_told l)) call h)

    by_caller : (o : Option Caller) → option_and_then
        (λ caller. option_map (λ r. call_from caller r (text_told l)) (asked_by_text (text_told l))) o ≡ Some call
        → request_of l.method l.path l.body ≡ call.request
    by_caller None h = absurd (none≢some call h)
    by_caller (Some caller) h = by_request caller (asked_by_text (text_told l)) refl h

-- ---- the transactions of a line

-- the institution after the request that a line tells
after_told : (i j : Institution) (l : JournalLine) (p : IsPlayed i l j) → next (line_answered p.call) i ≡ j
after_told i j l p = ap (λ c. after_line (noted_of p.call i) c i) p.accepted ∙ sym p.follows

-- the run of lines of which the first plays
run_first : (i j : Institution) (l : JournalLine) (ls : List JournalLine) (p : IsPlayed i l j)
    → run_told (l ∷ ls) ≡ line_answered p.call ∷ run_told ls
run_first i j l ls p = ap (λ c. cons_option (option_map line_answered c) (run_told ls)) p.told

-- they are those of the first, and then those of the others
pub booked_first : (basis : Basis) (n : ℕ) (i j : Institution) (l : JournalLine) (ls : List JournalLine)
    (p : IsPlayed i l j) → booked basis n (run_told (l ∷ ls)) i
    ≡ booked_of basis (n + 1) p.call.request i j ++ booked basis (n + 1) (run_told ls) j
booked_first basis n i j l ls p =
    let one = line_answered p.call in
    ap (λ run. booked basis n run i) (run_first i j l ls p)
    ∙ ap (λ c. cond (is_some c) (booked_of basis (n + 1) p.call.request i (next one i)
    ++ booked basis (n + 1) (run_told ls) (next one i)) (booked basis n (run_told ls) (next one i))) p.accepted
    ∙ ap (λ m. booked_of basis (n + 1) p.call.request i m ++ booked basis (n + 1) (run_told ls) m)
    (after_told i j l p)

-- those of one line
pub booked_alone : (basis : Basis) (n : ℕ) (i j : Institution) (l : JournalLine) (p : IsPlayed i l j)
    → booked basis n (run_told (l ∷ [])) i ≡ booked_of basis (n + 1) p.call.request i j
booked_alone basis n i j l p =
    booked_first basis n i j l [] p ∙ append-nil (booked_of basis (n + 1) p.call.request i j)

-- the transactions of lines in two parts
pub booked_parted : (basis : Basis) (n : ℕ) (i j : Institution) (lines more : List JournalLine) → PlaysTo i lines j
    → booked basis n (run_told (lines ++ more)) i
    ≡ booked basis n (run_told lines) i ++ booked basis (n + length lines) (run_told more) j
booked_parted basis n i j [] more p =
    ap₂ (λ m k. booked basis m (run_told more) k) (omega arith) (sym p)
booked_parted basis n i j (l ∷ ls) more p =
    let mid = p.0 in
    let rest = booked_parted basis (n + 1) mid j ls more p.2 in
    let number : (n + 1) + length ls ≡ n + length (l ∷ ls) = omega arith in
    booked_first basis n i mid l (ls ++ more) p.1
    ∙ ap (λ ts. booked_of basis (n + 1) p.1.call.request i mid ++ ts) rest
    ∙ sym (append_assoc (booked_of basis (n + 1) p.1.call.request i mid) (booked basis (n + 1) (run_told ls) mid)
    (booked basis (n + 1 + length ls) (run_told more) j))
    ∙ ap₂ (λ ts m. ts ++ booked basis m (run_told more) j) (sym (booked_first basis n i mid l ls p.1)) number

-- the transactions of a line are those of its request, and those of the passing of days
pub booked_by_parts : (basis : Basis) (n : ℕ) (r : Request) (i j : Institution)
    → booked_of basis n r i j ≡ own_of basis n r i j ++ passed_of basis n i.catalogue.day j
booked_by_parts Cash n r i j = refl
booked_by_parts Accrual n r i j =
    sym (append_assoc (transactions_of n r i j) (adjusting_of n r i j)
    (due_between n i.catalogue.day j.catalogue.day j))

-- the run leads where the lines play to
pub last_told : (i j : Institution) (lines : List JournalLine) → PlaysTo i lines j → last (run_told lines) i ≡ j
last_told i j [] p = sym p
last_told i j (l ∷ ls) p =
    ap (λ run. last run i) (run_first i p.0 l ls p.1)
    ∙ ap (last (run_told ls)) (after_told i p.0 l p.1) ∙ last_told p.0 j ls p.2

-- ---- on a loan or not

-- what is of a line on a loan
abbrev pub of_line : ℕ → ℕ → Account → Booking
of_line number day loan = record { number = number; day = day; loan = loan }

-- what the books read of a loan at the end of a day, in two institutions
abbrev pub read_in : ℕ → Account → Institution → Institution → LoanMoved
read_in day loan i j = record { before = state_at day loan i; after = state_at day loan j }

on_loan : (basis : Basis) (loan : Account) (asked : LoanRequest) (m : ℕ) (i j : Institution)
    → own_of basis m (request.Loan loan asked) i j
    ≡ moved basis (of_line m i.catalogue.day loan) (read_in i.catalogue.day loan i j)
on_loan Cash loan asked m i j = refl
on_loan Accrual loan asked m i j = refl

-- the transactions of a request on a loan
pub own_moved : (basis : Basis) (r : Request) (loan : Account) (m : ℕ) (i j : Institution)
    → loan_named r ≡ Some loan → own_of basis m r i j
    ≡ moved basis (of_line m i.catalogue.day loan) (read_in i.catalogue.day loan i j)
own_moved basis (request.Loan x asked) loan m i j h =
    on_loan basis x asked m i j
    ∙ ap (λ (y : Account). moved basis (of_line m i.catalogue.day y) (read_in i.catalogue.day y i j))
    (some_same x loan h)
own_moved basis (request.Unreadable flaw) loan m i j h = absurd (none≢some loan h)
own_moved basis (request.Catalogue asked) loan m i j h = absurd (none≢some loan h)
own_moved basis (request.Office office asked) loan m i j h = absurd (none≢some loan h)
own_moved basis request.SeenOffices loan m i j h = absurd (none≢some loan h)
own_moved basis request.SeenArrears loan m i j h = absurd (none≢some loan h)
own_moved basis (request.NewOffice number parent name) loan m i j h = absurd (none≢some loan h)

-- those of a request on none
pub own_none : (basis : Basis) (r : Request) (m : ℕ) (i j : Institution) → loan_named r ≡ None
    → own_of basis m r i j ≡ []
own_none basis (request.Loan x asked) m i j h = absurd (none≢some x (sym h))
own_none Cash (request.Unreadable flaw) m i j h = refl
own_none Accrual (request.Unreadable flaw) m i j h = refl
own_none Cash (request.Catalogue asked) m i j h = refl
own_none Accrual (request.Catalogue asked) m i j h = refl
own_none Cash (request.Office office asked) m i j h = refl
own_none Accrual (request.Office office asked) m i j h = refl
own_none Cash request.SeenOffices m i j h = refl
own_none Accrual request.SeenOffices m i j h = refl
own_none Cash request.SeenArrears m i j h = refl
own_none Accrual request.SeenArrears m i j h = refl
own_none Cash (request.NewOffice number parent name) m i j h = refl
own_none Accrual (request.NewOffice number parent name) m i j h = refl

-- the loan that a line is on is that of its request
pub named_told : (i j : Institution) (l : JournalLine) (p : IsPlayed i l j) → loan_named p.call.request ≡ loan_told l
named_told i j l p = ap loan_named (sym (told_request l p.call p.told))

-- ---- dated in a span or not

-- all of a line on a loan, where its day is
pub moved_within : (basis : Basis) (first last : ℕ) (b : Booking) (m : LoanMoved)
    → (nat_le first b.day && nat_le b.day last) ≡ true → between first last (moved basis b m) ≡ moved basis b m
moved_within Cash first last b m within = ap (λ c. cond c (moved Cash b m) []) within
moved_within Accrual first last b m within =
    let own = transaction_with b (moved_postings b m) in
    let added = transaction_with b (adjusted_postings b m) in
    ap (λ c. cond c (own ∷ cond c (added ∷ []) []) (cond c (added ∷ []) [])) within

moved_outside : (basis : Basis) (first last : ℕ) (b : Booking) (m : LoanMoved)
    → (nat_le first b.day && nat_le b.day last) ≡ false → between first last (moved basis b m) ≡ []
moved_outside Cash first last b m outside = ap (λ c. cond c (moved Cash b m) []) outside
moved_outside Accrual first last b m outside =
    let own = transaction_with b (moved_postings b m) in
    let added = transaction_with b (adjusted_postings b m) in
    ap (λ c. cond c (own ∷ cond c (added ∷ []) []) (cond c (added ∷ []) [])) outside

-- none of a request on a day that isn't
pub own_outside : (basis : Basis) (first last m : ℕ) (r : Request) (i j : Institution)
    → (nat_le first i.catalogue.day && nat_le i.catalogue.day last) ≡ false
    → between first last (own_of basis m r i j) ≡ []
own_outside basis first last m r i j outside = by (loan_named r) refl
  where
    by : (o : Option Account) → loan_named r ≡ o → between first last (own_of basis m r i j) ≡ []
    by None on = ap (between first last) (own_none basis r m i j on)
    by (Some loan) on =
        ap (between first last) (own_moved basis r loan m i j on)
        ∙ moved_outside basis first last (of_line m i.catalogue.day loan) (read_in i.catalogue.day loan i j) outside

-- ---- the text of transactions

-- in two parts
pub span_text_parted : (asked : BooksAsked) (xs ys : List Transaction)
    → span_text asked (xs ++ ys) ≡ span_text asked xs ++ span_text asked ys
span_text_parted asked xs ys =
    let within : Transaction → Bool = λ (t : Transaction). nat_le asked.first t.day && nat_le t.day asked.last in
    ap (flat_map (form_text asked.form asked.names)) (filter-append within xs ys)
    ∙ flat_map-append (form_text asked.form asked.names) (between asked.first asked.last xs)
    (between asked.first asked.last ys)

-- ---- closed days

not_both : (b : Bool) → (b && false) ≡ false
not_both true = refl
not_both false = refl

-- none of those that are dated later
none_later : (first last day : ℕ) (ts : List Transaction) → last < day
    → AllByRecursion (λ (t : Transaction). day ≤ t.day) ts → between first last ts ≡ []
none_later first last day [] low all = refl
none_later first last day (t ∷ ts) low all =
    let from = all.0 in
    let past : nat_le t.day last ≡ false = grind (arith, nat_tests, low, from) in
    let out : (nat_le first t.day && nat_le t.day last) ≡ false =
    ap (λ b. nat_le first t.day && b) past ∙ not_both (nat_le first t.day) in
    ap (λ b. cond b (t ∷ between first last ts) (between first last ts)) out ∙ none_later first last day ts low all.1

-- lines that come after the last day that is asked for add nothing
pub closed_text : (asked : BooksAsked) (n : ℕ) (i j : Institution) (lines more : List JournalLine)
    → IsTree j.offices → PlaysTo i lines j → asked.last < j.catalogue.day
    → span_text asked (booked asked.basis n (run_told (lines ++ more)) i)
    ≡ span_text asked (booked asked.basis n (run_told lines) i)
closed_text asked n i j lines more tree plays low =
    let early = booked asked.basis n (run_told lines) i in
    let late = booked asked.basis (n + length lines) (run_told more) j in
    let none = none_later asked.first asked.last j.catalogue.day late low
    (booked_dated asked.basis (run_told more) (n + length lines) j tree) in
    ap (span_text asked) (booked_parted asked.basis n i j lines more plays) ∙ span_text_parted asked early late
    ∙ ap (λ ts. span_text asked early ++ flat_map (form_text asked.form asked.names) ts) none
    ∙ append-nil (span_text asked early)
