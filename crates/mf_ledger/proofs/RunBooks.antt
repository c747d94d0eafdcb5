-- The books along a run.
use Rattle.std.proofs.Common.{◌≡◌, ◌≤◌, ◌<◌, ◌+◌, ℕ, Bool, true, false, cond, List, [], ◌∷◌, ◌++◌, length, Option, Some}
use Rattle.std.proofs.Common.{None, refl, sym, ap, ◌∙◌, subst, arith, append_assoc}
use Rattle.std.specs.Prelude.{◌&&◌, nat_le, is_some, filter, ℤ, pos, ◌+ℤ◌, ◌-ℤ◌}
use Rattle.std.specs.List.{AllByRecursion}
use Rattle.std.proofs.lemmas.Bool.Decides.{nat_tests}
use Rattle.std.proofs.lemmas.Int.{ints}
use Rattle.mf_office.specs.declared.account.Account.{Account}
use Rattle.mf_model.specs.declared.request.Request.{Request}
use Rattle.mf_model.specs.declared.request.Request.TheVariants as request
use Rattle.mf_model.specs.Desk.{outcome, change_in}
use Rattle.mf_model.specs.Institution.{Institution, Catalogue, Office, Ledger, Change, after_line}
use Rattle.mf_model.specs.Run.{Line, change_of_line, noted_of, next, last}
use Rattle.mf_model.specs.Sound.{IsSound, IsSoundOffice, IsSoundLoan, IsInRange, AreInRange, is_staff}
use Rattle.mf_model.specs.Store.{ledger_at, rows_at}
use Rattle.mf_model.specs.Tree.{IsTree}
use Rattle.mf_model.proofs.Lasting.{loan_of}
use Rattle.mf_model.proofs.Runs.{IsTree_next}
use Rattle.mf_model.proofs.SoundLemmas.{next_sound}
use Rattle.mf_guarantees.proofs.RequestLemmas.{run_keeps}
use Rattle.mf_journal.specs.Journal.{write_of, writes_of}
use Rattle.mf_ledger.specs.declared.books.LoanSums.{LoanSums}
use Rattle.mf_ledger.specs.declared.books.Posting.{Posting}
use Rattle.mf_ledger.specs.declared.books.Title.{Title}
use Rattle.mf_ledger.specs.declared.books.Transaction.{Transaction}
use Rattle.mf_ledger.specs.Books.{signed_sum, titles, sums_in, amount_on, postings_between}
use Rattle.mf_ledger.specs.Runs.{Selection, where_meant, loan_balance, office_balance, balance, sums_of}
use Rattle.mf_ledger.specs.Runs.{product_of_loan, transactions_of, transactions, posted_by, posted}
use Rattle.mf_ledger.specs.Runs.{posted_in_all, between, at_end_of}
use Rattle.mf_ledger.proofs.SignedSums.{sum-append, sum-difference, sum-plus, sum-same, sum-filter}
use Rattle.mf_ledger.proofs.LoanBooks.{on_all, comes_to_nothing}
use Rattle.mf_ledger.proofs.StepBooks.{Moves, call_moves}

-- ---- one line

pub kept : (g : Bool) (c : Option Change) (change : Change) → cond g None c ≡ Some change → c ≡ Some change
kept true c change h = absurd (cc)
kept false c change h = h

abbrev pub posted_in : Title → Selection → Transaction → ℤ
posted_in title meant t = signed_sum (posted_by title meant) t.postings

module _ (title : Title) (meant : Selection) where
  line_moves : (l : Line) (n : ℕ) (i : Institution) (change : Change) → IsSound i → IsInRange l.call.request
      → change_of_line l i ≡ Some change → Moves title meant l.call.request n i (next l i)
  line_moves l n i change s r e =
      subst (λ (c : Option Change). Moves title meant l.call.request n i (after_line (noted_of l.call i) c i)) (sym e)
      (call_moves title meant l.call n i change (noted_of l.call i) s r
      (kept l.given_up (change_in (outcome l.call i)) change e))

  -- a line that changes nothing leaves the balances
  line_leaves : (l : Line) (i : Institution) → change_of_line l i ≡ None
      → balance title meant (next l i) ≡ balance title meant i
  line_leaves l i e = ap (λ (c : Option Change). balance title meant (after_line (noted_of l.call i) c i)) e

  pub run_moves : (ls : List Line) (n : ℕ) (i : Institution) → IsSound i → AreInRange ls
      → balance title meant (last ls i) ≡ balance title meant i +ℤ posted title meant (transactions n ls i)
  run_moves [] n i s r = omega (arith, ints)
  run_moves (l ∷ ls) n i s r =
      go (change_of_line l i) refl (λ m. run_moves ls m (next l i) (next_sound l i s r.0) r.1)
    where
      go : (c : Option Change) → change_of_line l i ≡ c
          → ((m : ℕ) → balance title meant (last ls (next l i))
          ≡ balance title meant (next l i) +ℤ posted title meant (transactions m ls (next l i)))
          → balance title meant (last ls (next l i))
          ≡ balance title meant i +ℤ posted title meant (transactions n (l ∷ ls) i)
      go None e rest =
          let which = ap (λ (c : Option Change). posted title meant (cond (is_some c)
          (transactions_of (n + 1) l.call.request i (next l i) ++ transactions (n + 1) ls (next l i))
          (transactions n ls (next l i)))) e in
          let leaves = line_leaves l i e in
          rest n ∙ sums (balance title meant (next l i)) (balance title meant i) (posted title meant (transactions n ls
          (next l i))) (posted title meant (transactions n (l ∷ ls) i)) leaves which
        where
          sums : (x y p q : ℤ) → x ≡ y → q ≡ p → x +ℤ p ≡ y +ℤ q
          sums x y p q a b = omega (arith, ints, a, b)
      go (Some change) e rest =
          let which = ap (λ (c : Option Change). posted title meant (cond (is_some c)
          (transactions_of (n + 1) l.call.request i (next l i) ++ transactions (n + 1) ls (next l i))
          (transactions n ls (next l i)))) e in
          let both = sum-append (posted_in title meant) (transactions_of (n + 1) l.call.request i (next l i))
          (transactions (n + 1) ls (next l i)) in
          let moves = line_moves l (n + 1) i change s r.0 e in
          rest (n + 1) ∙ sums (balance title meant (next l i)) (balance title meant i)
          (posted title meant (transactions_of (n + 1) l.call.request i (next l i)))
          (posted title meant (transactions (n + 1) ls (next l i))) (posted title meant (transactions n (l ∷ ls) i))
          moves (which ∙ both)
        where
          sums : (x y p q z : ℤ) → x ≡ y +ℤ p → z ≡ p +ℤ q → x +ℤ q ≡ y +ℤ z
          sums x y p q z a b = omega (arith, ints, a, b)

-- ---- each transaction comes to nothing

pub loan_nothing : (loan : Account) (i : Institution) → IsSound i
    → on_all (sums_of i.catalogue (ledger_at loan i)) ≡ pos 0
loan_nothing loan i s = go (ledger_at loan i) refl
  where
    go : (o : Option Ledger) → ledger_at loan i ≡ o → on_all (sums_of i.catalogue o) ≡ pos 0
    go None e = refl
    go (Some l) e =
        comes_to_nothing i.catalogue (is_staff i.offices) (rows_at loan.office i).clients l s.catalogue
        (loan_of i loan l s e)

postings_nothing : (office product : ℕ) (s t : LoanSums) → on_all s ≡ pos 0 → on_all t ≡ pos 0
    → signed_sum (λ (p : Posting). p.amount) (postings_between office product s t) ≡ pos 0
postings_nothing office product s t a b =
    sum-difference (λ x. amount_on x s) (λ x. amount_on x t) titles ∙ less (on_all s) (on_all t) a b
  where
    less : (x y : ℤ) → x ≡ pos 0 → y ≡ pos 0 → y -ℤ x ≡ pos 0
    less x y a b = omega (arith, ints, a, b)

abbrev IsNothing : Transaction → Type 0
IsNothing t = posted_in_all t ≡ pos 0

pub all-both : {X : Type 0} (P : X → Type 0) (xs ys : List X) → AllByRecursion P xs → AllByRecursion P ys
    → AllByRecursion P (xs ++ ys)
all-both P [] ys first second = second
all-both P (x ∷ xs) ys first second = (first.0, all-both P xs ys first.1 second)

request_nothing : (n : ℕ) (r : Request) (i j : Institution) → IsSound i → IsSound j
    → AllByRecursion IsNothing (transactions_of n r i j)
request_nothing n (request.Unreadable flaw) i j s t = tt
request_nothing n (request.Catalogue asked) i j s t = tt
request_nothing n (request.Office x asked) i j s t = tt
request_nothing n (request.Loan loan asked) i j s t = (
  postings_nothing loan.office (product_of_loan (ledger_at loan i)) (sums_of i.catalogue (ledger_at loan i))
      (sums_of j.catalogue (ledger_at loan j)) (loan_nothing loan i s) (loan_nothing loan j t),
  tt,
)
request_nothing n request.SeenOffices i j s t = tt
request_nothing n request.SeenArrears i j s t = tt
request_nothing n (request.NewOffice number parent name) i j s t = tt

pub each_nothing : (ls : List Line) (n : ℕ) (i : Institution) → IsSound i → AreInRange ls
    → AllByRecursion IsNothing (transactions n ls i)
each_nothing [] n i s r = tt
each_nothing (l ∷ ls) n i s r =
    go (is_some (change_of_line l i)) (λ m. each_nothing ls m (next l i) (next_sound l i s r.0) r.1)
  where
    go : (b : Bool) → ((m : ℕ) → AllByRecursion IsNothing (transactions m ls (next l i)))
        → AllByRecursion IsNothing (cond b
        (transactions_of (n + 1) l.call.request i (next l i) ++ transactions (n + 1) ls (next l i))
        (transactions n ls (next l i)))
    go true rest = all-both IsNothing (transactions_of (n + 1) l.call.request i (next l i))
        (transactions (n + 1) ls (next l i))
        (request_nothing (n + 1) l.call.request i (next l i) s (next_sound l i s r.0)) (rest (n + 1))
    go false rest = rest n

-- ---- a longer run, and the days of transactions

pub longer : (ls ks : List Line) (n : ℕ) (i : Institution) → transactions n (ls ++ ks) i
    ≡ transactions n ls i ++ transactions (n + length (writes_of ls i)) ks (last ls i)
longer [] ks n i = let same : n ≡ n + 0 = omega arith in ap (λ m. transactions m ks i) same
longer (l ∷ ls) ks n i = go (is_some (change_of_line l i)) (λ m. longer ls ks m (next l i))
  where
    go : (b : Bool)
        → ((m : ℕ) → transactions m (ls ++ ks) (next l i) ≡ transactions m ls (next l i)
        ++ transactions (m + length (writes_of ls (next l i))) ks (last ls (next l i)))
        → cond b
        (transactions_of (n + 1) l.call.request i (next l i) ++ transactions (n + 1) (ls ++ ks) (next l i))
        (transactions n (ls ++ ks) (next l i))
        ≡ cond b (transactions_of (n + 1) l.call.request i (next l i) ++ transactions (n + 1) ls (next l i))
        (transactions n ls (next l i))
        ++ transactions (n + length (cond b (write_of l i ∷ writes_of ls (next l i)) (writes_of ls (next l i)))) ks
        (last ls (next l i))
    go true rest =
        let number : n + 1 + length (writes_of ls (next l i)) ≡ n + length (write_of l i ∷ writes_of ls (next l i)) =
        omega arith in
        ap (λ ts. transactions_of (n + 1) l.call.request i (next l i) ++ ts) (rest (n + 1))
        ∙ sym (append_assoc (transactions_of (n + 1) l.call.request i (next l i)) (transactions (n + 1) ls (next l i))
        (transactions (n + 1 + length (writes_of ls (next l i))) ks (last ls (next l i))))
        ∙ ap (λ m. (transactions_of (n + 1) l.call.request i (next l i) ++ transactions (n + 1) ls (next l i))
        ++ transactions m ks (last ls (next l i))) number
    go false rest = rest n

abbrev pub IsFrom : ℕ → Transaction → Type 0
IsFrom day t = day ≤ t.day

pub later_from : (a b : ℕ) → a ≤ b → (ts : List Transaction) → AllByRecursion (IsFrom b) ts
    → AllByRecursion (IsFrom a) ts
later_from a b h [] all = tt
later_from a b h (t ∷ ts) all = let first = all.0 in (omega (arith, h, first), later_from a b h ts all.1)

pub day_grows : (l : Line) (i : Institution) → IsTree i.offices → i.catalogue.day ≤ (next l i).catalogue.day
day_grows l i t = (run_keeps (l ∷ []) i t).catalogue.day

pub request_from : (n : ℕ) (r : Request) (i j : Institution)
    → AllByRecursion (IsFrom i.catalogue.day) (transactions_of n r i j)
request_from n (request.Unreadable flaw) i j = tt
request_from n (request.Catalogue asked) i j = tt
request_from n (request.Office x asked) i j = tt
request_from n (request.Loan loan asked) i j = (omega arith, tt)
request_from n request.SeenOffices i j = tt
request_from n request.SeenArrears i j = tt
request_from n (request.NewOffice number parent name) i j = tt

pub each_from : (ls : List Line) (n : ℕ) (i : Institution) → IsTree i.offices
    → AllByRecursion (IsFrom i.catalogue.day) (transactions n ls i)
each_from [] n i t = tt
each_from (l ∷ ls) n i t = go (is_some (change_of_line l i))
    (λ m. later_from i.catalogue.day (next l i).catalogue.day (day_grows l i t) (transactions m ls (next l i))
    (each_from ls m (next l i) (IsTree_next l i t)))
  where
    go : (b : Bool) → ((m : ℕ) → AllByRecursion (IsFrom i.catalogue.day) (transactions m ls (next l i)))
        → AllByRecursion (IsFrom i.catalogue.day) (cond b
        (transactions_of (n + 1) l.call.request i (next l i) ++ transactions (n + 1) ls (next l i))
        (transactions n ls (next l i)))
    go true rest = all-both (IsFrom i.catalogue.day) (transactions_of (n + 1) l.call.request i (next l i))
        (transactions (n + 1) ls (next l i)) (request_from (n + 1) l.call.request i (next l i)) (rest (n + 1))
    go false rest = rest n

-- ---- spans of days

abbrev pub in_span : ℕ → ℕ → Transaction → Bool
in_span first last t = nat_le first t.day && nat_le t.day last

meant_both : (a b c : Bool) (z : ℤ) → (a ≡ true → (b ≡ true → c ≡ true → ⊥) × (b ≡ false → c ≡ true))
    → (a ≡ false → (b ≡ false) × (c ≡ false)) → where_meant a z ≡ where_meant b z +ℤ where_meant c z
meant_both true true true z h k = absurd ((h refl).0 refl refl)
meant_both true true false z h k = omega (arith, ints)
meant_both true false true z h k = omega (arith, ints)
meant_both true false false z h k = let never : false ≡ true = (h refl).1 refl in absurd (cc)
meant_both false true c z h k = let never : true ≡ false = (k refl).0 in absurd (cc)
meant_both false false true z h k = let never : true ≡ false = (k refl).1 in absurd (cc)
meant_both false false false z h k = omega (arith, ints)

span_both : (first middle last : ℕ) → first ≤ middle → middle ≤ last → (t : Transaction) (z : ℤ)
    → where_meant (in_span first last t) z
    ≡ where_meant (in_span first middle t) z +ℤ where_meant (in_span (middle + 1) last t) z
span_both first middle last low high t z =
    meant_both (in_span first last t) (in_span first middle t) (in_span (middle + 1) last t) z
    (λ a. (λ b c. grind (arith, nat_tests, a, b, c), λ b. grind (arith, nat_tests, a, b)))
    (λ a. (grind (arith, nat_tests, a, low, high), grind (arith, nat_tests, a, low, high)))

pub spans_meet : (title : Title) (meant : Selection) (first middle last : ℕ) (ts : List Transaction) → first ≤ middle
    → middle ≤ last → posted title meant (between first last ts)
    ≡ posted title meant (between first middle ts) +ℤ posted title meant (between (middle + 1) last ts)
spans_meet title meant first middle last ts low high =
    let whole = sum-filter (in_span first last) (posted_in title meant) ts in
    let early = sum-filter (in_span first middle) (posted_in title meant) ts in
    let late = sum-filter (in_span (middle + 1) last) (posted_in title meant) ts in
    let both = sum-plus (λ t. where_meant (in_span first last t) (posted_in title meant t))
    (λ t. where_meant (in_span first middle t) (posted_in title meant t))
    (λ t. where_meant (in_span (middle + 1) last t) (posted_in title meant t))
    (λ t. span_both first middle last low high t (posted_in title meant t)) ts in
    sums (posted title meant (between first last ts)) (posted title meant (between first middle ts))
    (posted title meant (between (middle + 1) last ts))
    (signed_sum (λ t. where_meant (in_span first last t) (posted_in title meant t)) ts)
    (signed_sum (λ t. where_meant (in_span first middle t) (posted_in title meant t)) ts)
    (signed_sum (λ t. where_meant (in_span (middle + 1) last t) (posted_in title meant t)) ts) whole early late both
  where
    sums : (w e l x y z : ℤ) → w ≡ x → e ≡ y → l ≡ z → x ≡ y +ℤ z → w ≡ e +ℤ l
    sums w e l x y z a b c d = omega (arith, ints, a, b, c, d)

-- ---- the end of a business day

pub filter-both : {X : Type 0} (test : X → Bool) (xs ys : List X)
    → filter test (xs ++ ys) ≡ filter test xs ++ filter test ys
filter-both test [] ys = refl
filter-both {X = X} test (x ∷ xs) ys = go (test x) (filter-both test xs ys)
  where
    go : (b : Bool) → filter test (xs ++ ys) ≡ filter test xs ++ filter test ys
        → cond b (x ∷ filter test (xs ++ ys)) (filter test (xs ++ ys))
        ≡ cond b (x ∷ filter test xs) (filter test xs) ++ filter test ys
    go true rest = ap (λ zs. x ∷ zs) rest
    go false rest = rest

pub none-later : (day from : ℕ) → day < from → (ts : List Transaction) → AllByRecursion (IsFrom from) ts
    → between 0 day ts ≡ []
none-later day from late [] all = refl
none-later day from late (t ∷ ts) all = go (in_span 0 day t) refl (none-later day from late ts all.1)
  where
    go : (b : Bool) → in_span 0 day t ≡ b → between 0 day ts ≡ []
        → cond b (t ∷ between 0 day ts) (between 0 day ts) ≡ []
    go true e rest = absurd (let first = all.0 in grind (arith, nat_tests, e, first, late))
    go false e rest = rest

request_within : (day : ℕ) (n : ℕ) (r : Request) (i j : Institution) → nat_le i.catalogue.day day ≡ true
    → between 0 day (transactions_of n r i j) ≡ transactions_of n r i j
request_within day n (request.Unreadable flaw) i j h = refl
request_within day n (request.Catalogue asked) i j h = refl
request_within day n (request.Office x asked) i j h = refl
request_within day n (request.Loan loan asked) i j h =
    let within : (nat_le 0 i.catalogue.day && nat_le i.catalogue.day day) ≡ true = grind (arith, nat_tests, h) in
    ap (λ (b : Bool). cond b (transactions_of n (request.Loan loan asked) i j) []) within
request_within day n request.SeenOffices i j h = refl
request_within day n request.SeenArrears i j h = refl
request_within day n (request.NewOffice number parent name) i j h = refl

module _ (title : Title) (meant : Selection) where
  pub day_end : (day : ℕ) (ls : List Line) (n : ℕ) (i : Institution) → IsSound i → AreInRange ls
      → balance title meant (at_end_of day ls i)
      ≡ balance title meant i +ℤ posted title meant (between 0 day (transactions n ls i))
  day_end day [] n i s r = omega (arith, ints)
  day_end day (l ∷ ls) n i s r = go (nat_le i.catalogue.day day) refl
      (λ m. day_end day ls m (next l i) (next_sound l i s r.0) r.1)
    where
      changed : (c : Option Change) → change_of_line l i ≡ c → nat_le i.catalogue.day day ≡ true
          → ((m : ℕ) → balance title meant (at_end_of day ls (next l i))
          ≡ balance title meant (next l i) +ℤ posted title meant (between 0 day (transactions m ls (next l i))))
          → balance title meant (at_end_of day ls (next l i)) ≡ balance title meant i
          +ℤ posted title meant (between 0 day (cond (is_some (change_of_line l i))
          (transactions_of (n + 1) l.call.request i (next l i) ++ transactions (n + 1) ls (next l i))
          (transactions n ls (next l i))))
      changed None e h rest =
          let which = ap (λ (c : Option Change). posted title meant (between 0 day (cond (is_some c)
          (transactions_of (n + 1) l.call.request i (next l i) ++ transactions (n + 1) ls (next l i))
          (transactions n ls (next l i))))) e in
          let leaves = line_leaves title meant l i e in
          rest n ∙ sums (balance title meant (next l i)) (balance title meant i)
          (posted title meant (between 0 day (transactions n ls (next l i)))) (posted title meant (between 0 day
          (transactions n (l ∷ ls) i))) leaves which
        where
          sums : (x y p q : ℤ) → x ≡ y → q ≡ p → x +ℤ p ≡ y +ℤ q
          sums x y p q a b = omega (arith, ints, a, b)
      changed (Some change) e h rest =
          let which = ap (λ (c : Option Change). posted title meant (between 0 day (cond (is_some c)
          (transactions_of (n + 1) l.call.request i (next l i) ++ transactions (n + 1) ls (next l i))
          (transactions n ls (next l i))))) e in
          let cut = ap (posted title meant) (filter-both (in_span 0 day)
          (transactions_of (n + 1) l.call.request i (next l i)) (transactions (n + 1) ls (next l i))
          ∙ ap (λ ts. ts ++ between 0 day (transactions (n + 1) ls (next l i)))
          (request_within day (n + 1) l.call.request i (next l i) h)) in
          let both = sum-append (posted_in title meant) (transactions_of (n + 1) l.call.request i (next l i))
          (between 0 day (transactions (n + 1) ls (next l i))) in
          let moves = line_moves title meant l (n + 1) i change s r.0 e in
          rest (n + 1) ∙ sums (balance title meant (next l i)) (balance title meant i)
          (posted title meant (transactions_of (n + 1) l.call.request i (next l i)))
          (posted title meant (between 0 day (transactions (n + 1) ls (next l i))))
          (posted title meant (between 0 day (transactions n (l ∷ ls) i))) moves (which ∙ cut ∙ both)
        where
          sums : (x y p q z : ℤ) → x ≡ y +ℤ p → z ≡ p +ℤ q → x +ℤ q ≡ y +ℤ z
          sums x y p q z a b = omega (arith, ints, a, b)

      go : (b : Bool) → nat_le i.catalogue.day day ≡ b
          → ((m : ℕ) → balance title meant (at_end_of day ls (next l i))
          ≡ balance title meant (next l i) +ℤ posted title meant (between 0 day (transactions m ls (next l i))))
          → balance title meant (cond b (at_end_of day ls (next l i)) i)
          ≡ balance title meant i +ℤ posted title meant (between 0 day (transactions n (l ∷ ls) i))
      go true h rest = changed (change_of_line l i) refl h rest
      go false h rest =
          let late : day < i.catalogue.day = grind (arith, nat_tests, h) in
          let none = ap (posted title meant) (none-later day i.catalogue.day late (transactions n (l ∷ ls) i)
          (each_from (l ∷ ls) n i s.tree)) in
          nothing (balance title meant i) (posted title meant (between 0 day (transactions n (l ∷ ls) i))) none
        where
          nothing : (x p : ℤ) → p ≡ pos 0 → x ≡ x +ℤ p
          nothing x p a = omega (arith, ints, a)

-- ---- all accounts together

pub sum-zero : {X : Type 0} (read : X → ℤ) → ((x : X) → read x ≡ pos 0) → (xs : List X) → signed_sum read xs ≡ pos 0
sum-zero read each [] = refl
sum-zero read each (x ∷ xs) =
    let here = each x in
    let rest = sum-zero read each xs in
    omega (arith, ints, here, rest)

pub sum-swap : {X Y : Type 0} (read : X → Y → ℤ) (xs : List X) (ys : List Y)
    → signed_sum (λ x. signed_sum (read x) ys) xs ≡ signed_sum (λ y. signed_sum (λ x. read x y) xs) ys
sum-swap read [] ys = sym (sum-zero (λ y. pos 0) (λ y. refl) ys)
sum-swap read (x ∷ xs) ys =
    let rest = sum-swap read xs ys in
    let cut = sum-plus (λ y. read x y +ℤ signed_sum (λ z. read z y) xs) (read x)
    (λ y. signed_sum (λ z. read z y) xs) (λ y. refl) ys in
    ap (λ z. signed_sum (read x) ys +ℤ z) rest ∙ sym cut

meant_nothing : (b : Bool) (s : LoanSums) → on_all s ≡ pos 0
    → signed_sum (λ title. where_meant b (amount_on title s)) titles ≡ pos 0
meant_nothing true s h = h
meant_nothing false s h = refl

loan_in_all : (meant : Selection) (k : Catalogue) (office : ℕ) (l : Ledger) → on_all (sums_in k l) ≡ pos 0
    → signed_sum (λ title. loan_balance title meant k office l) titles ≡ pos 0
loan_in_all meant k office l h = meant_nothing (meant office l.loan.product) (sums_in k l) h

office_in_all : (meant : Selection) (i : Institution) (f : Office) → IsSound i
    → IsSoundOffice i.catalogue (is_staff i.offices) f
    → signed_sum (λ title. office_balance title meant i.catalogue f) titles ≡ pos 0
office_in_all meant i f s is =
    sum-swap (λ title l. loan_balance title meant i.catalogue f.number l) titles f.rows.loans
    ∙ sum-same (IsSoundLoan i.catalogue (is_staff i.offices) f.rows.clients)
    (λ l. signed_sum (λ title. loan_balance title meant i.catalogue f.number l) titles) (λ l. pos 0)
    (λ l sound. loan_in_all meant i.catalogue f.number l
    (comes_to_nothing i.catalogue (is_staff i.offices) f.rows.clients l s.catalogue sound)) f.rows.loans is.rows.loans
    ∙ sum-zero (λ l. pos 0) (λ l. refl) f.rows.loans

pub all_in_all : (meant : Selection) (i : Institution) → IsSound i
    → signed_sum (λ title. balance title meant i) titles ≡ pos 0
all_in_all meant i s =
    sum-swap (λ title f. office_balance title meant i.catalogue f) titles i.offices
    ∙ sum-same (IsSoundOffice i.catalogue (is_staff i.offices))
    (λ f. signed_sum (λ title. office_balance title meant i.catalogue f) titles) (λ f. pos 0)
    (λ f is. office_in_all meant i f s is) i.offices s.each
    ∙ sum-zero (λ f. pos 0) (λ f. refl) i.offices
