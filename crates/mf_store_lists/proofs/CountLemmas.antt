-- The counts of clients' loans, a loan at a time.
use Rattle.std.proofs.Common.{◌≡◌, ◌+◌, ◌≤◌, ℕ, Bool, true, false, true≢false, cond, ◌&&◌, ◌||◌, ◌==◌, nat_lt}
use Rattle.std.proofs.Common.{List, [], ◌∷◌, ◌++◌, map, take, drop, filter, length, get_or, None, Some}
use Rattle.std.proofs.Common.{refl, sym, ap}
use Rattle.std.proofs.Common.{ap₂, ◌∙◌, arith, inl, inr}
use Rattle.std.specs.List.{count_by, enumerate_from, flat_map, list_any}
use Rattle.std.proofs.lemmas.Bool.{cases_Bool, eqb-true}
use Rattle.std.proofs.lemmas.List.{length-map, map_push, take-map}
use Rattle.std.proofs.Math.Seq.{take-append_seam}
use Rattle.std.proofs.lemmas.List.Sums.{sum_by-append, sum_by-cons}
use Rattle.sqlite_keyed.proofs.ListLemmas.{filter-map}
use Rattle.mf_alloc.specs.Sums.{is_open}
use Rattle.mf_account.specs.Loan.{DisbursedLoan, state_of_loan, status_of_loan}
use Rattle.mf_account.proofs.ActiveLemmas.{active-where_open}
use Rattle.mf_lists.specs.declared.lines.ClientLine.{ClientLine}
use Rattle.mf_lists.specs.Lists.{clients_after, counted_client, is_active, is_of_client, is_overdue, is_waiting}
use Rattle.mf_lists.specs.Lists.{rows_in}
use Rattle.mf_office.specs.declared.account.Account.{Account}
use Rattle.mf_model.specs.declared.loan.Stage.{Stage}
use Rattle.mf_model.specs.declared.loan.Stage.TheVariants.{Submitted, Approved, Disbursed, Withdrawn, Rejected}
use Rattle.mf_model.specs.Accounts.{account_in, of_account, status_in, running_from, terms_in}
use Rattle.mf_model.specs.Institution.{Catalogue, Institution, Ledger, Rows}
use Rattle.mf_model.specs.Sound.{IsSound}
use Rattle.mf_model.specs.Stages.{disbursed_on, stage_number}
use Rattle.mf_model.specs.Store.{ledger_at}
use Rattle.mf_model.proofs.AccountLemmas.{account_there}
use Rattle.mf_store_commits.proofs.EnteredLemmas.{loan_sound}
use Rattle.mf_store.proofs.InstalmentReadLemmas.{loan_account_sound}
use Rattle.mf_store_lists.specs.Counted.{client_with, counted, counted_by, loan_count, one_more, uncounted, waits}
use Rattle.mf_store_lists.specs.Counted.{with_count}
use Rattle.mf_store_lists.specs.Told.{told_if, is_of_disbursed}
use Rattle.mf_store_lists.proofs.StageLemmas.{status_number}
use Rattle.mf_store_lists.proofs.NumberedLemmas.{all_filtered}
use Rattle.mf_store_lists.proofs.ToldLemmas.{told_chosen}

-- ---- one loan

disbursed_waits_not : (x : ℕ) → is_of_disbursed x ≡ true → false ≡ ((x == 100) || (x == 200))
disbursed_waits_not x is =
    elim (cases_Bool (x == 100)) [
      | inl one ↦ absurd (true≢false (sym is ∙ ap is_of_disbursed (eqb-true x 100 one)))
      | inr apart ↦ elim (cases_Bool (x == 200)) [
        | inl two ↦ absurd (true≢false (sym is ∙ ap is_of_disbursed (eqb-true x 200 two)))
        | inr other ↦ sym (ap₂ ◌||◌ apart other)
      ]
    ]

-- at which stages a loan waits
pub waiting_is : (k : Catalogue) (l : Ledger) → waits l.loan.stage ≡ is_waiting k l
waiting_is k l = go l.loan.stage refl
  where
    plain : (s : Stage) → l.loan.stage ≡ s → disbursed_on s ≡ None → status_in k l ≡ stage_number s
    plain s is none = ap (λ (t : Stage). of_account (stage_number t) status_of_loan
        (running_from l.loan l.entries (disbursed_on t) (terms_in k l.loan.product))) is
        ∙ ap (λ d. of_account (stage_number s) status_of_loan (running_from l.loan l.entries d
        (terms_in k l.loan.product))) none

    go : (s : Stage) → l.loan.stage ≡ s → waits s ≡ is_waiting k l
    go Submitted is = sym (ap (λ x. (x == 100) || (x == 200)) (plain Submitted is refl))
    go (Approved day) is = sym (ap (λ x. (x == 100) || (x == 200)) (plain (Approved day) is refl))
    go (Disbursed approved day) is =
        disbursed_waits_not (status_in k l) (status_number k l day (ap disbursed_on is))
    go Withdrawn is = sym (ap (λ x. (x == 100) || (x == 200)) (plain Withdrawn is refl))
    go Rejected is = sym (ap (λ x. (x == 100) || (x == 200)) (plain Rejected is refl))

-- a loan of a sound institution is active where something of it is open
pub active_is : (account : Account) (l : Ledger) (i : Institution) → IsSound i → ledger_at account i ≡ Some l
    → list_any is_open (rows_in i.catalogue l) ≡ is_active i.catalogue l
active_is account l i sound there = go l.loan.stage refl
  where
    k : Catalogue
    k = i.catalogue

    none : (s : Stage) → l.loan.stage ≡ s → disbursed_on s ≡ None → account_in k l ≡ None
    none s is out = ap (λ (t : Stage). running_from l.loan l.entries (disbursed_on t) (terms_in k l.loan.product)) is
        ∙ ap (λ d. running_from l.loan l.entries d (terms_in k l.loan.product)) out

    plain : (s : Stage) → l.loan.stage ≡ s → disbursed_on s ≡ None → (stage_number s == 300) ≡ false
        → list_any is_open (rows_in k l) ≡ is_active k l
    plain s is out number =
        ap (λ o. list_any is_open (of_account [] (λ (a : DisbursedLoan). (state_of_loan a).rows) o)) (none s is out)
        ∙ sym (ap (λ o. of_account (stage_number l.loan.stage) status_of_loan o == 300) (none s is out)
        ∙ ap (λ (t : Stage). stage_number t == 300) is ∙ number)

    go : (s : Stage) → l.loan.stage ≡ s → list_any is_open (rows_in k l) ≡ is_active k l
    go Submitted is = plain Submitted is refl refl
    go (Approved day) is = plain (Approved day) is refl refl
    go (Disbursed approved day) is =
        let found = account_there k l day (ap disbursed_on is) (loan_sound account l i sound there).product in
        ap (λ o. list_any is_open (of_account [] (λ (a : DisbursedLoan). (state_of_loan a).rows) o)) found.1
        ∙ sym (active-where_open found.0 (loan_account_sound account l i sound there found.0 found.1))
        ∙ sym (ap (λ o. of_account (stage_number l.loan.stage) status_of_loan o == 300) found.1)
    go Withdrawn is = plain Withdrawn is refl refl
    go Rejected is = plain Rejected is refl refl

-- ---- counts

count_more : {A : Type 0} (p : A → Bool) (xs : List A) (x : A)
    → count_by p (xs ++ x ∷ []) ≡ count_by p xs + cond (p x) 1 0
count_more p xs x =
    let first = sum_by-append (λ y. cond (p y) 1 0) xs (x ∷ []) in
    let one = sum_by-cons (λ y. cond (p y) 1 0) x [] in
    omega (arith, first, one)

more_so : (b w : Bool) (n : ℕ) → cond b (one_more n w) n ≡ n + cond (w && b) 1 0
more_so true true n = refl
more_so true false n = refl
more_so false true n = omega arith
more_so false false n = omega arith

line_so : (b : Bool) (c : ℕ × List ℕ) (n m o p q r : ℕ) → cond b (client_with c n m o) (client_with c p q r)
    ≡ client_with c (cond b n p) (cond b m q) (cond b o r)
line_so true c n m o p q r = refl
line_so false c n m o p q r = refl

-- a client with one more loan counted
counted_more : (k : Catalogue) (loans : List Ledger) (l : Ledger) (c : ℕ × List ℕ)
    → with_count l.loan.client (loan_count k l) (counted_by k loans c) ≡ counted_by k (loans ++ l ∷ []) c
counted_more k loans l c =
    let b = l.loan.client == c.0 in
    let one : (p : Ledger → Bool) → cond b (one_more (counted p c.0 loans) (p l)) (counted p c.0 loans)
    ≡ counted p c.0 (loans ++ l ∷ []) = λ p. more_so b (p l) (counted p c.0 loans)
    ∙ sym (count_more (λ (m : Ledger). p m && is_of_client c.0 m) loans l) in
    line_so b c _ _ _ _ _ _
    ∙ (λ t. client_with c (one (is_waiting k) t) (one (is_active k) t) (one (is_overdue k) t))

-- the clients with one more loan counted
pub all_counted : (k : Catalogue) (loans : List Ledger) (l : Ledger) (cs : List (ℕ × List ℕ))
    → map (with_count l.loan.client (loan_count k l)) (map (counted_by k loans) cs)
    ≡ map (counted_by k (loans ++ l ∷ [])) cs
all_counted k loans l [] = refl
all_counted k loans l (c ∷ cs) = ap₂ ◌∷◌ (counted_more k loans l c) (all_counted k loans l cs)

or_none : (a b : Bool) → (a || b) ≡ false → (a ≡ false) × (b ≡ false)
or_none true b is = absurd (true≢false is)
or_none false b is = (refl, is)

-- a loan of none of them counts for none
pub none_counted : (k : Catalogue) (loans : List Ledger) (l : Ledger) (cs : List (ℕ × List ℕ))
    → list_any (λ (line : ClientLine). l.loan.client == line.number) (map (counted_by k loans) cs) ≡ false
    → map (counted_by k loans) cs ≡ map (counted_by k (loans ++ l ∷ [])) cs
none_counted k loans l [] none = refl
none_counted k loans l (c ∷ cs) none =
    let apart = or_none (l.loan.client == c.0) _ none in
    ap₂ ◌∷◌ (sym (ap (λ b. cond b (record (counted_by k loans c) {
      waiting = one_more (counted (is_waiting k) c.0 loans) (is_waiting k l);
      active = one_more (counted (is_active k) c.0 loans) (is_active k l);
      overdue = one_more (counted (is_overdue k) c.0 loans) (is_overdue k l);
    }) (counted_by k loans c)) apart.0) ∙ counted_more k loans l c) (none_counted k loans l cs apart.1)

-- ---- pages

-- the clients of a page
abbrev pub page_chosen : ℕ → Rows → List (ℕ × List ℕ)
page_chosen after rows = take 500 (filter (λ c. nat_lt after c.0) (enumerate_from 1 rows.clients))

-- none of their loans is counted at first
pub page_uncounted : (after : ℕ) (rows : Rows)
    → take 500 (flat_map (λ c. told_if (nat_lt after c.0) (uncounted c)) (enumerate_from 1 rows.clients))
    ≡ map uncounted (page_chosen after rows)
page_uncounted after rows =
    ap (take 500) (told_chosen (λ c. nat_lt after c.0) uncounted (enumerate_from 1 rows.clients))
    ∙ take-map uncounted 500 (filter (λ c. nat_lt after c.0) (enumerate_from 1 rows.clients))

-- they are those of the definition
pub page_counted : (after : ℕ) (k : Catalogue) (rows : Rows)
    → map (counted_client k rows) (page_chosen after rows) ≡ clients_after after k rows
page_counted after k rows =
    let all = enumerate_from 1 rows.clients in
    sym (take-map (counted_client k rows) 500 (filter (λ c. nat_lt after c.0) all))
    ∙ ap (take 500) (sym (filter-map (λ (c : ClientLine). nat_lt after c.number) (counted_client k rows) all))
    ∙ ap (λ l. take 500 (filter (λ (c : ClientLine). nat_lt after c.number) (map (counted_client k rows) l)))
    (sym (all_filtered 1 rows.clients))

-- ---- lines that are changed in turn

-- those past a place are as they were
abbrev pub AreKeptFrom : {A : Type 0} → ℕ → List A → List A → Type 0
AreKeptFrom {A} n initial now = (k : ℕ) (d : A) → n ≤ k → get_or now k d ≡ get_or initial k d

-- ---- lines that were handed on as a slice

-- what a Vec has after its slice was changed
pub slice_back : {A : Type 0} (new old : List A) (n : ℕ) → n ≡ length new
    → take n (new ++ drop (length new) old) ≡ new
slice_back new old n same =
    ap (λ m. take m (new ++ drop (length new) old)) same ∙ take-append_seam new (drop (length new) old)

-- a client's lines stay as many
pub as_many : {A B C : Type 0} (f : A → B) (g : A → C) (xs : List A) → length (map f xs) ≡ length (map g xs)
as_many f g xs = length-map xs f ∙ sym (length-map xs g)

-- loans one after another
pub loans_more : (ls : List (ℕ × Ledger)) (n : ℕ) (l : ℕ × Ledger) → take (n + 1) ls ≡ take n ls ++ l ∷ []
    → map (λ (k : ℕ × Ledger). k.1) (take (n + 1) ls) ≡ map (λ (k : ℕ × Ledger). k.1) (take n ls) ++ l.1 ∷ []
loans_more ls n l more = ap (map (λ (k : ℕ × Ledger). k.1)) more ∙ map_push (λ (k : ℕ × Ledger). k.1) (take n ls) l

all_ledgers : (n : ℕ) (ls : List Ledger) → map (λ (k : ℕ × Ledger). k.1) (enumerate_from n ls) ≡ ls
all_ledgers n [] = refl
all_ledgers n (l ∷ ls) = ap (λ rest. l ∷ rest) (all_ledgers (n + 1) ls)

-- the counts of all loans are those of the definition
pub all_are_counted : (k : Catalogue) (rows : Rows) (cs : List (ℕ × List ℕ))
    → map (counted_by k (map (λ (l : ℕ × Ledger). l.1) (enumerate_from 1 rows.loans))) cs
    ≡ map (counted_client k rows) cs
all_are_counted k rows cs = ap (λ loans. map (counted_by k loans) cs) (all_ledgers 1 rows.loans)
