-- The opening postings of an institution come to its balances.
use Rattle.std.proofs.Common.{◌≡◌, ◌≤◌, ◌<◌, ◌+◌, ℕ, zero, suc, Bool, true, false, List, [], ◌∷◌, length}
use Rattle.std.proofs.Common.{Option, Some, None, refl, sym, ap, ◌∙◌, arith, map}
use Rattle.std.specs.Prelude.{◌==◌, filter, ℤ, pos, ◌+ℤ◌}
use Rattle.std.specs.List.{flat_map, range_with_len}
use Rattle.std.proofs.lemmas.Bool.Decides.{nat_tests}
use Rattle.std.proofs.lemmas.Int.{ints}
use Rattle.std.proofs.lemmas.Option.{slice_get_within}
use Rattle.mf_office.specs.declared.caller.Caller.{Caller}
use Rattle.mf_model.specs.Institution.{Institution, Catalogue, ListedProduct, Ledger, Office, item_numbered}
use Rattle.mf_model.specs.Institution.{product_in}
use Rattle.mf_model.specs.Sound.{IsSound, IsSoundOffice, IsSoundLoan, is_staff, lends}
use Rattle.mf_model.proofs.Growing.{numbered_suc}
use Rattle.mf_ledger.specs.declared.books.LoanSums.{LoanSums}
use Rattle.mf_ledger.specs.declared.books.Posting.{Posting}
use Rattle.mf_ledger.specs.declared.books.Title.{Title}
use Rattle.mf_ledger.specs.declared.books.Title.TheVariants.{Cash, Principal, Interest, Fees, Penalties}
use Rattle.mf_ledger.specs.declared.books.Title.TheVariants.{DisbursementFees, Overpaid, WrittenOff}
use Rattle.mf_ledger.specs.declared.books.Title.TheVariants.{InterestReceivable, FeesReceivable, PenaltiesReceivable}
use Rattle.mf_ledger.specs.declared.books.Title.TheVariants.{InterestWaived, FeesWaived, PenaltiesWaived}
use Rattle.mf_ledger.specs.declared.books.Title.TheVariants.{InterestWrittenOff, FeesWrittenOff, PenaltiesWrittenOff}
use Rattle.mf_ledger.specs.Books.{signed_sum, titles, sums_in, amount_on}
use Rattle.mf_ledger.specs.Runs.{Selection, everything, where_meant, loan_balance, office_balance, balance, posted_by}
use Rattle.mf_ledger.specs.Opening.{opening_on, sums_of_product, product_numbers, office_opening, opening_postings}
use Rattle.mf_ledger.proofs.SignedSums.{sum-append, sum-same, sum-filter}
use Rattle.mf_ledger.proofs.RunBooks.{sum-zero, sum-swap, all_in_all}

-- a sum over lists that are put one behind the other
pub sum-flat : {X Y : Type 0} (read : Y → ℤ) (part : X → List Y) (xs : List X)
    → signed_sum read (flat_map part xs) ≡ signed_sum (λ x. signed_sum read (part x)) xs
sum-flat read part [] = refl
sum-flat read part (x ∷ xs) =
    sum-append read (part x) (flat_map part xs) ∙ ap (λ z. signed_sum read (part x) +ℤ z) (sum-flat read part xs)

pub sum-map : {X Y : Type 0} (read : Y → ℤ) (made : X → Y) (xs : List X)
    → signed_sum read (map made xs) ≡ signed_sum (λ x. read (made x)) xs
sum-map read made [] = refl
sum-map read made (x ∷ xs) = ap (λ z. read (made x) +ℤ z) (sum-map read made xs)

pub each-same : {X : Type 0} (f g : X → ℤ) → ((x : X) → f x ≡ g x) → (xs : List X) → signed_sum f xs ≡ signed_sum g xs
each-same f g each [] = refl
each-same f g each (x ∷ xs) =
    let here = each x in
    let rest = each-same f g each xs in
    omega (arith, ints, here, rest)

-- what is meant of a sum is the sum of what is meant
pub meant-sum : {X : Type 0} (b : Bool) (read : X → ℤ) (xs : List X)
    → where_meant b (signed_sum read xs) ≡ signed_sum (λ x. where_meant b (read x)) xs
meant-sum true read xs = refl
meant-sum false read xs = sym (sum-zero (λ x. pos 0) (λ x. refl) xs)

-- ---- each product has its number

-- before the first number
none-before : (a n p : ℕ) (read : ℕ → ℤ) → p < a
    → signed_sum (λ q. where_meant (p == q) (read q)) (range_with_len a n) ≡ pos 0
none-before a zero p read h = refl
none-before a (suc n) p read h =
    let apart : (p == a) ≡ false = grind (arith, nat_tests, h) in
    let rest = none-before (a + 1) n p read (omega (arith, h)) in
    let here = ap (λ b. where_meant b (read a)) apart in
    omega (arith, ints, here, rest)

-- of the numbers from one on, one alone is a number of them
pub one-of : (a n p : ℕ) (read : ℕ → ℤ) → a ≤ p → p < a + n
    → signed_sum (λ q. where_meant (p == q) (read q)) (range_with_len a n) ≡ read p
one-of a zero p read low high = absurd (omega (arith, low, high))
one-of a (suc n) p read low high = go (p == a) refl
    (λ later. one-of (a + 1) n p read later (omega (arith, high)))
  where
    go : (b : Bool) → (p == a) ≡ b
        → (a + 1 ≤ p → signed_sum (λ q. where_meant (p == q) (read q)) (range_with_len (a + 1) n) ≡ read p)
        → where_meant b (read a) +ℤ signed_sum (λ q. where_meant (p == q) (read q)) (range_with_len (a + 1) n)
        ≡ read p
    go true e rest =
        let same : p ≡ a = grind (arith, nat_tests, e) in
        let none = none-before (a + 1) n p read (omega (arith, same)) in
        let value = ap read same in
        omega (arith, ints, none, value)
    go false e rest =
        let later : a + 1 ≤ p = grind (arith, nat_tests, e, low) in
        let value = rest later in
        omega (arith, ints, value)

-- a thing that is numbered has a number up to their count
numbered_within : {X : Type 0} (xs : List X) (n : ℕ) (x : X) → item_numbered xs n ≡ Some x
    → (1 ≤ n) × (n < 1 + length xs)
numbered_within xs zero x h = absurd (cc)
numbered_within xs (suc n) x h =
    let within = slice_get_within xs n x (sym (numbered_suc xs n) ∙ h) in
    (omega arith, omega (arith, within))

pub product_within : (k : Catalogue) (n principal periods : ℕ) → lends (product_in k n) principal periods ≡ true
    → (1 ≤ n) × (n < 1 + length k.products)
product_within k n principal periods h = go (item_numbered k.products n) refl
  where
    go : (o : Option ListedProduct) → item_numbered k.products n ≡ o → (1 ≤ n) × (n < 1 + length k.products)
    go None e = absurd (cc)
    go (Some p) e = numbered_within k.products n p e

-- ---- the opening postings on the accounts of a title

-- nothing stands on an account that only accrual has
unposted : (b : Bool) (loans : List LoanSums) → pos 0 ≡ where_meant b (signed_sum (λ s. pos 0) loans)
unposted true loans = sym (sum-zero (λ s. pos 0) (λ s. refl) loans)
unposted false loans = refl

posted_on : (title : Title) (meant : Selection) (office product : ℕ) (loans : List LoanSums)
    → signed_sum (posted_by title meant) (opening_on office product loans)
    ≡ where_meant (meant office product) (signed_sum (amount_on title) loans)
posted_on Cash meant office product loans = omega (arith, ints)
posted_on Principal meant office product loans = omega (arith, ints)
posted_on Interest meant office product loans = omega (arith, ints)
posted_on Fees meant office product loans = omega (arith, ints)
posted_on Penalties meant office product loans = omega (arith, ints)
posted_on DisbursementFees meant office product loans = omega (arith, ints)
posted_on Overpaid meant office product loans = omega (arith, ints)
posted_on WrittenOff meant office product loans = omega (arith, ints)
posted_on InterestReceivable meant office product loans = unposted (meant office product) loans
posted_on FeesReceivable meant office product loans = unposted (meant office product) loans
posted_on PenaltiesReceivable meant office product loans = unposted (meant office product) loans
posted_on InterestWaived meant office product loans = unposted (meant office product) loans
posted_on FeesWaived meant office product loans = unposted (meant office product) loans
posted_on PenaltiesWaived meant office product loans = unposted (meant office product) loans
posted_on InterestWrittenOff meant office product loans = unposted (meant office product) loans
posted_on FeesWrittenOff meant office product loans = unposted (meant office product) loans
posted_on PenaltiesWrittenOff meant office product loans = unposted (meant office product) loans

module _ (title : Title) (meant : Selection) where
  -- what a loan has, where its product is this one and is meant
  abbrev of_product : Catalogue → ℕ → ℕ → Ledger → ℤ
  of_product k office product l =
      where_meant (meant office product) (where_meant (l.loan.product == product) (amount_on title (sums_in k l)))

  product_sum : (k : Catalogue) (office product : ℕ) (ls : List Ledger)
      → where_meant (meant office product) (signed_sum (amount_on title) (sums_of_product k product ls))
      ≡ signed_sum (of_product k office product) ls
  product_sum k office product ls =
      ap (where_meant (meant office product))
      (sum-map (amount_on title) (sums_in k) (filter (λ (l : Ledger). l.loan.product == product) ls)
      ∙ sum-filter (λ (l : Ledger). l.loan.product == product) (λ l. amount_on title (sums_in k l)) ls)
      ∙ meant-sum (meant office product)
      (λ (l : Ledger). where_meant (l.loan.product == product) (amount_on title (sums_in k l))) ls

  turned : (a b : Bool) (z : ℤ) → where_meant a (where_meant b z) ≡ where_meant b (where_meant a z)
  turned true b z = refl
  turned false true z = refl
  turned false false z = refl

  -- over all products a loan has what it has
  each_loan : (k : Catalogue) (office : ℕ) (l : Ledger)
      → lends (product_in k l.loan.product) l.loan.principal l.loan.periods ≡ true
      → signed_sum (λ product. of_product k office product l) (product_numbers k) ≡ loan_balance title meant k office l
  each_loan k office l h =
      let within = product_within k l.loan.product l.loan.principal l.loan.periods h in
      each-same (λ product. of_product k office product l)
      (λ product. where_meant (l.loan.product == product)
      (where_meant (meant office product) (amount_on title (sums_in k l))))
      (λ product. turned (meant office product) (l.loan.product == product) (amount_on title (sums_in k l)))
      (product_numbers k)
      ∙ one-of 1 (length k.products) l.loan.product
      (λ product. where_meant (meant office product) (amount_on title (sums_in k l))) within.0 within.1

  office_is : (k : Catalogue) (staffed : Caller → Bool) (f : Office)
      → IsSoundOffice k staffed f
      → signed_sum (posted_by title meant) (office_opening k f) ≡ office_balance title meant k f
  office_is k staffed f is =
      sum-flat (posted_by title meant)
      (λ product. opening_on f.number product (sums_of_product k product f.rows.loans)) (product_numbers k)
      ∙ each-same
      (λ product. signed_sum (posted_by title meant)
      (opening_on f.number product (sums_of_product k product f.rows.loans)))
      (λ product. signed_sum (of_product k f.number product) f.rows.loans)
      (λ product. posted_on title meant f.number product (sums_of_product k product f.rows.loans)
      ∙ product_sum k f.number product f.rows.loans) (product_numbers k)
      ∙ sum-swap (of_product k f.number) (product_numbers k) f.rows.loans
      ∙ sum-same (IsSoundLoan k staffed f.rows.clients)
      (λ l. signed_sum (λ product. of_product k f.number product l) (product_numbers k))
      (loan_balance title meant k f.number)
      (λ l sound. each_loan k f.number l sound.product) f.rows.loans is.rows.loans

  -- the opening postings come to the balances
  pub opening_is : (i : Institution) → IsSound i
      → signed_sum (posted_by title meant) (opening_postings i) ≡ balance title meant i
  opening_is i s =
      sum-flat (posted_by title meant) (office_opening i.catalogue) i.offices
      ∙ sum-same (IsSoundOffice i.catalogue (is_staff i.offices))
      (λ f. signed_sum (posted_by title meant) (office_opening i.catalogue f)) (office_balance title meant i.catalogue)
      (λ f is. office_is i.catalogue (is_staff i.offices) f is) i.offices s.each

-- what the opening postings of loans come to is what these have on all accounts
opening_in_all : (office product : ℕ) (loans : List LoanSums)
    → signed_sum (λ (p : Posting). p.amount) (opening_on office product loans)
    ≡ signed_sum (λ title. signed_sum (posted_by title everything) (opening_on office product loans)) titles
opening_in_all office product loans = omega (arith, ints)

-- the opening postings of a product of an office
abbrev part : Catalogue → Office → ℕ → List Posting
part k f product = opening_on f.number product (sums_of_product k product f.rows.loans)

-- and so of an office
office_in_titles : (k : Catalogue) (f : Office)
    → signed_sum (λ (p : Posting). p.amount) (office_opening k f)
    ≡ signed_sum (λ title. signed_sum (posted_by title everything) (office_opening k f)) titles
office_in_titles k f =
    sum-flat (λ (p : Posting). p.amount) (part k f) (product_numbers k)
    ∙ each-same (λ product. signed_sum (λ (p : Posting). p.amount) (part k f product))
    (λ product. signed_sum (λ title. signed_sum (posted_by title everything) (part k f product)) titles)
    (λ product. opening_in_all f.number product (sums_of_product k product f.rows.loans)) (product_numbers k)
    ∙ sum-swap (λ product title. signed_sum (posted_by title everything) (part k f product)) (product_numbers k) titles
    ∙ each-same (λ title. signed_sum (λ product. signed_sum (posted_by title everything) (part k f product))
    (product_numbers k)) (λ title. signed_sum (posted_by title everything) (office_opening k f))
    (λ title. sym (sum-flat (posted_by title everything) (part k f) (product_numbers k))) titles

-- and they come to nothing
pub opening_nothing : (i : Institution) → IsSound i
    → signed_sum (λ (p : Posting). p.amount) (opening_postings i) ≡ pos 0
opening_nothing i s =
    sum-flat (λ (p : Posting). p.amount) (office_opening i.catalogue) i.offices
    ∙ each-same (λ f. signed_sum (λ (p : Posting). p.amount) (office_opening i.catalogue f))
    (λ f. signed_sum (λ title. signed_sum (posted_by title everything) (office_opening i.catalogue f)) titles)
    (office_in_titles i.catalogue) i.offices
    ∙ sum-swap (λ f title. signed_sum (posted_by title everything) (office_opening i.catalogue f)) i.offices titles
    ∙ each-same (λ title. signed_sum (λ f. signed_sum (posted_by title everything) (office_opening i.catalogue f))
    i.offices) (λ title. balance title everything i)
    (λ title. sym (sum-flat (posted_by title everything) (office_opening i.catalogue) i.offices)
    ∙ opening_is title everything i s) titles
    ∙ all_in_all everything i s
