-- The adjusting postings with which books open come to what accrual adds, and to nothing.
use Rattle.std.proofs.Common.{◌≡◌, ℕ, Bool, true, false, List, length, refl, sym, ap, ◌∙◌, arith}
use Rattle.std.specs.Prelude.{◌==◌, filter, ℤ, pos}
use Rattle.std.specs.List.{AllByRecursion}
use Rattle.std.proofs.lemmas.Int.{ints}
use Rattle.mf_office.specs.declared.caller.Caller.{Caller}
use Rattle.mf_model.specs.Institution.{Institution, Catalogue, Ledger, Office, product_in}
use Rattle.mf_model.specs.Sound.{IsSound, IsSoundOffice, IsSoundLoan, is_staff, lends}
use Rattle.mf_ledger.specs.declared.accrual.AccruedSums.{AccruedSums}
use Rattle.mf_ledger.specs.declared.basis.Basis.{Basis}
use Rattle.mf_ledger.specs.declared.basis.Basis.TheVariants as basis
use Rattle.mf_ledger.specs.declared.books.Posting.{Posting}
use Rattle.mf_ledger.specs.declared.books.Title.{Title}
use Rattle.mf_ledger.specs.declared.books.Title.TheVariants.{Cash, Principal, Interest, Fees, Penalties}
use Rattle.mf_ledger.specs.declared.books.Title.TheVariants.{DisbursementFees, Overpaid, WrittenOff}
use Rattle.mf_ledger.specs.declared.books.Title.TheVariants.{InterestReceivable, FeesReceivable, PenaltiesReceivable}
use Rattle.mf_ledger.specs.declared.books.Title.TheVariants.{InterestWaived, FeesWaived, PenaltiesWaived}
use Rattle.mf_ledger.specs.declared.books.Title.TheVariants.{InterestWrittenOff, FeesWrittenOff, PenaltiesWrittenOff}
use Rattle.mf_ledger.specs.Accrual.{accrual_titles, accrued, accrued_in, accrued_on, loan_accrued, office_accrued}
use Rattle.mf_ledger.specs.Adjusting.{accrued_of_product, adjusting_on, adjusting_opening, office_adjusting, opened}
use Rattle.mf_ledger.specs.Adjusting.{openings, standing}
use Rattle.mf_ledger.specs.Books.{signed_sum}
use Rattle.mf_ledger.specs.Opening.{product_numbers}
use Rattle.mf_ledger.specs.Runs.{Selection, where_meant, posted_by}
use Rattle.mf_ledger.proofs.OpeningLemmas.{each-same, meant-sum, one-of, opening_is, opening_nothing, product_within}
use Rattle.mf_ledger.proofs.OpeningLemmas.{sum-flat, sum-map}
use Rattle.mf_ledger.proofs.RunBooks.{sum-swap, sum-zero}
use Rattle.mf_ledger.proofs.SignedSums.{sum-filter, sum-same}

-- accrual adds nothing to an account that it doesn't have
unposted : (b : Bool) (loans : List AccruedSums) → pos 0 ≡ where_meant b (signed_sum (λ s. pos 0) loans)
unposted true loans = sym (sum-zero (λ s. pos 0) (λ s. refl) loans)
unposted false loans = refl

posted_on : (title : Title) (meant : Selection) (office product : ℕ) (loans : List AccruedSums)
    → signed_sum (posted_by title meant) (adjusting_on office product loans)
    ≡ where_meant (meant office product) (signed_sum (accrued_on title) loans)
posted_on Cash meant office product loans = unposted (meant office product) loans
posted_on Principal meant office product loans = unposted (meant office product) loans
posted_on Interest meant office product loans = omega (arith, ints)
posted_on Fees meant office product loans = omega (arith, ints)
posted_on Penalties meant office product loans = omega (arith, ints)
posted_on DisbursementFees meant office product loans = unposted (meant office product) loans
posted_on Overpaid meant office product loans = unposted (meant office product) loans
posted_on WrittenOff meant office product loans = unposted (meant office product) loans
posted_on InterestReceivable meant office product loans = omega (arith, ints)
posted_on FeesReceivable meant office product loans = omega (arith, ints)
posted_on PenaltiesReceivable meant office product loans = omega (arith, ints)
posted_on InterestWaived meant office product loans = omega (arith, ints)
posted_on FeesWaived meant office product loans = omega (arith, ints)
posted_on PenaltiesWaived meant office product loans = omega (arith, ints)
posted_on InterestWrittenOff meant office product loans = omega (arith, ints)
posted_on FeesWrittenOff meant office product loans = omega (arith, ints)
posted_on PenaltiesWrittenOff meant office product loans = omega (arith, ints)

-- what is meant of two things may be asked in either order
turned : (a b : Bool) (z : ℤ) → where_meant a (where_meant b z) ≡ where_meant b (where_meant a z)
turned true b z = refl
turned false true z = refl
turned false false z = refl

module _ (title : Title) (meant : Selection) (day : ℕ) where
  -- what accrual adds for a loan, where its product is this one and is meant
  abbrev of_product : Catalogue → ℕ → ℕ → Ledger → ℤ
  of_product k office product l =
      where_meant (meant office product)
      (where_meant (l.loan.product == product) (accrued_on title (accrued_in day k l)))

  product_sum : (k : Catalogue) (office product : ℕ) (ls : List Ledger)
      → where_meant (meant office product) (signed_sum (accrued_on title) (accrued_of_product day k product ls))
      ≡ signed_sum (of_product k office product) ls
  product_sum k office product ls =
      ap (where_meant (meant office product))
      (sum-map (accrued_on title) (accrued_in day k) (filter (λ (l : Ledger). l.loan.product == product) ls)
      ∙ sum-filter (λ (l : Ledger). l.loan.product == product) (λ l. accrued_on title (accrued_in day k l)) ls)
      ∙ meant-sum (meant office product)
      (λ (l : Ledger). where_meant (l.loan.product == product) (accrued_on title (accrued_in day k l))) ls

  -- over all products a loan has what it has
  each_loan : (k : Catalogue) (office : ℕ) (l : Ledger)
      → lends (product_in k l.loan.product) l.loan.principal l.loan.periods ≡ true
      → signed_sum (λ product. of_product k office product l) (product_numbers k)
      ≡ loan_accrued title meant day k office l
  each_loan k office l h =
      let within = product_within k l.loan.product l.loan.principal l.loan.periods h in
      each-same (λ product. of_product k office product l)
      (λ product. where_meant (l.loan.product == product)
      (where_meant (meant office product) (accrued_on title (accrued_in day k l))))
      (λ product. turned (meant office product) (l.loan.product == product) (accrued_on title (accrued_in day k l)))
      (product_numbers k)
      ∙ one-of 1 (length k.products) l.loan.product
      (λ product. where_meant (meant office product) (accrued_on title (accrued_in day k l))) within.0 within.1

  office_is : (k : Catalogue) (staffed : Caller → Bool) (f : Office) → IsSoundOffice k staffed f
      → signed_sum (posted_by title meant) (office_adjusting day k f) ≡ office_accrued title meant day k f
  office_is k staffed f is =
      sum-flat (posted_by title meant)
      (λ product. adjusting_on f.number product (accrued_of_product day k product f.rows.loans)) (product_numbers k)
      ∙ each-same
      (λ product. signed_sum (posted_by title meant)
      (adjusting_on f.number product (accrued_of_product day k product f.rows.loans)))
      (λ product. signed_sum (of_product k f.number product) f.rows.loans)
      (λ product. posted_on title meant f.number product (accrued_of_product day k product f.rows.loans)
      ∙ product_sum k f.number product f.rows.loans) (product_numbers k)
      ∙ sum-swap (of_product k f.number) (product_numbers k) f.rows.loans
      ∙ sum-same (IsSoundLoan k staffed f.rows.clients)
      (λ l. signed_sum (λ product. of_product k f.number product l) (product_numbers k))
      (loan_accrued title meant day k f.number)
      (λ l sound. each_loan k f.number l sound.product) f.rows.loans is.rows.loans

  -- the adjusting postings come to what accrual adds
  pub adjusting_is : (i : Institution) → IsSound i
      → signed_sum (posted_by title meant) (adjusting_opening day i) ≡ accrued title meant day i
  adjusting_is i s =
      sum-flat (posted_by title meant) (office_adjusting day i.catalogue) i.offices
      ∙ sum-same (IsSoundOffice i.catalogue (is_staff i.offices))
      (λ f. signed_sum (posted_by title meant) (office_adjusting day i.catalogue f))
      (office_accrued title meant day i.catalogue)
      (λ f is. office_is i.catalogue (is_staff i.offices) f is) i.offices s.each

-- ---- they come to nothing

-- what accrual adds for a loan comes to nothing
loan_nothing : (s : AccruedSums) → signed_sum (λ title. accrued_on title s) accrual_titles ≡ pos 0
loan_nothing s = omega (arith, ints)

product_nothing : (office product : ℕ) (loans : List AccruedSums)
    → signed_sum (λ (p : Posting). p.amount) (adjusting_on office product loans) ≡ pos 0
product_nothing office product loans =
    sum-swap (λ title s. accrued_on title s) accrual_titles loans
    ∙ sum-zero (λ s. signed_sum (λ title. accrued_on title s) accrual_titles) loan_nothing loans

office_nothing : (day : ℕ) (k : Catalogue) (f : Office)
    → signed_sum (λ (p : Posting). p.amount) (office_adjusting day k f) ≡ pos 0
office_nothing day k f =
    sum-flat (λ (p : Posting). p.amount)
    (λ product. adjusting_on f.number product (accrued_of_product day k product f.rows.loans)) (product_numbers k)
    ∙ sum-zero (λ product. signed_sum (λ (p : Posting). p.amount)
    (adjusting_on f.number product (accrued_of_product day k product f.rows.loans)))
    (λ product. product_nothing f.number product (accrued_of_product day k product f.rows.loans)) (product_numbers k)

pub adjusting_nothing : (day : ℕ) (i : Institution)
    → signed_sum (λ (p : Posting). p.amount) (adjusting_opening day i) ≡ pos 0
adjusting_nothing day i =
    sum-flat (λ (p : Posting). p.amount) (office_adjusting day i.catalogue) i.offices
    ∙ sum-zero (λ f. signed_sum (λ (p : Posting). p.amount) (office_adjusting day i.catalogue f))
    (office_nothing day i.catalogue) i.offices

-- ---- on either basis

-- the opening transactions have what stands on the accounts of a title on the business day
pub opened_is : (kept_on : Basis) (title : Title) (meant : Selection) (i : Institution) → IsSound i
    → opened kept_on title meant i ≡ standing kept_on title meant i.catalogue.day i
opened_is basis.Cash title meant i s = let cash = opening_is title meant i s in omega (arith, ints, cash)
opened_is basis.Accrual title meant i s =
    let cash = opening_is title meant i s in
    let added = adjusting_is title meant i.catalogue.day i s in
    omega (arith, ints, cash, added)

abbrev IsNothing : List Posting → Type 0
IsNothing postings = signed_sum (λ (p : Posting). p.amount) postings ≡ pos 0

-- and each of them comes to nothing
pub each_nothing : (kept_on : Basis) (i : Institution) → IsSound i → AllByRecursion IsNothing (openings kept_on i)
each_nothing basis.Cash i s = (opening_nothing i s, tt)
each_nothing basis.Accrual i s = (opening_nothing i s, (adjusting_nothing i.catalogue.day i, tt))
