-- Rows of loans that keep all conditions.
use Rattle.std.proofs.Common.{◌≡◌, ◌≤◌, ◌==◌, ◌&&◌, ℕ, ℤ, pos, Bool, true, false, List}
use Rattle.std.proofs.Common.{Option, Some, None, refl, sym, subst, ap, arith}
use Rattle.std.specs.Prelude.{◌-◌, cond, negsuc, nat_le, slice_get, ◌≤ℤ◌}
use Rattle.std.specs.List.{AllByRecursion}
use Rattle.std.proofs.lemmas.Bool.Decides.{nat_tests}
use Rattle.std.proofs.lemmas.Int.{ints}
use Rattle.sqlite_keyed.proofs.ListLemmas.{all-slice_get}
use Rattle.mf_catalog.specs.Product.{allows}
use Rattle.mf_model.specs.Institution.{Catalogue, ListedProduct, item_numbered, product_in}
use Rattle.mf_model.specs.Sound.{IsStageBy, lends}
use Rattle.mf_model.specs.declared.loan.Loan.{Loan}
use Rattle.mf_store_schema.specs.Rows.{by_loan}
use Rattle.mf_store_schema.specs.declared.charges.ChargeRow.{ChargeRow}
use Rattle.mf_store_schema.specs.declared.clients.ClientRow.{ClientRow}
use Rattle.mf_store_schema.specs.declared.loans.LoanRow.{LoanRow}
use Rattle.mf_store_schema.specs.declared.offices.OfficeRow.{OfficeRow}
use Rattle.mf_store_schema.specs.declared.products.ProductRow.{ProductRow}
use Rattle.mf_store_values.specs.Flat.{loan_in, numbered_from, product_as}
use Rattle.mf_store_sound.proofs.LoanLemmas.{lent}
use Rattle.mf_store_audit.specs.Kinds.{loan_flaws}
use Rattle.mf_store_audit.specs.Loans.{is_client, BreaksLoan}
use Rattle.mf_store_audit.specs.Offices.{is_office}
use Rattle.mf_audit_laws.proofs.CatalogueLemmas.{AreOffers, IsOfferRow}
use Rattle.mf_audit_laws.proofs.FoundLemmas.{Keeps}
use Rattle.mf_audit_laws.proofs.NextLemmas.{AreStarted, IsNumbered, is_after, pairs_start}
use Rattle.mf_audit_laws.proofs.WalkLemmas.{Walk, all_stand, found_once, no_greater}
use Rattle.mf_audit_laws.proofs.WalkLemmas.{passes, same_number, walk_each, walk_weaker}

-- the row is that of a loan at a stage that it can have reached, whose product's row allows it
pub record IsLent (today : ℕ) (products : List ProductRow) (row : LoanRow) : Type 0 where
  pub loan : Loan
  pub row_is : loan_in row.office row.number loan ≡ row
  pub stage : IsStageBy today loan.stage
  pub product : ProductRow
  pub named : item_numbered products row.product ≡ Some product
  pub principal : (product.min_principal ≤ℤ row.principal) × (row.principal ≤ℤ product.max_principal)
  pub periods : (product.min_periods ≤ row.periods) × (row.periods ≤ product.max_periods)

-- the same of an office and a client that are there
pub record IsLoanRow (today : ℕ) (offices : List OfficeRow) (clients : List ClientRow) (products : List ProductRow)
    (row : LoanRow) : Type 0 where
  pub lent : IsLent today products row
  pub within : row.number ≤ 999999
  pub there : is_office offices row.office ≡ true
  pub client : is_client clients row.office row.client ≡ true

-- an integer from a natural number on is one
amount_of : (least : ℕ) (cents : ℤ) → pos least ≤ℤ cents → (amount : ℕ) × (pos amount ≡ cents)
amount_of least (pos amount) h = (amount, refl)
amount_of least (negsuc below) h = absurd (let le : pos least ≤ℤ negsuc below = h in omega (arith, ints))

some_of : {A : Type 0} (o : Option A) → ¬ (o ≡ None) → (a : A) × (o ≡ Some a)
some_of None h = absurd (h refl)
some_of (Some a) h = (a, refl)

-- what holds of each row holds of the one that is found by its number
pub numbered_has : {R : Type 0} (P : R → Type 0) (rows : List R) (number : ℕ) (row : R)
    → item_numbered rows number ≡ Some row → AllByRecursion P rows → P row
numbered_has P rows number row found each = go (number == 0) found
  where
    go : (b : Bool) → cond b None (slice_get rows (number - 1)) ≡ Some row → P row
    go true e = absurd (cc)
    go false e = all-slice_get P rows (number - 1) row e each

loan_is : (today : ℕ) (offices : List OfficeRow) (clients : List ClientRow) (charges : List ChargeRow)
    (products : List ProductRow) → AreOffers charges products → (before : Option LoanRow) (row : LoanRow)
    → Keeps loan_flaws (BreaksLoan today offices clients products) before row
    → ¬ ¬ IsLoanRow today offices clients products row
loan_is today offices clients charges products offers before row keeps fails =
    let from_office = keeps.1 in
    let from_number = from_office.1 in
    let from_limit = from_number.1 in
    let from_client = from_limit.1 in
    let from_product = from_client.1 in
    let from_principal = from_product.1 in
    let from_periods = from_principal.1 in
    let from_stage = from_periods.1 in
    let from_approved = from_stage.1 in
    let from_disbursed = from_approved.1 in
    let from_days = from_disbursed.1 in
    let found = some_of (item_numbered products row.product) from_product.0 in
    let offer = (numbered_has (λ (p : ProductRow). (p.number ≤ 999) × IsOfferRow charges p) products row.product
    found.0 found.1 offers.each).1 in
    from_days.0 (λ reached. from_principal.0 (λ p is_p lends. from_periods.0 (λ q is_q runs.
    let same_p = found_once (item_numbered products row.product) p found.0 is_p found.1 in
    let same_q = found_once (item_numbered products row.product) q found.0 is_q found.1 in
    let lends_so = subst (λ (r : ProductRow). (r.min_principal ≤ℤ row.principal) × (row.principal ≤ℤ r.max_principal))
    same_p lends in
    let least : pos offer.product.members.min_principal ≡ found.0.min_principal =
    ap (λ (r : ProductRow). r.min_principal) offer.row_is in
    let amount = amount_of offer.product.members.min_principal row.principal
    (subst (λ z. z ≤ℤ row.principal) (sym least) lends_so.0) in
    fails (record {
      lent = record {
        loan = record {
          client = row.client;
          product = row.product;
          principal = amount.0;
          periods = row.periods;
          stage = reached.0;
        };
        row_is = λ t. record row {
          principal = amount.1 t;
          stage = reached.2 t;
          approved = reached.3 t;
          disbursed = reached.4 t;
        };
        stage = reached.1;
        product = found.0;
        named = found.1;
        principal = lends_so;
        periods = subst (λ (r : ProductRow). (r.min_periods ≤ row.periods) × (row.periods ≤ r.max_periods)) same_q runs;
      };
      within = no_greater row.number 999999 from_limit.0;
      there = passes (is_office offices row.office) from_office.0;
      client = passes (is_client clients row.office row.client) from_client.0;
    }))))

-- rows of loans, office by office
pub record AreLoanRows (today : ℕ) (offices : List OfficeRow) (clients : List ClientRow) (products : List ProductRow)
    (rows : List LoanRow) : Type 0 where
  pub starts : AreStarted (λ (l : LoanRow). l.office) (λ l. l.number) rows
  pub each : AllByRecursion (IsLoanRow today offices clients products) rows

pub loans_are : (today : ℕ) (offices : List OfficeRow) (clients : List ClientRow) (charges : List ChargeRow)
    (products : List ProductRow) (rows : List LoanRow) → AreOffers charges products
    → Walk (Keeps loan_flaws (BreaksLoan today offices clients products)) None rows
    → ¬ ¬ AreLoanRows today offices clients products rows
loans_are today offices clients charges products rows offers walk fails =
    all_stand (IsLoanRow today offices clients products) rows
    (walk_each (Keeps loan_flaws (BreaksLoan today offices clients products)) _
    (loan_is today offices clients charges products offers) None rows walk)
    (λ each. fails (record {
      starts = pairs_start (λ (l : LoanRow). l.office) (λ l. l.number) rows
          (walk_weaker (Keeps loan_flaws (BreaksLoan today offices clients products))
          (IsNumbered (λ (l : LoanRow). l.office) (λ l. l.number))
          (λ b r keeps. (is_after by_loan b r keeps.0, same_number r.number _ keeps.1.1.0)) None rows walk);
      each = each;
    }))

-- ---- by a catalogue that has the rows of products

within_limits : (p : ListedProduct) (principal periods : ℕ) → p.members.min_principal ≤ principal
    → principal ≤ p.members.max_principal → p.members.min_periods ≤ periods → periods ≤ p.members.max_periods
    → true ≡ allows p.members principal periods
within_limits p principal periods a b c d =
    let w : true ≡ nat_le p.members.min_principal principal = grind (arith, nat_tests) in
    let x : true ≡ nat_le principal p.members.max_principal = grind (arith, nat_tests) in
    let y : true ≡ nat_le p.members.min_periods periods = grind (arith, nat_tests) in
    let z : true ≡ nat_le periods p.members.max_periods = grind (arith, nat_tests) in
    λ t. (w t && x t) && (y t && z t)

-- the product lends so, by any catalogue that has the rows of products
pub lends_under : (today : ℕ) (k : Catalogue) (products : List ProductRow)
    → numbered_from product_as 1 k.products ≡ products → (row : LoanRow) (h : IsLent today products row)
    → lends (product_in k h.loan.product) h.loan.principal h.loan.periods ≡ true
lends_under today k products are row h =
    sym (lent k products (Some h.product) row h.loan true are (sym h.named) h.row_is (λ number p is.
    let principal_is : pos h.loan.principal ≡ row.principal = ap (λ (r : LoanRow). r.principal) h.row_is in
    let periods_is : h.loan.periods ≡ row.periods = ap (λ (r : LoanRow). r.periods) h.row_is in
    let low_is : pos p.members.min_principal ≡ h.product.min_principal = ap (λ (r : ProductRow). r.min_principal) is in
    let high_is : pos p.members.max_principal ≡ h.product.max_principal = ap (λ (r : ProductRow). r.max_principal) is in
    let least_is : p.members.min_periods ≡ h.product.min_periods = ap (λ (r : ProductRow). r.min_periods) is in
    let most_is : p.members.max_periods ≡ h.product.max_periods = ap (λ (r : ProductRow). r.max_periods) is in
    let low = subst (λ z. z ≤ℤ pos h.loan.principal) (sym low_is)
    (subst (λ z. h.product.min_principal ≤ℤ z) (sym principal_is) h.principal.0) in
    let high = subst (λ z. pos h.loan.principal ≤ℤ z) (sym high_is)
    (subst (λ z. z ≤ℤ h.product.max_principal) (sym principal_is) h.principal.1) in
    let least = h.periods.0 in
    let most = h.periods.1 in
    within_limits p h.loan.principal h.loan.periods
    (at_most p.members.min_principal h.loan.principal low) (at_most h.loan.principal p.members.max_principal high)
    (omega (arith, least_is, periods_is, least)) (omega (arith, most_is, periods_is, most))))
  where
    at_most : (a b : ℕ) → pos a ≤ℤ pos b → a ≤ b
    at_most a b h = omega (arith, ints, h)
