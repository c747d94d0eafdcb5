-- Rows of loans, and the products that they name.
use Rattle.std.proofs.Common.{◌≡◌, ◌↔◌, ◌∙◌, ℕ, pos, Bool, false, List, IsTrue, Option, Some, None, refl, sym}
use Rattle.std.proofs.Common.{ap, subst}
use Rattle.std.specs.Option.{option_map}
use Rattle.mf_catalog.specs.Product.{allows}
use Rattle.mf_model.specs.Institution.{Catalogue, ListedProduct, product_in, product_of, item_numbered}
use Rattle.mf_model.specs.Sound.{IsStageBy, lends}
use Rattle.mf_model.specs.declared.loan.Loan.{Loan}
use Rattle.mf_store_schema.specs.declared.loans.LoanRow.{LoanRow}
use Rattle.mf_store_schema.specs.declared.products.ProductRow.{ProductRow}
use Rattle.mf_store_values.specs.Flat.{loan_in, product_as, numbered_from}
use Rattle.mf_store_sound.specs.Stages.{IsStageOf}
use Rattle.mf_store_sound.specs.Stored.{IsRowOf}
use Rattle.mf_store_sound.proofs.StoredLemmas.{value_found}

-- what is told of a loan by the row of a product, if there is one
abbrev Tells : Bool → Loan → Option ProductRow → Type 0
Tells b l None = b ≡ false
Tells b l (Some product) = (number : ℕ) (p : ListedProduct) → product_as number p ≡ product
    → b ≡ allows p.members l.principal l.periods

-- the row of the loan's product was looked for
pub lent : (k : Catalogue) (rows : List ProductRow) (found : Option ProductRow) (row : LoanRow) (l : Loan) (b : Bool)
    → numbered_from product_as 1 k.products ≡ rows → found ≡ item_numbered rows row.product
    → loan_in row.office row.number l ≡ row → Tells b l found
    → b ≡ lends (product_in k l.product) l.principal l.periods
lent k rows found row l b e is own tells = go (item_numbered k.products l.product)
    (subst (Tells b l) (value_found product_as k.products rows l.product found e
    (is ∙ (λ t. item_numbered rows (sym own t).product))) tells)
  where
    go : (o : Option ListedProduct) → Tells b l (option_map (product_as l.product) o)
        → b ≡ lends (option_map (product_of l.product) o) l.principal l.periods
    go None told = told
    go (Some p) told = told l.product p refl

-- a loan's own row, by the stage that its columns tell
pub loan_row_is : (today office number amount : ℕ) (row : LoanRow) (b : Bool) → row.office ≡ office
    → row.number ≡ number → pos amount ≡ row.principal → (IsTrue b ↔ IsStageOf today row.stage row.approved
    row.disbursed) → IsTrue b ↔ IsRowOf (loan_in office) (λ (l : Loan). IsStageBy today l.stage) number row
loan_row_is today office number amount row b o n a h = (
  λ yes.
      let s = h.0 yes in
      record {
        value = record {
          client = row.client;
          product = row.product;
          principal = amount;
          periods = row.periods;
          stage = s.0;
        };
        passes = s.1;
        row_is = λ t. record row {
          office = sym o t;
          number = sym n t;
          principal = a t;
          stage = s.2 t;
          approved = s.3 t;
          disbursed = s.4 t;
        };
      },
  λ are. h.1 (
    are.value.stage,
    are.passes,
    ap (λ (r : LoanRow). r.stage) are.row_is,
    ap (λ (r : LoanRow). r.approved)
        are.row_is,
    ap (λ (r : LoanRow). r.disbursed) are.row_is,
  ),
)
