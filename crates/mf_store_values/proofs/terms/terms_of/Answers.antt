use Rattle.std.proofs.Common.{ℕ, Option}
use Rattle.std.specs.Option.{option_map}
use Rattle.mf_catalog.specs.Product.{terms_of}
use Rattle.mf_catalog.specs.declared.product.Product.{Product}
use Rattle.mf_catalog.specs.declared.terms.Terms.{Terms}
use Rattle.mf_model.specs.Institution.{Catalogue, ListedProduct, charge_in, product_of}
use Rattle.mf_store_values.specs.Flat.{product_as}
use Rattle.mf_store_values.proofs.NumberedLemmas.{by_row, by_no_row}
use Rattle.mf_store_values.proofs.terms.terms_of.Goals as goal

abbrev terms : Catalogue → ℕ → Option ListedProduct → Option Terms
terms k n o = option_map (λ (p : Product). terms_of (charge_in k) p.members) (option_map (product_of n) o)

pub returns-in_default-clause-terms : goal.returns-in_default-clause-terms
returns-in_default-clause-terms c k e f =
    by_no_row product_as (terms k c.args.product) k.products c.args.product c.args.products.now f c.in_default.ensures

pub returns-clause-terms : goal.returns-clause-terms
returns-clause-terms c k e f =
    by_row product_as (terms k c.args.product) k.products c.args.product c.args.products.now c.in-Some.row.now
    c.terms_with-terms.result f c.in-Some.ensures (λ p is. c.terms_with-terms.ensures k c.args.product p is
    ((c.in_ok-disbursement.ensures {u = tt}).charge k e) ((c.in_ok-instalment.ensures {u = tt}).charge k e)
    ((c.in_ok-overdue.ensures {u = tt}).charge k e))
