use Rattle.std.proofs.Common.{true, refl, ap, ◌∙◌}
use Rattle.mf_model.specs.Institution.{ListedProduct, item_numbered}
use Rattle.mf_store_values.specs.Flat.{product_as}
use Rattle.mf_store_schema.specs.declared.products.ProductRow.{ProductRow}
use Rattle.mf_store_commits.proofs.CatalogueLemmas.{retired_becomes, retired_suits}
use Rattle.mf_store.proofs.CatalogueLemmas.{known}
use Rattle.mf_store.proofs.store.Store.retirement.Goals as goal

pub returns-clause-carries : goal.returns-clause-carries
returns-clause-carries g c clean i s admitted =
    let product = c.args.product in
    let k = known (product_as product) c.in_ok-found.field-0 c.in-Some.found (item_numbered i.catalogue.products
    product) c.in-Some.is (c.in_ok-found.ensures.value clean i s) in
    let row_is = c.retire-row.ensures ∙ ap (λ (r : ProductRow). record r { retired = 1 }) k.2 in
    let now : ListedProduct = record k.0 { retired = true } in
    record {
      becomes = retired_becomes product k.0 i c.retire-row.result s.sound admitted.sound k.1 row_is;
      spares = (refl, tt);
      suits = retired_suits product k.0 now i c.retire-row.result k.1 row_is;
    }
