use Rattle.std.proofs.Common.{false, refl, ap, ◌∙◌}
use Rattle.mf_model.specs.Institution.{ListedProduct}
use Rattle.mf_store_values.specs.Flat.{product_as}
use Rattle.mf_store_commits.proofs.CatalogueLemmas.{product_becomes, product_suits}
use Rattle.mf_store.proofs.catalogue.new_product.Goals as goal

pub returns-clause-carries : goal.returns-clause-carries
returns-clause-carries c i sound admitted next =
    let offer : ListedProduct = record { members = c.args.members; retired = false } in
    let row_is = c.in_ok-row.ensures.row ∙ ap (λ n. product_as n offer) next in
    record {
      becomes = product_becomes c.args.members i c.in_ok-row.row sound admitted.sound row_is;
      spares = (refl, tt);
      suits = product_suits offer i c.in_ok-row.row row_is;
    }
