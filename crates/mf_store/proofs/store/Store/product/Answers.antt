use Rattle.std.proofs.Common.{Some, sym, ap, ◌∙◌}
use Rattle.std.specs.Option.{option_map}
use Rattle.mf_model.specs.Institution.{item_numbered, product_of}
use Rattle.mf_store_values.specs.Flat.{product_as}
use Rattle.mf_store.proofs.CatalogueLemmas.{known}
use Rattle.mf_store.proofs.KeptLemmas.{learnt_asks, clean_before}
use Rattle.mf_store.proofs.store.Store.product.Goals as goal

pub returns-clause-value : goal.returns-clause-value
returns-clause-value g c clean i s =
    let k = known (product_as c.args.number) c.in_ok-row.field-0 c.in-Some-2.row (item_numbered i.catalogue.products
    c.args.number) c.in-Some-2.is (c.in_ok-row.ensures.value (clean_before g.S.Store _ _ c.learn_product.ensures.tables
    clean) i s) in
    ap Some (c.in_ok-product.ensures.product c.args.number k.0 k.2)
    ∙ sym (ap (option_map (product_of c.args.number)) k.1)

pub returns-clause-asks : goal.returns-clause-asks
returns-clause-asks g c =
    learnt_asks g.S.Store _ _ _ _ c.in_ok-row.ensures.asks.kept (λ clean up.
    c.in_ok-row.ensures.asks.stays_open clean) c.learn_product.ensures.same c.learn_product.ensures.tables
    c.learn_product.ensures.journal
    (λ clean i s.
    let k = known (product_as c.args.number) c.in_ok-row.field-0 c.in-Some-2.row (item_numbered i.catalogue.products
    c.args.number) c.in-Some-2.is (c.in_ok-row.ensures.value clean i s) in
    ap (option_map (product_of c.args.number)) k.1 ∙ ap Some (sym (c.in_ok-product.ensures.product c.args.number k.0
    k.2)))
