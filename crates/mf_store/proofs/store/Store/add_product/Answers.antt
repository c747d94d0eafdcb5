use Rattle.std.proofs.Common.{◌+◌, refl, ap}
use Rattle.mf_model.specs.declared.store.CatalogueCounts.{CatalogueCounts}
use Rattle.mf_store.proofs.MadeLemmas.{beside}
use Rattle.mf_store.proofs.NewsLemmas.{product_tells}
use Rattle.mf_store.proofs.store.Store.add_product.Goals as goal

pub returns : goal.returns
returns g c =
    c.make.ensures _ _ c.in_ok-counts.ensures.asks.kept (λ clean i s admitted.
    let counts = c.in_ok-counts.ensures.value clean i s in
    let carried = c.in_ok-write.ensures.carries i s.sound admitted
    (ap (λ (k : CatalogueCounts). k.products + 1) counts) in (
      beside refl refl carried.spares carried.becomes,
      product_tells c.args.members i c.in_ok-counts.counts counts,
    ))
