use Rattle.std.proofs.Common.{refl}
use Rattle.mf_store.proofs.MadeLemmas.{beside}
use Rattle.mf_store.proofs.NewsLemmas.{retired_tells}
use Rattle.mf_store.proofs.store.Store.retire_product.Goals as goal

pub returns : goal.returns
returns g c =
    c.make.ensures _ _ c.in_ok-write.ensures.asks.kept (λ clean i s admitted.
    let carried = c.in_ok-write.ensures.carries clean i s admitted in (
      beside refl refl carried.spares carried.becomes,
      retired_tells c.args.product i,
    ))
