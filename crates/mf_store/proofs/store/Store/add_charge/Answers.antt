use Rattle.std.proofs.Common.{◌+◌, refl, ap, ◌∙◌}
use Rattle.mf_model.specs.declared.store.CatalogueCounts.{CatalogueCounts}
use Rattle.mf_model.specs.Institution.{ListedCharge}
use Rattle.mf_store_values.specs.Flat.{charge_as}
use Rattle.mf_store_commits.proofs.CatalogueLemmas.{charge_becomes}
use Rattle.mf_store.proofs.MadeLemmas.{beside}
use Rattle.mf_store.proofs.NewsLemmas.{charge_tells}
use Rattle.mf_store.proofs.store.Store.add_charge.Goals as goal

pub returns : goal.returns
returns g c =
    let charge : ListedCharge = record
    { name = c.args.name; kind = c.args.kind; calc = c.args.calc; value = c.args.value } in
    c.make.ensures _ _ c.in_ok-counts.ensures.asks.kept (λ clean i s admitted.
    let counts = c.in_ok-counts.ensures.value clean i s in (
      beside refl refl (refl, tt) (charge_becomes charge i c.in_ok-row.row s.sound admitted.sound
          (c.in_ok-row.ensures.row
          ∙ ap (λ (k : CatalogueCounts). charge_as (k.charges + 1) charge) counts)),
      charge_tells charge i c.in_ok-counts.counts s.sound counts,
    ))
