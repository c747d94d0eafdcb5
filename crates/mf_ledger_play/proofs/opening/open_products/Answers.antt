use Rattle.mf_ledger.specs.Adjusting.{adjusting_on}
use Rattle.mf_ledger.specs.Opening.{opening_on}
use Rattle.mf_ledger_play.specs.Opening.{accrued_with, sums_with}
use Rattle.mf_ledger_play.proofs.OpeningLemmas.{one_product_more}
use Rattle.mf_ledger_play.proofs.opening.open_products.Goals as goal

pub loop-place-preserved : goal.loop-place-preserved
loop-place-preserved c = record {
  cash = one_product_more (λ product. opening_on c.args.office product (sums_with product c.args.states.now))
      c.loop-place.place c.args.opening.now.cash.items c.loop-place.opening.cash.items
      c.open_product.new.opening.cash.items c.loop-place.invariant.cash c.in_ok-open_product.ensures.cash;
  added = one_product_more (λ product. adjusting_on c.args.office product (accrued_with product c.args.states.now))
      c.loop-place.place c.args.opening.now.added.items c.loop-place.opening.added.items
      c.open_product.new.opening.added.items c.loop-place.invariant.added c.in_ok-open_product.ensures.added;
}
