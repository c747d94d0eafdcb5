use Rattle.std.proofs.Common.{◌+◌, ◌∙◌, refl}
use Rattle.mf_portions_play.proofs.ReadingLemmas.{products_more, products_none}
use Rattle.mf_portions_play.proofs.reading.put_products.Goals as goal

pub loop-place-init : goal.loop-place-init
loop-place-init c = products_none c.args.office c.args.held.now c.args.lines.now.items

pub loop-place-preserved : goal.loop-place-preserved
loop-place-preserved c =
    products_more c.args.office c.args.held.now c.loop-place.place (c.loop-place.place + 1) c.deref.result.now
    c.args.lines.now.items c.loop-place.lines.items c.put_product.new.lines.items refl
    (c.deref.ensures.value ∙ c.in_ok-loans.ensures.sums) c.loop-place.invariant c.in_ok-put_product.ensures.lines
