use Rattle.std.proofs.Common.{◌++◌, ap, ◌∙◌}
use Rattle.mf_ledger.specs.Adjusting.{adjusting_on}
use Rattle.mf_ledger_play.specs.Opening.{moving}
use Rattle.mf_ledger_play.proofs.opening.open_product.Goals as goal

pub returns-clause-added : goal.returns-clause-added
returns-clause-added c =
    c.in_ok-push_moving-2.ensures.moved
    ∙ ap (λ ps. c.args.opening.now.added.items ++ moving ps) (c.opening_adjustments.ensures
    ∙ ap (adjusting_on c.args.office c.args.product) (c.deref-2.ensures.value ∙ c.in_ok-sums.ensures.accrued))
