use Rattle.std.proofs.Common.{◌%◌, arith, ◌∙◌}
use Rattle.mf_base.proofs.WrittenLemmas.{padded_two}
use Rattle.mf_base.proofs.money.money_text.Goals as goal

pub returns-clause-ok : goal.returns-clause-ok
returns-clause-ok c =
    let is = rw c.laid_out.ensures at c.in_ok-text.ensures.ok in
    is ∙ rw (padded_two (c.args.cents % 100) (omega arith))
