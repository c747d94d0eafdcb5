use Rattle.std.proofs.Common.{◌++◌, ◌+◌, ◌∙◌, map, [], ◌∷◌}
use Rattle.mf_store_values.specs.Flat.{instalment_in, numbered_from}
use Rattle.mf_store_values.proofs.MadeLemmas.{at_row, one_made}
use Rattle.mf_store_values.proofs.instalment_rows.add_instalments.Goals as goal

pub loop-row-preserved : goal.loop-row-preserved
loop-row-preserved c =
    let made = c.loop-row.made.items in
    one_made _ made _ _ _ (c.loop-row.invariant ∙ (λ t. made ++ map (instalment_in c.args.office c.args.loan)
    (numbered_from (λ n row. (n, row)) (c.loop-row.number + 1) (at_row c.args.rows.now c.loop-row.row-index
    c.row-item.result c.loop-row-test.true c.row-item.is t))))
    (c.in_ok-push.ensures.items ∙ (λ t. made ++ c.in_ok-kept.ensures.row t ∷ []))
