use Rattle.std.proofs.Common.{Some, true≢false, sym, ap, ◌∙◌, arith}
use Rattle.std.proofs.lemmas.Option.{slice_get-get_or}
use Rattle.mf_store_played.proofs.RowLemmas.{same_next, first_longer, second_longer, differ_there, same_whole}
use Rattle.mf_store_played.proofs.rows.first_difference.Goals as goal

pub loop-place-preserved : goal.loop-place-preserved
loop-place-preserved g c =
    let row = c.index-rows-place.result in
    let other = c.index-others-place.result in
    let here = slice_get-get_or c.args.rows.now c.loop-place.place row c.loop-place-test.true
    ∙ ap Some (sym c.index-rows-place.is) in
    let there = slice_get-get_or c.args.others.now c.loop-place.place other c.if-place-others.false
    ∙ ap Some (sym c.index-others-place.is) in
    same_next c.args.rows.now c.args.others.now c.loop-place.place row other here there
    ((c.is_same_row.ensures).0 c.if-not-is_same_row.false) c.loop-place.invariant

pub returns-then-place-others-clause-differ : goal.returns-then-place-others-clause-differ
returns-then-place-others-clause-differ g c =
    first_longer c.args.rows.now c.args.others.now c.loop-place.place c.loop-place-test.true c.if-place-others.true
    c.loop-place.invariant

pub returns-then-not-is_same_row-clause-differ : goal.returns-then-not-is_same_row-clause-differ
returns-then-not-is_same_row-clause-differ g c =
    let row = c.index-rows-place.result in
    let other = c.index-others-place.result in
    let here = slice_get-get_or c.args.rows.now c.loop-place.place row c.loop-place-test.true
    ∙ ap Some (sym c.index-rows-place.is) in
    let there = slice_get-get_or c.args.others.now c.loop-place.place other c.if-place-others.false
    ∙ ap Some (sym c.index-others-place.is) in
    differ_there c.args.rows.now c.args.others.now c.loop-place.place row other here there
    (λ same. true≢false (sym ((c.is_same_row.ensures).1 same) ∙ c.if-not-is_same_row.true)) c.loop-place.invariant

pub returns-then-rows-others-clause-differ : goal.returns-then-rows-others-clause-differ
returns-then-rows-others-clause-differ g c =
    second_longer c.args.rows.now c.args.others.now c.loop-place.place c.loop-place-test.false c.if-rows-others.true
    c.loop-place.auto.place-end c.loop-place.invariant

pub returns-clause-same : goal.returns-clause-same
returns-clause-same g c =
    same_whole c.args.rows.now c.args.others.now c.loop-place.place c.loop-place-test.false
    (omega (arith, c.if-rows-others.false, c.loop-place-test.false)) c.loop-place.invariant
