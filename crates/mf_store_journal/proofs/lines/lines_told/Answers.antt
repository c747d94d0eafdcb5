use Rattle.std.proofs.Common.{Some, sym, ap, ◌∙◌}
use Rattle.std.proofs.lemmas.Option.{slice_get-get_or}
use Rattle.mf_store_journal.proofs.PageLemmas.{told_more, told_all}
use Rattle.mf_store_journal.proofs.lines.lines_told.Goals as goal

pub loop-place-preserved : goal.loop-place-preserved
loop-place-preserved c =
    let row = c.index-rows-place.result in
    let there = slice_get-get_or c.args.rows.now c.loop-place.place row c.loop-place-test.true
    ∙ ap Some (sym c.index-rows-place.is) in
    told_more c.args.rows.now c.loop-place.place row c.in-Some.kept c.loop-place.told.items _ there
    c.in-Some.ensures.row (c.in_ok-push.ensures {u = tt}).items c.loop-place.invariant

pub returns-clause-told : goal.returns-clause-told
returns-clause-told c h lines are =
    told_all c.args.rows.now c.loop-place.place c.loop-place.told.items c.loop-place-test.false c.loop-place.invariant h
    lines are
