use Rattle.std.proofs.Common.{Some, sym, ap, ◌∙◌}
use Rattle.std.proofs.lemmas.Option.{slice_get-get_or}
use Rattle.mf_store_journal.proofs.CheckLemmas.{so_far_none, so_far_more, so_far_stops, broken_line, no_line_has}
use Rattle.mf_store_archived.proofs.CheckLemmas.{shown_none, shown_more, shown_all}
use Rattle.mf_store_archived.proofs.checking.follow_rows.Goals as goal

pub loop-place-init : goal.loop-place-init
loop-place-init c = (so_far_none c.args.head c.args.rows.now, shown_none c.args.head c.args.rows.now)

pub loop-place-preserved : goal.loop-place-preserved
loop-place-preserved c =
    let row = c.index-rows-place.result in
    let there = slice_get-get_or c.args.rows.now c.loop-place.place row c.loop-place-test.true
    ∙ ap Some (sym c.index-rows-place.is) in (
      so_far_more c.args.head c.args.rows.now c.loop-place.place row c.loop-place.now c.in-Some.kept c.in-Ok.next there
          c.in-Some.ensures.row c.in-Some.ensures.place c.in-Ok.ensures.follows.0
          c.in-Ok.ensures.follows.1 c.loop-place.invariant.0,
      shown_more c.args.head c.args.rows.now c.loop-place.place row c.loop-place.now c.in-Some.kept c.in-Ok.next there
          c.in-Some.ensures.row c.in-Some.ensures.place c.in-Ok.ensures.follows.0
          c.in-Ok.ensures.follows.1 c.loop-place.invariant.1,
    )

pub returns-in_default-clause-flawed : goal.returns-in_default-clause-flawed
returns-in_default-clause-flawed c =
    let row = c.index-rows-place.result in
    let there = slice_get-get_or c.args.rows.now c.loop-place.place row c.loop-place-test.true
    ∙ ap Some (sym c.index-rows-place.is) in
    so_far_stops c.args.head c.args.rows.now c.loop-place.place row c.loop-place.now _ there
    (no_line_has c.loop-place.now row c.in_default.ensures.none) c.loop-place.invariant.0

pub returns-in-Err-clause-flawed : goal.returns-in-Err-clause-flawed
returns-in-Err-clause-flawed c =
    let row = c.index-rows-place.result in
    let there = slice_get-get_or c.args.rows.now c.loop-place.place row c.loop-place-test.true
    ∙ ap Some (sym c.index-rows-place.is) in
    so_far_stops c.args.head c.args.rows.now c.loop-place.place row c.loop-place.now _ there
    (broken_line c.loop-place.now c.in-Some.kept row c.in-Err.flaw c.in-Some.ensures.row c.in-Err.ensures.breaks)
    c.loop-place.invariant.0

pub returns-clause-follow : goal.returns-clause-follow
returns-clause-follow c = shown_all _ _ _ _ c.loop-place-test.false c.loop-place.invariant.1
