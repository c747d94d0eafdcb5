use Rattle.std.proofs.Common.{◌≡◌, ◌==◌, ◌∙◌, ℕ, true, Some, refl, sym, ap, arith}
use Rattle.std.proofs.lemmas.List.{nil_from_length}
use Rattle.std.proofs.lemmas.Option.{slice_get-get_or}
use Rattle.mf_store_archive.proofs.PagingLemmas.{later_page, one_more, whole_page}
use Rattle.mf_store_archive.proofs.paging.page_of.Goals as goal

empty : (n : ℕ) → true ≡ (n == 0) → n ≡ 0
empty n e = grind arith

pub loop-place-preserved : goal.loop-place-preserved
loop-place-preserved c =
    let row = c.index-rows-place.result in
    let there = slice_get-get_or c.args.rows.now c.loop-place.place row c.loop-place-test.true
    ∙ ap Some (sym c.index-rows-place.is) in
    one_more c.args.day c.args.head c.args.rows.now c.loop-place.place c.loop-place.now c.loop-place.writes.items
    c.loop-place.invariant row c.in-Some.kept there c.in-Some.ensures.row c.if-day-kept.false
    c.head_at-now.result c.head_at-now.ensures _ c.in_ok-push.ensures.items

pub returns-then-day-kept-clause-page : goal.returns-then-day-kept-clause-page
returns-then-day-kept-clause-page c =
    let row = c.index-rows-place.result in
    let there = slice_get-get_or c.args.rows.now c.loop-place.place row c.loop-place-test.true
    ∙ ap Some (sym c.index-rows-place.is) in
    later_page c.args.day c.args.head c.args.rows.now c.loop-place.place c.loop-place.now c.loop-place.writes.items
    c.loop-place.invariant row c.in-Some.kept there c.in-Some.ensures.row c.if-day-kept.true _ refl refl refl

pub returns-clause-page : goal.returns-clause-page
returns-clause-page c =
    whole_page c.args.day c.args.head c.args.rows.now c.loop-place.place c.loop-place.now c.loop-place.writes.items
    c.loop-place.invariant c.loop-place-test.false _ refl refl
    (λ last. nil_from_length c.args.rows.now (empty _ (sym last ∙ c.is_empty.ensures)))
