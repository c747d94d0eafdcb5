use Rattle.std.proofs.Common.{◌++◌, Some, map, ap, arith, ◌∙◌}
use Rattle.std.proofs.lemmas.Grind.{common_steps}
use Rattle.mf_journal.specs.Chain.{line_of_row}
use Rattle.mf_lists.specs.Takings.{movements_on, takings_of}
use Rattle.mf_model.specs.Store.{rows_at}
use Rattle.mf_store_noted.specs.Kept.{begins_of}
use Rattle.mf_store.proofs.KeptLemmas.{stays_same, stays_then}
use Rattle.mf_store_lists.proofs.DayLemmas.{counted_all, counted_none, counted_on}
use Rattle.mf_store_lists.proofs.takings.taken_from.Goals as goal

pub pages-init : goal.pages-init
pages-init g c = record {
  kept = stays_same g.S.Store _;
  counted = λ clean i lines s begun are. counted_none c.args.office c.args.day i.catalogue (rows_at c.args.office i)
      c.args.begins lines _ _ (c.in_ok-number.ensures {u = tt}).number c.new-takings.ensures.items;
}

pub returns-then-is_empty-clause-value : goal.returns-then-is_empty-clause-value
returns-then-is_empty-clause-value g c clean i lines s begun are =
    let now = c.in_ok-next.ensures {u = tt} in
    let before = now.asks.kept.premise clean in
    let kept = c.pages.invariant.kept in
    let counted = c.pages.invariant.counted before i lines s begun are in
    c.new.ensures
    ∙ counted_all c.args.office c.args.day i.catalogue (rows_at c.args.office i) c.args.begins lines c.pages.number _
    counted _ _ (rw c.sought_on-sought.ensures at (now.rows clean i c.args.begins counted.done counted.rest
    (kept.same before i s) (ap begins_of kept.journal ∙ begun) (are ∙ ap Some counted.are) counted.count))
    (grind (arith, common_steps))

pub pages-preserved : goal.pages-preserved
pages-preserved g c =
    let now = c.in_ok-next.ensures {u = tt} in
    let put = c.in_ok-takings.ensures {u = tt} in
    let kept = c.pages.invariant.kept in
    record {
      kept = stays_then g.S.Store _ _ _ (stays_then g.S.Store _ _ _ kept now.asks.kept) put.asks.kept;
      counted = λ clean i lines s begun are.
          let mid = put.asks.kept.premise clean in
          let before = now.asks.kept.premise mid in
          let counted = c.pages.invariant.counted before i lines s begun are in
          let next = rw c.sought_on-sought.ensures at (now.rows mid i c.args.begins counted.done counted.rest
          (kept.same before i s) (ap begins_of kept.journal ∙ begun) (are ∙ ap Some counted.are) counted.count) in
          let moves = movements_on c.args.office c.args.day i.catalogue (rows_at c.args.office i) in
          counted_on c.args.office c.args.day i.catalogue (rows_at c.args.office i) c.args.begins lines c.pages.number _
          counted _ _ next _ _
          (put.more clean i (now.asks.kept.same mid i (kept.same before i s)) (moves counted.done) counted.taken
          ∙ ap (λ ls. takings_of (moves counted.done ++ moves ls))
          (ap (map line_of_row) c.deref-in-pages.ensures.value
          ∙ (c.in_ok-rows.ensures {u = tt}).told next.before next.turn (c.deref.ensures.value ∙ next.told)))
          (grind (arith, common_steps));
    }
