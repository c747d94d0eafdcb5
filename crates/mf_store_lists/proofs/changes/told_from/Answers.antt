use Rattle.std.proofs.Common.{Some, ap, arith, refl, subst, ◌∙◌}
use Rattle.std.proofs.lemmas.Grind.{common_steps}
use Rattle.mf_store_noted.specs.Kept.{begins_of}
use Rattle.mf_store.proofs.KeptLemmas.{stays_same, stays_then}
use Rattle.mf_store_lists.specs.Changed.{IsEnough}
use Rattle.mf_store_lists.proofs.ChangeLemmas.{found_none, looked_all, looked_enough, looked_none, looked_on}
use Rattle.mf_store_lists.proofs.changes.told_from.Goals as goal

pub pages-init : goal.pages-init
pages-init g c = record {
  kept = stays_same g.S.Store _;
  looked = λ clean i lines s begun are. looked_none c.args.asked.now c.args.begins lines _
      (found_none c.args.asked.now _ refl c.new-lines.ensures.items) _ (c.in_ok-number.ensures {u = tt}).number;
}

pub returns-then-is_empty-clause-value : goal.returns-then-is_empty-clause-value
returns-then-is_empty-clause-value g c clean i lines s begun are =
    let now = c.in_ok-next.ensures {u = tt} in
    let before = now.asks.kept.premise clean in
    let kept = c.pages.invariant.kept in
    let looked = c.pages.invariant.looked before i lines s begun are in
    c.new.ensures
    ∙ looked_all c.args.asked.now c.args.begins lines c.pages.number _ looked _ _
    (rw c.sought-sought.ensures at (now.rows clean i c.args.begins looked.done looked.rest (kept.same before i s)
    (ap begins_of kept.journal ∙ begun) (are ∙ ap Some looked.are) looked.count))
    (grind (arith, common_steps))

pub returns-then-has_all-clause-value : goal.returns-then-has_all-clause-value
returns-then-has_all-clause-value g c clean i lines s begun are =
    let now = c.in_ok-next.ensures {u = tt} in
    let before = now.asks.kept.premise clean in
    let kept = c.pages.invariant.kept in
    let looked = c.pages.invariant.looked before i lines s begun are in
    c.new-then-has_all.ensures
    ∙ looked_enough c.args.asked.now c.args.begins lines c.pages.number _ looked _ _
    (rw c.sought-sought.ensures at (now.rows clean i c.args.begins looked.done looked.rest (kept.same before i s)
    (ap begins_of kept.journal ∙ begun) (are ∙ ap Some looked.are) looked.count))
    (subst (IsEnough c.args.asked.now.most) (grind (arith, common_steps)) ((c.if-has_all.ensures {u = tt}).0 refl))

pub pages-preserved : goal.pages-preserved
pages-preserved g c =
    let now = c.in_ok-next.ensures {u = tt} in
    let kept = c.pages.invariant.kept in
    record {
      kept = stays_then g.S.Store _ _ _ kept now.asks.kept;
      looked = λ clean i lines s begun are.
          let before = now.asks.kept.premise clean in
          let looked = c.pages.invariant.looked before i lines s begun are in
          looked_on c.args.asked.now c.args.begins lines c.pages.number _ looked _ _
          (rw c.sought-sought.ensures at (now.rows clean i c.args.begins looked.done looked.rest (kept.same before i s)
          (ap begins_of kept.journal ∙ begun) (are ∙ ap Some looked.are) looked.count))
          (λ all. absurd (let no = (c.if-has_all.ensures {u = tt}).1
          (subst (IsEnough c.args.asked.now.most) (grind (arith, common_steps)) all) in cc))
          _ (λ first more are found. (c.in_ok-place.ensures {u = tt}).found _ first more
          (c.deref.ensures.value ∙ are) found) _ (grind (arith, common_steps));
    }
