use Rattle.std.proofs.Common.{arith, refl}
use Rattle.std.proofs.lemmas.Grind.{common_steps}
use Rattle.std.proofs.lemmas.Option.{slice_get-get_or}
use Rattle.mf_store_lists.proofs.ChangeLemmas.{found_all, found_enough, found_first, found_next}
use Rattle.mf_store_lists.proofs.changes.put_lines.Goals as goal

pub loop-at-init : goal.loop-at-init
loop-at-init c = found_first c.args.asked.now c.args.rows.now _

pub returns-then-has_all-clause-found : goal.returns-then-has_all-clause-found
returns-then-has_all-clause-found c =
    found_enough c.args.asked.now c.args.rows.now c.loop-at.at c.len.result _ _ c.loop-at.invariant
    ((c.if-has_all.ensures {u = tt}).0 refl) (grind (arith, common_steps))

pub loop-at-preserved : goal.loop-at-preserved
loop-at-preserved c =
    found_next c.args.asked.now c.args.rows.now c.loop-at.at _ _ _ _
    (slice_get-get_or c.args.rows.now c.loop-at.at _ c.loop-at-test.true) c.loop-at.invariant
    (c.in_ok-place.ensures {u = tt}).found

pub returns-clause-found : goal.returns-clause-found
returns-clause-found c =
    found_all c.args.asked.now c.args.rows.now c.loop-at.at _ _ c.loop-at.invariant c.loop-at-test.false
