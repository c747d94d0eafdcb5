use Rattle.std.proofs.Common.{◌++◌, ◌+◌, sym, ap, ◌∙◌, arith}
use Rattle.std.proofs.lemmas.Grind.{common_steps}
use Rattle.mf_lists.specs.Lists.{due_line, is_due}
use Rattle.mf_model.specs.Store.{rows_at}
use Rattle.mf_store.proofs.KeptLemmas.{stays_same, stays_then}
use Rattle.mf_store_lists.specs.Due.{due_told}
use Rattle.mf_store_lists.specs.Told.{told_if}
use Rattle.mf_store_lists.proofs.DueLemmas.{none_due_before}
use Rattle.mf_store_lists.proofs.LookedUpLemmas.{none_before, number_there, told_next}
use Rattle.mf_store_lists.proofs.ToldLemmas.{later_is}
use Rattle.mf_store_lists.proofs.due.put_near.Goals as goal

pub loop-reached-init : goal.loop-reached-init
loop-reached-init g c = record {
  kept = stays_same g.S.Store _;
  live = λ clean opened. opened;
  asked = λ clean more. absurd (omega (arith, more));
  from = omega arith;
  few = λ few. few;
  read = λ clean i s last none. let rows = rows_at c.args.office i in
      none ∙ sym (none_before (due_told c.args.day c.args.after i.catalogue rows) c.args.after rows.loans
      (none_due_before c.args.day c.args.after i.catalogue rows));
}

pub loop-reached-preserved : goal.loop-reached-preserved
loop-reached-preserved g c =
    let was = c.loop-reached.invariant in
    let now = c.in_ok-put_numbered.ensures in
    let day = c.args.day in
    let after = c.args.after in
    let n = c.loop-reached.reached in
    record {
      kept = stays_then g.S.Store _ _ _ was.kept now.asks.kept;
      live = λ clean opened. now.asks.stays_open clean;
      asked = λ clean more. now.asks.stays_open clean;
      from = omega (arith, was.from);
      few = grind (arith, common_steps);
      read = λ clean i s last none.
          let before = now.asks.kept.premise clean in
          let rows = rows_at c.args.office i in
          let at = number_there rows.loans n (omega (arith, c.loop-reached-test.true, last)) in
          let line = due_line day i.catalogue rows (n + 1, at.0) in
          told_next (due_told day after i.catalogue rows) rows.loans n at.0 _ _ at.1 (was.read before i s last none)
          (now.added clean i (was.kept.same before i s) at.0 at.1
          ∙ ap (λ b. c.loop-reached.lines.items ++ told_if b line)
          (sym (later_is after (n + 1) (is_due day i.catalogue at.0) (omega (arith, was.from)))));
    }
