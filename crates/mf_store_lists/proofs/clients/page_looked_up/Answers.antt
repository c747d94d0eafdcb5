use Rattle.std.proofs.Common.{◌+◌, ℕ, List, nat_lt, sym, ap, ◌∙◌, arith}
use Rattle.std.specs.List.{enumerate_from}
use Rattle.std.proofs.lemmas.Grind.{common_steps}
use Rattle.mf_model.specs.Store.{rows_at}
use Rattle.mf_store.proofs.KeptLemmas.{stays_same, stays_then}
use Rattle.mf_store_lists.specs.Counted.{uncounted}
use Rattle.mf_store_lists.specs.Told.{told_if}
use Rattle.mf_store_lists.proofs.LookedUpLemmas.{none_before, number_there, told_next, told_whole}
use Rattle.mf_store_lists.proofs.ToldLemmas.{early, few_told, first_told, later, one_told}
use Rattle.mf_store_lists.proofs.clients.page_looked_up.Goals as goal

pub loop-before-init : goal.loop-before-init
loop-before-init g c = record {
  kept = stays_same g.S.Store _;
  live = λ clean opened. opened;
  from = omega arith;
  few = grind (arith, common_steps);
  read = λ clean i s long. let after = c.args.after in
      c.new-lines.ensures.items
      ∙ sym (none_before (λ (x : ℕ × List ℕ). told_if (nat_lt after x.0) (uncounted x)) after
      (rows_at c.args.office i).clients (λ n x low. ap (λ b. told_if b (uncounted (n, x))) (early after n low)));
}

pub loop-before-preserved : goal.loop-before-preserved
loop-before-preserved g c =
    let was = c.loop-before.invariant in
    let now = c.in_ok-line.ensures in
    let after = c.args.after in
    let n = c.loop-before.before in
    record {
      kept = stays_then g.S.Store _ _ _ was.kept now.asks.kept;
      live = λ clean opened. now.asks.stays_open clean;
      from = omega (arith, was.from);
      few = grind (arith, common_steps);
      read = λ clean i s long.
          let before = now.asks.kept.premise clean in
          let clients = (rows_at c.args.office i).clients in
          let at = number_there clients n (omega (arith, c.loop-before-test.true, long)) in
          told_next (λ (x : ℕ × List ℕ). told_if (nat_lt after x.0) (uncounted x)) clients n at.0 _ _ at.1
          (was.read before i s long)
          (one_told (nat_lt after (n + 1)) _ (uncounted (n + 1, at.0)) _ _
          (later after (n + 1) (omega (arith, was.from)))
          c.in_ok-push.ensures.items (now.client clean i (was.kept.same before i s) at.0 at.1));
    }

pub returns-clause-value : goal.returns-clause-value
returns-clause-value g c clean i s long =
    let after = c.args.after in
    let clients = (rows_at c.args.office i).clients in
    few_told 500 _ _ (told_whole (λ (x : ℕ × List ℕ). told_if (nat_lt after x.0) (uncounted x)) clients _ _
    (omega (arith, c.loop-before-test.false, long)) (c.loop-before.invariant.read clean i s long))
    c.loop-before.invariant.few

pub returns-then-len-ge-PAGE-clause-value : goal.returns-then-len-ge-PAGE-clause-value
returns-then-len-ge-PAGE-clause-value g c clean i s long =
    first_told (λ (x : ℕ × List ℕ). told_if (nat_lt c.args.after x.0) (uncounted x)) 500 _ _
    (enumerate_from 1 (rows_at c.args.office i).clients) (c.loop-before.invariant.read clean i s long)
    (grind (arith, common_steps))
