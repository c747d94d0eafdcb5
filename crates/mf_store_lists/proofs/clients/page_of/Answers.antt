use Rattle.std.proofs.Common.{ℕ, List, nat_lt, arith}
use Rattle.std.proofs.lemmas.Grind.{common_steps}
use Rattle.sqlite_keyed.proofs.ListLemmas.{all_of}
use Rattle.mf_store_schema.specs.Rows.{client_row}
use Rattle.mf_store_values.specs.Flat.{client_in}
use Rattle.mf_store_lists.specs.Counted.{uncounted}
use Rattle.mf_store_lists.specs.Told.{told_if}
use Rattle.mf_store_lists.proofs.ToldLemmas.{told_more, told_all, first_told, few_told}
use Rattle.mf_store_lists.proofs.clients.page_of.Goals as goal

pub loop-row-preserved : goal.loop-row-preserved
loop-row-preserved c = record {
  few = grind (arith, common_steps);
  read = λ office cs are. told_more (λ (x : ℕ × List ℕ). Unit {0}) (λ x. client_row (client_in office x.0 x.1))
      (λ x. told_if (nat_lt c.args.after x.0) (uncounted x)) _ _ _ _ _ cs are (all_of _ (λ x. tt) cs)
      c.loop-row-test.true c.row-item.is (c.loop-row.invariant.read office cs are)
      (λ x at is. c.in_ok-put_client.ensures.added office x is);
}

pub returns-clause-clients : goal.returns-clause-clients
returns-clause-clients c office cs are =
    let told = λ (x : ℕ × List ℕ). told_if (nat_lt c.args.after x.0) (uncounted x) in
    few_told 500 _ _ (told_all _ told _ _ _ cs are c.loop-row-test.false (c.loop-row.invariant.read office cs are))
    c.loop-row.invariant.few

pub returns-then-len-ge-PAGE-clause-clients : goal.returns-then-len-ge-PAGE-clause-clients
returns-then-len-ge-PAGE-clause-clients c office cs are =
    first_told (λ (x : ℕ × List ℕ). told_if (nat_lt c.args.after x.0) (uncounted x)) 500 _ _ cs
    (c.loop-row.invariant.read office cs are) (grind (arith, common_steps))
