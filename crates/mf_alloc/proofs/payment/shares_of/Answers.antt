use Rattle.std.proofs.Common.{◌≡◌, ℕ, ◌-◌, ◌*◌, length, arith, ap, refl, sym, ◌∙◌, Vec, Global}
use Rattle.mf_alloc.specs.declared.row.Share.{Share}
use Rattle.mf_alloc.specs.Rows.{outstanding}
use Rattle.mf_alloc.specs.Payment.{shares_below, start}
use Rattle.mf_alloc.specs.OrderLaws.{IsOrder}
use Rattle.mf_alloc.proofs.PaymentLemmas.{start-more, shares_below-push, shares_below-without, payable-from, total-from}
use Rattle.mf_alloc.proofs.PaymentLemmas.{at_end}
use Rattle.mf_alloc.proofs.LeftOpen.{payable-cells}
use Rattle.mf_alloc.proofs.payment.shares_of.Goals as goal
use Rattle.mf_alloc.proofs.payment.shares_of.Goals.{then-share-gt0+in_ok-push, else-share-gt0}

pub loop-k-preserved : goal.loop-k-preserved
loop-k-preserved g c =
    let order = g.T.Strategy.cell_at c.args.strategy.now (length c.args.rows.now) c.args.due in
    let more = start-more order c.args.rows.now c.loop-k.k in
    let cell : c.cell-cell.result ≡ order c.loop-k.k = c.cell-cell.ensures in
    let same : outstanding c.args.rows.now c.cell-cell.result ≡ outstanding c.args.rows.now (order c.loop-k.k) =
    ap (outstanding c.args.rows.now) cell in
    elim c.if-share-gt0.branch [
      | then-share-gt0+in_ok-push w ↦
          let all = ap (λ (v : Vec Share Global). v.items) w.shares-is ∙ w.in_ok-push.ensures.items in
          record {
            shares = shares_below-push order c.args.rows.now c.args.amount c.loop-k.k c.loop-k.shares.items
                c.if-share-gt0.shares.items c.cell-cell.result c.min-share.result
                c.loop-k.invariant.shares all cell (omega (arith, same)) w.if-share-gt0.true;
            rest = omega (arith, more, same);
            few = let size =
                ap (λ (v : Vec Share Global). v.len) w.shares-is in omega (arith, size, w.in_ok-push.ensures.len);
            end = refl;
          }
      | else-share-gt0 w ↦
          record {
            shares = ap (λ (v : Vec Share Global). v.items) w.shares-is ∙ c.loop-k.invariant.shares
                ∙ sym (shares_below-without order c.args.rows.now c.args.amount c.loop-k.k (omega (arith, same)));
            rest = omega (arith, more, same);
            few = let size = ap (λ (v : Vec Share Global). v.len) w.shares-is in omega (arith, size);
            end = refl;
          }
    ]

-- the list and the rest at the end
pub returns-clause-whole : goal.returns-clause-whole
returns-clause-whole g c =
    let order = g.T.Strategy.cell_at c.args.strategy.now (length c.args.rows.now) c.args.due in
    let end : c.loop-k.k ≡ 4 * length c.args.rows.now = omega (arith, c.loop-k.invariant.end) in
    total-from order c.args.rows.now c.args.amount c.loop-k.rest c.loop-k.shares.items
    (at_end (shares_below order c.args.rows.now c.args.amount) c.loop-k.k (4 * length c.args.rows.now)
    c.loop-k.shares.items c.loop-k.invariant.shares end)
    (at_end (λ k. c.args.amount - start order c.args.rows.now k) c.loop-k.k (4 * length c.args.rows.now) c.loop-k.rest
    c.loop-k.invariant.rest end)

pub returns-clause-payable : goal.returns-clause-payable
returns-clause-payable g c =
    let n : ℕ = length c.args.rows.now in
    let order = g.T.Strategy.cell_at c.args.strategy.now n c.args.due in
    let end : c.loop-k.k ≡ 4 * n = omega (arith, c.loop-k.invariant.end) in
    let is : IsOrder n order (g.T.Strategy.place_of c.args.strategy.now n c.args.due) = record {
      is_cell = λ k within. g.met.T.Strategy.is_cell c.args.strategy.now n c.args.due k c.requires.due within;
      back = λ k within. g.met.T.Strategy.back c.args.strategy.now n c.args.due k c.requires.due within;
    } in
    payable-from order (g.T.Strategy.place_of c.args.strategy.now n c.args.due) c.args.rows.now c.args.amount
    c.loop-k.shares.items is
    (at_end (shares_below order c.args.rows.now c.args.amount) c.loop-k.k (4 * n) c.loop-k.shares.items
    c.loop-k.invariant.shares end)

pub returns-clause-cells : goal.returns-clause-cells
returns-clause-cells g c = payable-cells c.args.rows.now c.loop-k.shares.items (returns-clause-payable g c)
