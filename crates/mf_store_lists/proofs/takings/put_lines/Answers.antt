use Rattle.std.proofs.Common.{◌++◌, map, take, ap, sym, ◌∙◌}
use Rattle.std.proofs.lemmas.List.{append-nil}
use Rattle.mf_journal.specs.Chain.{line_of_row}
use Rattle.mf_lists.specs.Takings.{movements_on, takings_of}
use Rattle.mf_model.specs.Store.{rows_at}
use Rattle.mf_store.proofs.KeptLemmas.{stays_same, stays_then}
use Rattle.mf_store_lists.proofs.DayLemmas.{moves_all, moves_next}
use Rattle.mf_store_lists.proofs.takings.put_lines.Goals as goal

pub loop-at-init : goal.loop-at-init
loop-at-init g c = record {
  kept = stays_same g.S.Store _;
  live = λ clean opened. opened;
  more = λ clean i s before is. is ∙ ap takings_of (sym (append-nil before));
}

pub loop-at-preserved : goal.loop-at-preserved
loop-at-preserved g c =
    let kept = c.loop-at.invariant.kept in
    let now = c.in_ok-takings.ensures {u = tt} in
    record {
      kept = stays_then g.S.Store _ _ _ kept now.asks.kept;
      live = λ clean opened. now.asks.stays_open clean (c.loop-at.invariant.live (now.asks.kept.premise clean) opened);
      more = λ clean i s before is.
          let first = now.asks.kept.premise clean in
          now.more clean i (kept.same first i s)
          (before ++ movements_on c.args.office c.args.day i.catalogue (rows_at c.args.office i)
          (map line_of_row (take c.loop-at.at c.args.rows.now)))
          (c.loop-at.invariant.more first i s before is)
          ∙ ap takings_of (moves_next c.args.office c.args.day i.catalogue (rows_at c.args.office i) c.args.rows.now
          c.loop-at.at _ before c.row_at-row.ensures);
    }

pub returns-clause-more : goal.returns-clause-more
returns-clause-more g c clean i s before is =
    c.loop-at.invariant.more clean i s before is
    ∙ ap takings_of (moves_all c.args.office c.args.day i.catalogue (rows_at c.args.office i) c.args.rows.now
    c.loop-at.at before c.loop-at-test.false)
