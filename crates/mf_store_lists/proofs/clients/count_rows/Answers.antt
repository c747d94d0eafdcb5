use Rattle.std.proofs.Common.{ℕ, map, take, ap, sym, subst, ◌∙◌}
use Rattle.std.specs.List.{AllByRecursion}
use Rattle.mf_lists.specs.declared.lines.ClientLine.{ClientLine}
use Rattle.mf_model.specs.Institution.{Ledger}
use Rattle.mf_store.proofs.KeptLemmas.{stays_then}
use Rattle.mf_store.proofs.LoanLemmas.{IsLoanOf}
use Rattle.mf_store_schema.specs.Rows.{loan_row}
use Rattle.mf_store_values.specs.Flat.{loan_in}
use Rattle.mf_store_values.proofs.ReadLemmas.{row_at}
use Rattle.mf_store_lists.specs.Counted.{IsBetween, counted_by, uncounted}
use Rattle.mf_store_lists.proofs.BoundsLemmas.{all_back}
use Rattle.mf_store_lists.proofs.CountLemmas.{loans_more}
use Rattle.mf_store_lists.proofs.clients.count_rows.Goals as goal

pub loop-row-preserved : goal.loop-row-preserved
loop-row-preserved g c =
    let kept = c.loop-row.invariant.kept in
    let now = c.in_ok-count_row.ensures in
    record {
      kept = stays_then g.S.Store _ _ _ kept now.asks.kept;
      live = λ clean opened. now.asks.stays_open clean (c.loop-row.invariant.live (now.asks.kept.premise clean) opened);
      counted = λ clean i s day office ls all are clients none.
          let before = now.asks.kept.premise clean in
          let at = row_at (IsLoanOf office i) (λ (k : ℕ × Ledger). loan_row (loan_in office k.0 k.1.loan)) ls _ _ _
          are all c.loop-row-test.true c.row-item.is in
          now.counted clean i (kept.same before i s) day office at.value at.row_is at.holds
          (map (λ (k : ℕ × Ledger). k.1) (take c.loop-row.row-index ls)) clients
          (c.loop-row.invariant.counted before i s day office ls all are clients none)
          (all_back (λ (line : ClientLine). IsBetween c.bounds_of-bounds.result line.number) uncounted clients
          (subst (AllByRecursion (λ (line : ClientLine). IsBetween c.bounds_of-bounds.result line.number)) none
          c.bounds_of-bounds.ensures))
          ∙ ap (λ loans. map (counted_by i.catalogue loans) clients) (sym (loans_more ls _ at.value at.more));
    }
