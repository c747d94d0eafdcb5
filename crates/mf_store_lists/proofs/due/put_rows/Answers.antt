use Rattle.std.proofs.Common.{ℕ, arith}
use Rattle.std.proofs.lemmas.Grind.{common_steps}
use Rattle.mf_model.specs.Institution.{Ledger}
use Rattle.mf_model.specs.Store.{rows_at}
use Rattle.mf_store.proofs.KeptLemmas.{stays_same, stays_then}
use Rattle.mf_store.proofs.LoanLemmas.{IsLoanOf}
use Rattle.mf_store_schema.specs.Rows.{loan_row}
use Rattle.mf_store_values.specs.Flat.{loan_in}
use Rattle.mf_store_lists.specs.Due.{due_told}
use Rattle.mf_store_lists.proofs.ToldLemmas.{told_more, told_all, first_told, few_told}
use Rattle.mf_store_lists.proofs.due.put_rows.Goals as goal

pub loop-place-init : goal.loop-place-init
loop-place-init g c = record {
  kept = stays_same g.S.Store _;
  live = λ clean opened. opened;
  few = λ few. few;
  read = λ clean i s office ls all are before. before;
}

pub loop-place-preserved : goal.loop-place-preserved
loop-place-preserved g c =
    let kept = c.loop-place.invariant.kept in
    let now = c.in_ok-put_line.ensures in
    record {
      kept = stays_then g.S.Store _ _ _ kept now.asks.kept;
      live = λ clean opened. now.asks.stays_open clean
          (c.loop-place.invariant.live (now.asks.kept.premise clean) opened);
      few = grind (arith, common_steps);
      read = λ clean i s office ls all are told. let before = now.asks.kept.premise clean in
          told_more (IsLoanOf office i) (λ (k : ℕ × Ledger). loan_row (loan_in office k.0 k.1.loan))
          (due_told c.args.day c.args.after i.catalogue (rows_at office i)) _ _ _ _ _ ls are all
          c.loop-place-test.true c.index-rows-place.is
          (c.loop-place.invariant.read before i s office ls all are told)
          (λ (k : ℕ × Ledger) at is. now.added clean i (kept.same before i s) office k is at);
    }

pub returns-clause-value : goal.returns-clause-value
returns-clause-value g c clean i s office ls all are few told =
    few_told 200 _ _ (told_all _ (due_told c.args.day c.args.after i.catalogue (rows_at office i)) _ _ _ ls are
    c.loop-place-test.false (c.loop-place.invariant.read clean i s office ls all are told))
    (c.loop-place.invariant.few few)

pub returns-then-len-ge-PAGE-clause-value : goal.returns-then-len-ge-PAGE-clause-value
returns-then-len-ge-PAGE-clause-value g c clean i s office ls all are few told =
    let most = c.loop-place.invariant.few few in
    first_told (due_told c.args.day c.args.after i.catalogue (rows_at office i)) 200 _ _ ls
    (c.loop-place.invariant.read clean i s office ls all are told) (grind (arith, common_steps))
