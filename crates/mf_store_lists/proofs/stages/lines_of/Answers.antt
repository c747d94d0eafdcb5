use Rattle.std.proofs.Common.{ℕ, ◌∙◌, arith}
use Rattle.std.proofs.lemmas.Grind.{common_steps}
use Rattle.mf_model.specs.Institution.{Ledger}
use Rattle.mf_model.specs.Store.{rows_at}
use Rattle.mf_store.proofs.KeptLemmas.{stays_then}
use Rattle.mf_store.proofs.LoanLemmas.{IsLoanOf}
use Rattle.mf_store_schema.specs.Rows.{loan_row}
use Rattle.mf_store_values.specs.Flat.{loan_in}
use Rattle.mf_store_lists.specs.Told.{stage_told}
use Rattle.mf_store_lists.proofs.ToldLemmas.{told_more, told_all, first_told, few_told}
use Rattle.mf_store_lists.proofs.stages.lines_of.Goals as goal

pub loop-row-preserved : goal.loop-row-preserved
loop-row-preserved g c =
    let kept = c.loop-row.invariant.kept in
    let now = c.in_ok-put_line.ensures in
    record {
      kept = stays_then g.S.Store _ _ _ kept now.asks.kept;
      live = λ clean opened. now.asks.stays_open clean (c.loop-row.invariant.live (now.asks.kept.premise clean) opened);
      few = grind (arith, common_steps);
      read = λ clean i s office ls all are. let before = now.asks.kept.premise clean in
          told_more (IsLoanOf office i) (λ (k : ℕ × Ledger). loan_row (loan_in office k.0 k.1.loan))
          (stage_told c.args.status c.args.after i.catalogue (rows_at office i)) _ _ _ _ _ ls are all
          c.loop-row-test.true c.row-item.is (c.loop-row.invariant.read before i s office ls all are)
          (λ (k : ℕ × Ledger) at is. now.added clean i (kept.same before i s) office k is at);
    }

pub returns-clause-value : goal.returns-clause-value
returns-clause-value g c clean i s office ls all are =
    let told = stage_told c.args.status c.args.after i.catalogue (rows_at office i) in
    c.new-2.ensures ∙ few_told 200 _ _ (told_all _ told _ _ _ ls are c.loop-row-test.false
    (c.loop-row.invariant.read clean i s office ls all are)) c.loop-row.invariant.few

pub returns-then-len-ge-PAGE-clause-value : goal.returns-then-len-ge-PAGE-clause-value
returns-then-len-ge-PAGE-clause-value g c clean i s office ls all are =
    c.new.ensures
    ∙ first_told (stage_told c.args.status c.args.after i.catalogue (rows_at office i)) 200 _ _ ls
    (c.loop-row.invariant.read clean i s office ls all are) (grind (arith, common_steps))
