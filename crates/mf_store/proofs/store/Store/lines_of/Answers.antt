use Rattle.std.proofs.Common.{ℕ, ◌∙◌}
use Rattle.mf_model.specs.Institution.{Ledger}
use Rattle.mf_store.proofs.KeptLemmas.{stays_then}
use Rattle.mf_store.proofs.LoanLemmas.{IsLoanOf, no_loan}
use Rattle.mf_store_values.proofs.ReadLemmas.{mapped_more, mapped_all}
use Rattle.mf_store.proofs.store.Store.lines_of.Goals as goal

pub loop-row-preserved : goal.loop-row-preserved
loop-row-preserved g c =
    let kept = c.loop-row.invariant.kept in
    let now = c.in_ok-line.ensures in
    record {
      kept = stays_then g.S.Store _ _ _ kept now.asks.kept;
      live = λ clean opened. now.asks.stays_open clean (c.loop-row.invariant.live (now.asks.kept.premise clean) opened);
      read = λ clean i s office ls all are. let before = now.asks.kept.premise clean in
          mapped_more (IsLoanOf office i) _ _ _ _ _ no_loan _ _ _ ls are all c.loop-row-test.true
          c.row-item.is
          c.in_ok-push.ensures.items (c.loop-row.invariant.read before i s office ls all are) (λ (k : ℕ × Ledger) at is.
          now.value clean i (kept.same before i s) office k.0 k.1 is at);
    }

pub returns-clause-value : goal.returns-clause-value
returns-clause-value g c clean i s office ls all are =
    c.new.ensures ∙ mapped_all _ _ _ _ _ ls are c.loop-row-test.false (c.loop-row.invariant.read clean i s office ls
    all are)
