use Rattle.std.proofs.Common.{map, ap, ◌∙◌}
use Rattle.std.proofs.lemmas.List.{take_all}
use Rattle.mf_store_values.specs.Arrears.{line_at}
use Rattle.mf_store.proofs.ArrearsLemmas.{mapped_office}
use Rattle.mf_store.proofs.KeptLemmas.{stays_then}
use Rattle.mf_store.proofs.store.Store.lines_of_offices.Goals as goal

pub loop-office-preserved : goal.loop-office-preserved
loop-office-preserved g c =
    let kept = c.loop-office.invariant.kept in
    let now = c.in_ok-line.ensures in
    record {
      kept = stays_then g.S.Store _ _ _ kept now.asks.kept;
      live = λ clean opened. now.asks.stays_open clean (c.loop-office.invariant.live (now.asks.kept.premise clean)
          opened);
      read = λ clean i s day. let before = now.asks.kept.premise clean in
          mapped_office (line_at i) c.args.offices.now c.loop-office.office-index c.office-item.result c.in_ok-line.line
          c.loop-office.lines.items _ c.loop-office-test.true c.office-item.is
          c.in_ok-push.ensures.items (now.value clean i (kept.same before i s) day)
          (c.loop-office.invariant.read before i s day);
    }

pub returns-clause-value : goal.returns-clause-value
returns-clause-value g c clean i s day =
    c.new.ensures ∙ c.loop-office.invariant.read clean i s day ∙ ap (map (line_at i))
    (take_all c.loop-office.office-index c.args.offices.now c.loop-office-test.false)
