use Rattle.std.proofs.Common.{sym, subst}
use Rattle.std.proofs.lemmas.Result.{on_ok_weaker}
use Rattle.mf_store_commits.specs.Becoming.{Begins}
use Rattle.mf_store_noted.proofs.beginning.found_journaled.Goals as goal

pub returns-clause-made : goal.returns-clause-made
returns-clause-made g c clean = on_ok_weaker c.found_with.result (λ made. made c.args.day
    (c.soundness.ensures.first c.args.day c.requires.day)
    (subst (λ ws. Begins ws c.args.day) (sym c.deref.ensures.value) c.in_ok-writes.ensures.writes)
    (c.in_ok-meta.ensures.write c.args.begins)) (c.found_with.ensures.made clean)

pub returns-clause-left : goal.returns-clause-left
returns-clause-left g c clean = on_ok_weaker c.found_with.result (λ left. left c.args.day
    (c.soundness.ensures.first c.args.day c.requires.day)
    (subst (λ ws. Begins ws c.args.day) (sym c.deref.ensures.value) c.in_ok-writes.ensures.writes)
    (c.in_ok-meta.ensures.write c.args.begins)) (c.found_with.ensures.left clean)

pub returns-clause-stop : goal.returns-clause-stop
returns-clause-stop g c clean = c.found_with.ensures.stop clean c.args.day
    (c.soundness.ensures.first c.args.day c.requires.day)
    (subst (λ ws. Begins ws c.args.day) (sym c.deref.ensures.value) c.in_ok-writes.ensures.writes)
    (c.in_ok-meta.ensures.write c.args.begins)
