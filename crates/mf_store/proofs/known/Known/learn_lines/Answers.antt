use Rattle.std.proofs.Common.{sym, subst, ◌∙◌}
use Rattle.std.proofs.lemmas.List.{append-nil}
use Rattle.std.proofs.lemmas.Option.{slice_get-get_or}
use Rattle.mf_store.specs.Facts.{AreTrueOf}
use Rattle.mf_store.proofs.SoughtLemmas.{indexed_step, indexed_to}
use Rattle.mf_store.proofs.known.Known.learn_lines.Goals as goal

pub loop-at-init : goal.loop-at-init
loop-at-init c = λ t. record c.args.self.now { index = sym (append-nil c.args.self.now.index) t }

pub loop-at-preserved : goal.loop-at-preserved
loop-at-preserved c =
    indexed_step c.args.self.now _ _ c.args.rows.now c.loop-at.at _
    (slice_get-get_or c.args.rows.now c.loop-at.at _ c.loop-at-test.true) c.loop-at.invariant
    c.in_ok-learn_line.ensures.learnt

pub returns-clause-same : goal.returns-clause-same
returns-clause-same c i known first =
    subst (λ f. AreTrueOf f i) (sym c.loop-at.invariant)
    (indexed_to c.args.self.now i c.args.rows.now c.loop-at.at known first)

pub returns-in_err-learn_line-clause-same : goal.returns-in_err-learn_line-clause-same
returns-in_err-learn_line-clause-same c i known first =
    subst (λ f. AreTrueOf f i) (sym (c.in_err-learn_line.ensures.same ∙ c.loop-at.invariant))
    (indexed_to c.args.self.now i c.args.rows.now c.loop-at.at known first)
