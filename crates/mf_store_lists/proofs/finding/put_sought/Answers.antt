use Rattle.std.proofs.Common.{sym, ap, ◌∙◌}
use Rattle.mf_lists.specs.declared.lines.ClientLine.{ClientLine}
use Rattle.mf_store_lists.specs.Counted.{uncounted}
use Rattle.mf_store_lists.specs.Finding.{is_sought}
use Rattle.mf_store_lists.proofs.ToldLemmas.{none_told, one_told}
use Rattle.mf_store_lists.proofs.finding.put_sought.Goals as goal

pub returns-then-not-is-clause-added : goal.returns-then-not-is-clause-added
returns-then-not-is-clause-added c office client are =
    let s = c.args.sought.now in
    let line = c.in_ok-line.ensures.client office client are in
    none_told _ (uncounted client) _ (sym (c.in_ok-is.ensures.sought
    ∙ ap (λ (x : ClientLine). is_sought s.part.items s.client s.borrower (x.number, x.name)) line) ∙ c.if-not-is.true)

pub returns-clause-added : goal.returns-clause-added
returns-clause-added c office client are =
    let s = c.args.sought.now in
    let line = c.in_ok-line.ensures.client office client are in
    one_told _ _ (uncounted client) _ _ (sym (c.in_ok-is.ensures.sought
    ∙ ap (λ (x : ClientLine). is_sought s.part.items s.client s.borrower (x.number, x.name)) line) ∙ c.if-not-is.false)
    c.in_ok-push.ensures.items line
