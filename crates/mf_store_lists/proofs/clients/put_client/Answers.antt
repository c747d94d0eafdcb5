use Rattle.std.proofs.Common.{◌≤◌, ◌<◌, subst, ap, ◌∙◌}
use Rattle.mf_lists.specs.declared.lines.ClientLine.{ClientLine}
use Rattle.mf_store_lists.specs.Counted.{uncounted}
use Rattle.mf_store_lists.proofs.ToldLemmas.{early, later, none_told, one_told}
use Rattle.mf_store_lists.proofs.clients.put_client.Goals as goal

pub returns-then-get-after-clause-added : goal.returns-then-get-after-clause-added
returns-then-get-after-clause-added c office client are =
    let line = c.in_ok-line.ensures.client office client are in
    let number = c.get.ensures.value ∙ ap (λ (x : ClientLine). x.number) line in
    none_told _ (uncounted client) _ (early c.args.after client.0
    (subst (λ n. n ≤ c.args.after) number c.if-get-after.true))

pub returns-clause-added : goal.returns-clause-added
returns-clause-added c office client are =
    let line = c.in_ok-line.ensures.client office client are in
    let number = c.get.ensures.value ∙ ap (λ (x : ClientLine). x.number) line in
    one_told _ _ (uncounted client) _ _ (later c.args.after client.0
    (subst (λ n. c.args.after < n) number c.if-get-after.false)) c.in_ok-push.ensures.items line
