use Rattle.std.proofs.Common.{◌≤◌, ◌<◌, subst, sym, ap, ◌∙◌}
use Rattle.mf_office.specs.declared.account.Account.{Account}
use Rattle.mf_lists.specs.Lists.{name_of_client, stage_line}
use Rattle.mf_model.specs.Store.{ledger_at, rows_at}
use Rattle.mf_store_lists.specs.Told.{staged_line}
use Rattle.mf_store_lists.proofs.ToldLemmas.{early_not, later_is, none_told, one_told}
use Rattle.mf_store_lists.proofs.stages.put_line.Goals as goal

pub returns-then-get-after-clause-added : goal.returns-then-get-after-clause-added
returns-then-get-after-clause-added g c clean i s office l are at =
    let found = c.in_ok-account.ensures.loan office l.0 l.1.loan are in
    let number = c.get.ensures.value ∙ (λ t. (found.0 t).number) in
    none_told _ (stage_line (rows_at office i) l) _
    (early_not c.args.after l.0 _ (subst (λ n. n ≤ c.args.after) number c.if-get-after.true))

pub returns-then-not-has-clause-added : goal.returns-then-not-has-clause-added
returns-then-not-has-clause-added g c clean i s office l are at =
    let found = c.in_ok-account.ensures.loan office l.0 l.1.loan are in
    let number = c.get.ensures.value ∙ (λ t. (found.0 t).number) in
    let there = ap (λ (a : Account). ledger_at a i) found.0 ∙ at in
    let has = c.in_ok-has.ensures.value clean i s l.1 there (sym found.1) in
    none_told _ (stage_line (rows_at office i) l) _
    (later_is c.args.after l.0 _ (subst (λ n. c.args.after < n) number c.if-get-after.false)
    ∙ sym has ∙ c.if-not-has.true)

pub returns-clause-added : goal.returns-clause-added
returns-clause-added g c clean i s office l are at =
    let found = c.in_ok-account.ensures.loan office l.0 l.1.loan are in
    let number = c.get.ensures.value ∙ (λ t. (found.0 t).number) in
    let mid = c.in_ok-name.ensures.asks.kept.premise clean in
    let there = ap (λ (a : Account). ledger_at a i) found.0 ∙ at in
    let has = c.in_ok-has.ensures.value mid i s l.1 there (sym found.1) in
    let name = c.in_ok-name.ensures.value clean i (c.in_ok-has.ensures.asks.kept.same mid i s)
    ∙ (λ t. name_of_client (rows_at (found.0 t).office i) (found.1 t).client) in
    one_told _ _ (stage_line (rows_at office i) l) _ _
    (later_is c.args.after l.0 _ (subst (λ n. c.args.after < n) number c.if-get-after.false)
    ∙ sym has ∙ c.if-not-has.false) c.in_ok-push.ensures.items
    (c.staged_line.ensures ∙ (λ t. staged_line (found.0 t).number (found.1 t) (name t)))
