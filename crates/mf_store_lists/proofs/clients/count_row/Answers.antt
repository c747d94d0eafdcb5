use Rattle.std.proofs.Common.{List, sym, ap, ap₂, subst, map, ◌==◌, ◌∙◌}
use Rattle.std.specs.List.{AllByRecursion, list_any}
use Rattle.sqlite_keyed.proofs.ListLemmas.{all_map}
use Rattle.mf_lists.specs.declared.lines.ClientLine.{ClientLine}
use Rattle.mf_office.specs.declared.account.Account.{Account}
use Rattle.mf_model.specs.Store.{ledger_at}
use Rattle.mf_store_lists.specs.Counted.{IsBetween, counted_by, with_count}
use Rattle.mf_store_lists.proofs.CountLemmas.{all_counted, none_counted}
use Rattle.mf_store_lists.proofs.clients.count_row.Goals as goal

pub returns-then-not-is_listed-clause-counted : goal.returns-then-not-is_listed-clause-counted
returns-then-not-is_listed-clause-counted g c clean i s day office l are at loans clients lines between =
    let found = c.in_ok-account.ensures.loan office l.0 l.1.loan are in
    let client = c.get-client.ensures.value ∙ (λ t. (found.1 t).client) in
    let listed = c.is_listed.ensures (subst
    (AllByRecursion (λ (line : ClientLine). IsBetween c.args.bounds line.number)) (sym lines)
    (all_map (λ (line : ClientLine). IsBetween c.args.bounds line.number) (counted_by i.catalogue loans)
    clients between)) in
    let out = ap₂ (λ n (all : List ClientLine). list_any (λ (line : ClientLine). n == line.number) all) (sym client)
    (sym lines) ∙ sym listed ∙ c.if-not-is_listed.true in
    lines ∙ none_counted i.catalogue loans l.1 clients out

pub returns-clause-counted : goal.returns-clause-counted
returns-clause-counted g c clean i s day office l are at loans clients lines between =
    let k = i.catalogue in
    let found = c.in_ok-account.ensures.loan office l.0 l.1.loan are in
    let client = c.get-client.ensures.value ∙ (λ t. (found.1 t).client) in
    let count = c.in_ok-count.ensures.value clean i s l.1 (ap (λ (a : Account). ledger_at a i) found.0 ∙ at)
    (sym found.1) day in
    c.in_ok-count_among.ensures.counted ∙ (λ t. map (with_count (client t) (count t)) (lines t))
    ∙ all_counted k loans l.1 clients
