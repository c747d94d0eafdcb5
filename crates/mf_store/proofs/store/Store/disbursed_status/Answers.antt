use Rattle.std.proofs.Common.{◌≡◌, ℕ, true, List, Option, sym, ap, subst, ◌∙◌, rules}
use Rattle.std.specs.List.{list_any}
use Rattle.std.specs.Prelude.{IfSome}
use Rattle.std.proofs.lemmas.Result.{IfOk-weaker}
use Rattle.mf_alloc.specs.Sums.{Instalment, is_open}
use Rattle.mf_model.specs.Accounts.{status_in}
use Rattle.mf_store_values.specs.Flat.{ledger_entries}
use Rattle.mf_store.proofs.ArrearsLemmas.{active_status}
use Rattle.mf_store.proofs.InstalmentReadLemmas.{loan_account_sound}
use Rattle.mf_store.proofs.StatusLemmas.{status_read}
use Rattle.mf_store.proofs.store.Store.disbursed_status.Goals as goal

pub returns-clause-value : goal.returns-clause-value
returns-clause-value g c clean i s l at day on =
    let before = c.in_ok-entries.ensures.asks.kept.premise clean in
    let first = c.in_ok-told.ensures.asks.kept.same (c.in_ok-rows.ensures.asks.kept.premise before) i s in
    let rows = c.deref-3.ensures.value ∙ c.in_ok-rows.ensures.value before i first l at in
    let entries = c.deref-2.ensures.value ∙ c.in_ok-entries.ensures.value clean i (c.in_ok-rows.ensures.asks.kept.same
    before i first) ∙ ap ledger_entries at in
    IfOk-weaker c.or_give_up.result _ _ (λ status is. subst (λ (o : Option ℕ). IfSome o (λ (x : ℕ). x
    ≡ status_in i.catalogue l)) is
    (status_read c.args.account l i day c.deref-2.result.now c.deref-3.result.now c.settled_status.result s.sound at on
    entries rows c.settled_status.ensures.status)) c.or_give_up.ensures.value

pub returns-then-is_active-clause-value : goal.returns-then-is_active-clause-value
returns-then-is_active-clause-value g c clean i s l at day on =
    let first = c.in_ok-told.ensures.asks.kept.same (c.in_ok-rows.ensures.asks.kept.premise clean) i s in
    let rows = c.deref.ensures.value ∙ c.in_ok-rows.ensures.value clean i first l at in
    let yes : c.is_active.result ≡ true = search rules in
    active_status i.catalogue l (loan_account_sound c.args.account l i s.sound at)
    (sym (ap (λ (all : List Instalment). list_any is_open all) rows) ∙ sym c.is_active.ensures ∙ yes)

pub returns-then-told-clause-value : goal.returns-then-told-clause-value
returns-then-told-clause-value g c clean i s l at day on =
    active_status i.catalogue l (loan_account_sound c.args.account l i s.sound at)
    (c.in_ok-told.ensures.value clean i s l at c.if-told.true)
