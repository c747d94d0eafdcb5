use Rattle.std.proofs.Common.{◌≡◌, true, List, Some, sym, ap, ◌∙◌, rules}
use Rattle.std.specs.List.{list_any}
use Rattle.std.specs.Option.{option_map}
use Rattle.mf_alloc.specs.Sums.{Instalment, is_open}
use Rattle.mf_account.specs.Change.{account_by_replay}
use Rattle.mf_model.specs.Accounts.{account_in, statement_with}
use Rattle.mf_model.specs.Institution.{Ledger}
use Rattle.mf_model.specs.Store.{account_of}
use Rattle.mf_store.proofs.ArrearsLemmas.{active_status}
use Rattle.mf_store.proofs.InstalmentReadLemmas.{loan_account_sound}
use Rattle.mf_store.proofs.store.Store.disbursed_statement.Goals as goal

pub returns-then-is_active-clause-value : goal.returns-then-is_active-clause-value
returns-then-is_active-clause-value g c clean i s l there its disbursed =
    let before = c.in_ok-sums.ensures.asks.kept.premise clean in
    let read = c.in_ok-rows.ensures.value before i s l there in
    let yes : c.is_active.result ≡ true = search rules in
    let status = active_status i.catalogue l (loan_account_sound c.args.account l i s.sound there)
    (sym (ap (λ (all : List Instalment). list_any is_open all) (c.deref.ensures.value ∙ read)) ∙ sym c.is_active.ensures
    ∙ yes) in
    let sums = c.in_ok-sums.ensures.value clean i (c.in_ok-rows.ensures.asks.kept.same before i s) c.args.account l
    there its disbursed (c.deref-then-is_active.ensures.value ∙ read) in
    c.with.ensures ∙ (λ t. statement_with (sym its t) (status t) (sums t))

pub returns-clause-value : goal.returns-clause-value
returns-clause-value g c clean i s l there its disbursed =
    let before = c.in_ok-resumed.ensures.asks.kept.premise clean in
    let lent = ap (option_map (λ (x : Ledger). x.loan)) there ∙ ap Some its in
    let resumed = c.in_ok-resumed.ensures.value clean i (c.in_ok-rows.ensures.asks.kept.same before i s) lent disbursed
    (c.in_ok-rows.ensures.value before i s) in
    let own : Some c.in_ok-resumed.resumed ≡ option_map account_by_replay (account_in i.catalogue l) =
    sym resumed ∙ ap (λ o. option_map account_by_replay (account_of i.catalogue o)) there in
    c.of.ensures i.catalogue l (sym its) own
