use Rattle.std.proofs.Common.{Some, sym, ap, ◌∙◌}
use Rattle.std.specs.Option.{option_map}
use Rattle.std.proofs.lemmas.Result.{IfOk-weaker}
use Rattle.mf_account.specs.Change.{account_by_replay}
use Rattle.mf_model.specs.Accounts.{running_from}
use Rattle.mf_store.proofs.KeptLemmas.{any_ok, stays_then}
use Rattle.mf_store.proofs.LoanLemmas.{account_replayed}
use Rattle.mf_store.proofs.PartReadLemmas.{kept_is}
use Rattle.mf_store.proofs.store.Store.resume.Goals as goal

pub returns-clause-asks : goal.returns-clause-asks
returns-clause-asks g c = record {
  kept = stays_then g.S.Store _ _ _ (stays_then g.S.Store _ _ _ c.in_ok-terms.ensures.asks.kept
      c.in_ok-entries.ensures.asks.kept) c.in_ok-parts.ensures.asks.kept;
  gives_up = c.or_give_up.ensures.gives_up;
  stays_open = λ clean. any_ok c.or_give_up.result _ (c.in_ok-parts.ensures.asks.stays_open clean);
}

pub returns-clause-value : goal.returns-clause-value
returns-clause-value g c clean i s there day rows =
    let account = c.args.account in
    let loan = c.args.loan.now in
    let entries = c.in_ok-entries.entries.items in
    let terms = c.in_ok-terms.terms in
    let before_parts = c.in_ok-parts.ensures.asks.kept.premise clean in
    let before_entries = c.in_ok-entries.ensures.asks.kept.premise before_parts in
    let named = c.in_ok-terms.ensures.asks.kept.same before_entries i s in
    let entered = c.in_ok-entries.ensures.asks.kept.same before_parts i named in
    let names = c.in_ok-terms.ensures.value before_entries i s in
    let own = c.in_ok-entries.ensures.value before_parts i named in
    let kept = kept_is i account loan c.args.day entries terms c.args.rows.items c.in_ok-parts.parts.items s.sound
    there day own names rows (c.in_ok-parts.ensures.value clean i entered) in
    IfOk-weaker c.or_give_up.result _ _ (λ a is. account_replayed i account loan c.args.day entries a own
    (ap (λ t. option_map account_by_replay (running_from loan entries (Some c.args.day) t)) names
    ∙ sym (c.in_ok-found.ensures.account kept.0 kept.1) ∙ is) there day) c.or_give_up.ensures.value
