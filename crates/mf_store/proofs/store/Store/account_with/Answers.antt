use Rattle.std.proofs.lemmas.Result.{IfOk-weaker}
use Rattle.mf_model.specs.Accounts.{terms_in}
use Rattle.mf_store.proofs.LoanLemmas.{replay_is}
use Rattle.mf_store.proofs.store.Store.account_with.Goals as goal

pub returns-clause-value : goal.returns-clause-value
returns-clause-value g c clean i s =
    let loan = c.args.loan.now in
    IfOk-weaker c.or_give_up.result _ _ (λ a is. replay_is (terms_in i.catalogue loan.product) loan c.args.day
    c.args.entries.items c.in_ok-terms.terms c.in_ok-found.found a (c.in_ok-terms.ensures.value clean i s)
    c.in_ok-found.ensures.account is) c.or_give_up.ensures.value
