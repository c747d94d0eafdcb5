use Rattle.std.proofs.lemmas.Result.{IfOk-weaker}
use Rattle.mf_store.proofs.ShownLemmas.{open_read}
use Rattle.mf_store.proofs.store.Store.balances_of_open.Goals as goal

pub returns-clause-value : goal.returns-clause-value
returns-clause-value g c clean i s account l there its disbursed rows =
    IfOk-weaker c.or_give_up.result _ _ (λ sums is. open_read account l i c.args.loan.now c.args.day
    c.in_ok-terms.terms c.args.rows.now c.in_ok-found.found sums s.sound there its disbursed
    (c.in_ok-terms.ensures.value clean i s) rows c.in_ok-found.ensures.balances is) c.or_give_up.ensures.value
