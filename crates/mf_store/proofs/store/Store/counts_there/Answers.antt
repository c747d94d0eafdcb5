use Rattle.std.proofs.Common.{◌≡◌, true, sym, ◌∙◌, rules}
use Rattle.std.proofs.lemmas.Result.{IfOk-weaker}
use Rattle.mf_store.proofs.store.Store.counts_there.Goals as goal

pub returns-clause-value : goal.returns-clause-value
returns-clause-value g c clean i s =
    let there : c.in_ok-there.there ≡ true = search rules in
    let before = c.counts_of.ensures.asks.kept.premise clean in
    let here = sym (c.in_ok-there.ensures.value before i s) ∙ there in
    IfOk-weaker c.counts_of.result _ _ (λ counts is. (here, is))
    (c.counts_of.ensures.value clean i (c.in_ok-there.ensures.asks.kept.same before i s))
