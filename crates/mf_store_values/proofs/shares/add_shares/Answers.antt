use Rattle.std.proofs.Common.{◌++◌, ◌∙◌, map, length}
use Rattle.std.proofs.lemmas.Result.{on_ok_weaker}
use Rattle.mf_account.specs.Change.{settled_in}
use Rattle.mf_store_values.specs.Flat.{share_in, parts_from}
use Rattle.mf_store_values.specs.Kept.{placed_from}
use Rattle.mf_store_values.proofs.ShareLemmas.{placed_is}
use Rattle.mf_store_values.proofs.shares.add_shares.Goals as goal

pub returns-clause-added : goal.returns-clause-added
returns-clause-added c =
    let by = c.in_ok-parts.ensures {u = tt} in
    let is =
    (λ t. placed_from 0 0 (c.deref.ensures.value t)) ∙ placed_is (length c.args.account.now.loan.entries)
    c.settled_parts.result.now c.in_ok-parts.parts.items c.settled_parts.ensures.numbers by.permutation by.sorted
    by.same
    ∙ (λ t. parts_from (λ seq. settled_in seq (c.settled_parts.ensures.parts t)) 1
    (length c.args.account.now.loan.entries)) in
    on_ok_weaker c.add_placed.result (λ added. added
    ∙ (λ t. c.args.made.now.items ++ map (share_in c.args.office c.args.loan) (is t))) c.add_placed.ensures.added
