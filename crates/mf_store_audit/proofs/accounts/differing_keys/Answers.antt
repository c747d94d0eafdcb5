use Rattle.std.proofs.Common.{◌∙◌, ◌++◌}
use Rattle.mf_store_audit.proofs.DifferenceLemmas.{differ_in, one_key, same_keys, tied_keys}
use Rattle.mf_store_audit.proofs.accounts.differing_keys.Goals as goal

pub returns-clause-exact : goal.returns-clause-exact
returns-clause-exact g c total made stored =
    let first = (c.in_ok-add_lacking.ensures {u = tt}).added in
    let second = (c.in_ok-add_lacking-2.ensures {u = tt}).added in
    differ_in g.T.Keyed.key c.args.made.now c.args.stored.now first.0 second.0 c.add_lacking.new.keys.items
    c.add_lacking-2.new.keys.items c.sort_unstable.new.self.items c.dedup.new.self.items
    (first.1 ∙ (λ t. c.new-keys.ensures.items t ++ first.0)) second.1 (first.2 total stored) (second.2 total made)
    first.3 second.3 c.sort_unstable.ensures.permutation c.sort_unstable.ensures.sorted _ one_key tied_keys same_keys
    c.dedup.ensures.filtered
