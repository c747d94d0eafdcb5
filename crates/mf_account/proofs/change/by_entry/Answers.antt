use Rattle.std.proofs.Common.{◌∙◌, ap, rules}
use Rattle.std.proofs.lemmas.List.Sorted.{answers_always, IsNonDecreasingBy-from_sort_by_key}
use Rattle.mf_account.specs.declared.settled.SettledPart.{SettledPart}
use Rattle.mf_account.specs.Change.{settled_in}
use Rattle.mf_account.proofs.DifferLemmas.{stable-parts}
use Rattle.mf_account.proofs.change.by_entry.Goals as goal

pub returns-clause-same : goal.returns-clause-same
returns-clause-same c = λ seq.
    stable-parts seq c.in_ok-sorted.sorted.items c.sort_by_key.new.self.items
    (c.sort_by_key.ensures.stable (λ (s : SettledPart). s.seq) (answers_always _ _ _ (λ f a r g h. search rules)))
    ∙ ap (settled_in seq) c.in_ok-sorted.ensures.items

pub returns-clause-ascend : goal.returns-clause-ascend
returns-clause-ascend c = IsNonDecreasingBy-from_sort_by_key (λ (s : SettledPart). s.seq) _
    c.in_ok-sort_by_key.ensures.sorted (λ a r q k. search rules)
