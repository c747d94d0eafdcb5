use Rattle.std.proofs.Common.{◌∙◌, ap, rules}
use Rattle.std.proofs.lemmas.List.Sorted.{answers_always}
use Rattle.mf_account.specs.Change.{settled_in}
use Rattle.mf_account.specs.declared.settled.SettledPart.{SettledPart}
use Rattle.mf_store_values.proofs.ShareLemmas.{same_entries}
use Rattle.mf_store_values.proofs.shares.by_entry.Goals as goal

pub returns-clause-sorted : goal.returns-clause-sorted
returns-clause-sorted c = (c.in_ok-sort_by_key.ensures {u = tt}).sorted (λ (part : SettledPart). part.seq)
    (answers_always _ _ _ (λ f a r g called. search rules))

pub returns-clause-same : goal.returns-clause-same
returns-clause-same c seq =
    same_entries c.in_ok-sorted.sorted.items c.sort_by_key.new.self.items (c.sort_by_key.ensures.stable
    (λ (part : SettledPart). part.seq) (answers_always _ _ _ (λ f a r g called. search rules))) seq
    ∙ ap (settled_in seq) (c.in_ok-sorted.ensures {u = tt}).items
