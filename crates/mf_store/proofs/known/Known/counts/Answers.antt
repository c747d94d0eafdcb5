use Rattle.std.proofs.Common.{◌≡◌, rules}
use Rattle.mf_model.specs.declared.store.Counts.{Counts}
use Rattle.mf_model.specs.Store.{counts_at}
use Rattle.mf_store.proofs.KeptLemmas.{found_true}
use Rattle.mf_store.proofs.known.Known.counts.Goals as goal

pub returns : goal.returns
returns c = rw (← c.self.view_is) (λ i known. found_true (λ k. k) (λ (k : Counts). k ≡ counts_at c.args.office i) _
    c.copied.result (search rules) (known.counts c.args.office))
