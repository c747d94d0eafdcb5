use Rattle.std.proofs.Math.Logic.{∥∥₁_map}
use Rattle.sqlite.proofs.Theorems.{opens_again}
use Rattle.microloan_files.proofs.handing.give_up.Goals as goal

pub returns-clause-left : goal.returns-clause-left
returns-clause-left g c = λ clean left may.
    ∥∥₁_map (opens_again c.into_store.result (c.into_store.ensures.numbered clean) (c.into_store.ensures.sound clean)
    left may)
    (λ found. (found.0, c.into_store.ensures.quiet.outcomes found.0 found.1, found.2))
