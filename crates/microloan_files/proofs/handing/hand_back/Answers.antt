use Rattle.std.proofs.Common.{ap}
use Rattle.microloan_files.proofs.BeginningLemmas.{leave_beginning}
use Rattle.microloan_files.proofs.handing.hand_back.Goals as goal

pub returns-clause-beginning : goal.returns-clause-beginning
returns-clause-beginning g c = λ clean i run sound range leaves.
    leave_beginning c.soundness.ensures.run c.soundness.ensures.accepted c.args.store c.into_store.result
    c.into_store.ensures.numbered
    c.release.result.store (ap (λ h. h.store) c.release.ensures.same) c.into_store.ensures.quiet clean i run sound range
    leaves
