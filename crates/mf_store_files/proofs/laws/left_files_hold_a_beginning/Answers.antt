use Rattle.mf_store_files.proofs.StopLemmas.{left_files}
use Rattle.mf_store_files.proofs.laws.left_files_hold_a_beginning.Goals as goal

pub returns : goal.returns
returns g c = λ i run sound range clean leaves numbered left may. left_files c.soundness.ensures.run
    c.soundness.ensures.accepted c.args.store.now.connection.store run i sound range numbered (leaves.whole clean) left
    may
