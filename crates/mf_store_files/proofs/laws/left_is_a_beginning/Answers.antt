use Rattle.mf_store_files.proofs.StopLemmas.{left_tables}
use Rattle.mf_store_files.proofs.laws.left_is_a_beginning.Goals as goal

pub returns : goal.returns
returns g c = λ i run sound range clean leaves left may. left_tables c.soundness.ensures.run
    c.soundness.ensures.accepted run i sound range left (leaves.whole clean left may)
