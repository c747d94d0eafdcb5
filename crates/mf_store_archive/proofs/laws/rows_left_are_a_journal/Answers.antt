use Rattle.std.proofs.Common.{◌∷◌, ap}
use Rattle.mf_store_journal.specs.Rows.{filed_beginning, head_with_all}
use Rattle.mf_store_archive.proofs.ArchivedLemmas.{rows_left}
use Rattle.mf_store_archive.proofs.laws.rows_left_are_a_journal.Goals as goal

pub returns : goal.returns
returns c begins first rest =
    ap (λ rows. filed_beginning (head_with_all begins first) ∷ rows) (rows_left begins first rest)
