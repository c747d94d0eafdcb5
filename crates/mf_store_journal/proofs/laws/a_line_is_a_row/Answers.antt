use Rattle.std.proofs.Common.{ap, ◌∷◌}
use Rattle.mf_store_journal.specs.Rows.{filed_beginning}
use Rattle.mf_store_journal.proofs.RowsLemmas.{rows_more}
use Rattle.mf_store_journal.proofs.laws.a_line_is_a_row.Goals as goal

pub returns : goal.returns
returns c h ls l = ap (λ rows. filed_beginning h ∷ rows) (rows_more h ls l)
