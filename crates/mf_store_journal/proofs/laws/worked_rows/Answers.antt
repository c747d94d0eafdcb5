use Rattle.std.proofs.Common.{refl}
use Rattle.mf_store_journal.proofs.laws.worked_rows.Goals as goal

pub returns : goal.returns
returns c chain = record { rows = refl; none = refl }
