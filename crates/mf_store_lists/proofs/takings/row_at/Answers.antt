use Rattle.std.proofs.lemmas.Option.{slice_get-get_or}
use Rattle.mf_store_lists.proofs.takings.row_at.Goals as goal

pub returns : goal.returns
returns c = slice_get-get_or c.args.rows.now c.args.at _ c.requires
