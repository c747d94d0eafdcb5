use Rattle.std.proofs.lemmas.Option.{slice_get-get_or}
use Rattle.mf_store_played.proofs.archived.place_at.Goals as goal

pub returns : goal.returns
returns c = slice_get-get_or c.args.places.now c.args.k _ c.requires
