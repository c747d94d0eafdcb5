use Rattle.std.proofs.Common.{[], ◌∷◌, None, refl}
use Rattle.mf_store_archive.specs.Filing.{archive_rows}
use Rattle.mf_store_archive.specs.declared.filing.Filing.TheVariants.{Begin}
use Rattle.mf_store_archive.proofs.WritingLemmas.{filed_rows, unfiled_rows}
use Rattle.mf_store_archive.proofs.writing.begin_archive.Goals as goal

pub returns-in-Ok-clause-files : goal.returns-in-Ok-clause-files
returns-in-Ok-clause-files g c =
    filed_rows (Begin c.args.begins ∷ []) None (archive_rows c.args.begins []) (refl, tt) refl g.A.Store
    c.args.archive.now c.apply.new.connection c.apply.ensures.was_open c.apply.ensures.crash c.in-Ok.ensures.ok
    c.in-Ok.ensures.settled

pub returns-in-Err-clause-files : goal.returns-in-Err-clause-files
returns-in-Err-clause-files g c =
    unfiled_rows (Begin c.args.begins ∷ []) None (archive_rows c.args.begins []) (refl, tt) refl g.A.Store
    c.args.archive.now c.apply.new.connection c.apply.ensures.was_open c.apply.ensures.crash c.in-Err.ensures.err

pub returns-in-Ok-clause-open : goal.returns-in-Ok-clause-open
returns-in-Ok-clause-open g c clean = (c.in-Ok.ensures.settled clean).is_open
