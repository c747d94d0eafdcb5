use Rattle.mf_archive_files.proofs.MovingLemmas.{moves_and_closes}
use Rattle.mf_archive_files.proofs.moving.archive_and_close.Goals as goal

pub returns-clause-moves : goal.returns-clause-moves
returns-clause-moves g c clean clean_too i lines b leaves =
    moves_and_closes c.args.day c.args.journal.begins i lines c.archive_from-moved.result.0
    c.archive_from-moved.result.1
    c.archive_from-moved.new.archive c.close_file.result c.close_file.ensures clean_too
    (c.archive_from-moved.ensures.moves clean (c.close_file.ensures.premise clean_too) i lines b leaves)
