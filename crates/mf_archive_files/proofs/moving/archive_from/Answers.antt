use Rattle.std.proofs.Common.{sym, subst, ◌∙◌}
use Rattle.sqlite.specs.Files.{over_files}
use Rattle.mf_store_archive.specs.Archiving.{Archives}
use Rattle.mf_archive_files.specs.Moving.{MovesFrom}
use Rattle.mf_archive_files.proofs.MovingLemmas.{moves_from}
use Rattle.mf_archive_files.proofs.moving.archive_from.Goals as goal

pub returns-clause-premise : goal.returns-clause-premise
returns-clause-premise g c clean = c.archive_lines-ended.ensures.archives.premise (c.close_file.ensures.premise clean)

pub returns-clause-moves : goal.returns-clause-moves
returns-clause-moves g c clean good i lines b leaves =
    subst (λ r. MovesFrom g.A.Store c.args.day c.args.journal.begins i lines r c.close_file.result
    c.archive_lines-ended.new.archive) (sym c.moved_lines.ensures)
    (moves_from g.A.Store c.args.day c.args.journal c.args.file c.archive_lines-ended.new.file c.args.archive.now
    c.archive_lines-ended.new.archive c.close_file.result c.close_file.ensures c.archive_lines-ended.result
    (subst (λ d. Archives over_files g.A.Store d c.args.journal c.args.file c.archive_lines-ended.new.file
    c.args.archive.now c.archive_lines-ended.new.archive c.archive_lines-ended.result)
    (c.from-day.ensures ∙ c.number.ensures) c.archive_lines-ended.ensures.archives) clean good i lines b leaves)
