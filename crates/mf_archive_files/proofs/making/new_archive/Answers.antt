use Rattle.std.proofs.Common.{sym, ◌∙◌}
use Rattle.mf_archive_files.proofs.MovingLemmas.{nothing_filed}
use Rattle.mf_archive_files.proofs.making.new_archive.Goals as goal

pub returns-then-has_no_tables-clause-empty : goal.returns-then-has_no_tables-clause-empty
returns-then-has_no_tables-clause-empty g c =
    nothing_filed c.in-Ok.connection _ (sym c.schema.ensures.value ∙ c.has_no_tables.ensures.0 c.if-has_no_tables.true)
    c.in-Ok.ensures.shows
