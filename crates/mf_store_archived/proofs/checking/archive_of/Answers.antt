use Rattle.mf_store_archived.proofs.CheckLemmas.{part_of, part_told}
use Rattle.mf_store_archived.proofs.checking.archive_of.Goals as goal

pub returns-in-Ok-clause-whole : goal.returns-in-Ok-clause-whole
returns-in-Ok-clause-whole c =
    part_of c.in-Ok.begins c.in-Ok.ends c.args.rows c.deref.result.now c.deref.ensures.value c.in-Ok.ensures.whole

pub returns-in-Ok-clause-only : goal.returns-in-Ok-clause-only
returns-in-Ok-clause-only c begins lines tells =
    part_told c.in-Ok.begins c.in-Ok.ends c.args.rows c.deref.result.now c.deref.ensures.value c.in-Ok.ensures.whole
    begins lines tells
