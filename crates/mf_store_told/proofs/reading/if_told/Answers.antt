use Rattle.mf_store_told.proofs.ToldLemmas.{not_all_told}
use Rattle.mf_store_told.proofs.reading.if_told.Goals as goal

pub returns-in-Ok-None-clause-some : goal.returns-in-Ok-None-clause-some
returns-in-Ok-None-clause-some g c clean its lines keeps =
    rw c.in-Ok-None.field-0-is at (c.in-Ok-None.ensures.untold clean its lines keeps)

pub returns-in-Ok-Some-clause-none : goal.returns-in-Ok-Some-clause-none
returns-in-Ok-Some-clause-none g c clean its lines keeps =
    not_all_told c.args.journal.begins.number lines c.in-Ok-Some.field-0-0
    (rw c.in-Ok-Some.field-0-is at (c.in-Ok-Some.ensures.untold clean its lines keeps))
