use Rattle.mf_store_journal.proofs.StandingLemmas.{nowhere}
use Rattle.mf_store_journal.proofs.reading.read_head.Goals as goal

pub returns-in-None-clause-stands : goal.returns-in-None-clause-stands
returns-in-None-clause-stands g c clean lines keeps =
    nowhere lines (rw c.in-None.is at (c.in_ok-newest.ensures.row clean lines keeps))

pub returns-in-Some-clause-stands : goal.returns-in-Some-clause-stands
returns-in-Some-clause-stands g c clean lines keeps =
    c.standing_in.ensures lines (rw c.in-Some.is at (c.in_ok-newest.ensures.row clean lines keeps))
