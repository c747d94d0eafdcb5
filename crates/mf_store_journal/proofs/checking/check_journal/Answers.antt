use Rattle.sqlite.specs.Held.{state}
use Rattle.mf_store_journal.proofs.GoingLemmas.{still_unchanged, keeping_after, found_nothing}
use Rattle.mf_store_journal.proofs.checking.check_journal.Goals as goal

pub returns-in-None-clause-found : goal.returns-in-None-clause-found
returns-in-None-clause-found g c clean lines keeps =
    found_nothing lines (rw c.in-None.is at (c.in_ok-oldest.ensures.row clean lines keeps))

pub returns-in-Some-clause-kept : goal.returns-in-Some-clause-kept
returns-in-Some-clause-kept g c =
    still_unchanged (state g.S.Store c.args.connection.now) (state g.S.Store c.oldest.new.connection)
    (state g.S.Store c.check_after.new.connection) c.oldest.ensures.kept c.check_after.ensures.kept

pub returns-in-Some-clause-open : goal.returns-in-Some-clause-open
returns-in-Some-clause-open g c clean =
    c.check_after.ensures.open clean (c.in_ok-oldest.ensures.open ((c.check_after.ensures.kept).premise clean))

pub returns-in-Some-clause-found : goal.returns-in-Some-clause-found
returns-in-Some-clause-found g c clean lines keeps =
    let early = (c.check_after.ensures.kept).premise clean in
    c.check_after.ensures.found clean lines (keeping_after (state g.S.Store c.args.connection.now)
    (state g.S.Store c.oldest.new.connection) lines c.oldest.ensures.kept early keeps)
    (rw c.in-Some.is at (c.in_ok-oldest.ensures.row early lines keeps))
