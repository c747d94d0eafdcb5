use Rattle.sqlite.specs.Held.{state}
use Rattle.mf_store_schema.proofs.ReadLemmas.{unchanged}
use Rattle.mf_store_journal.specs.Reading.{IsThird}
use Rattle.mf_store_journal.proofs.CallLemmas.{last_is, plain_as}
use Rattle.mf_store_journal.proofs.TextsLemmas.{is_journal}
use Rattle.mf_store_journal.proofs.reading.newest.Goals as goal

pub returns-in-Ok-clause-kept : goal.returns-in-Ok-clause-kept
returns-in-Ok-clause-kept g c =
    unchanged IsThird (state g.S.Store c.args.connection.now) (state g.S.Store c.last_row.new.connection)
    c.last_text.result.now (plain_as _ _ c.last_text.ensures (((is_journal.numbered).last).plain))
    c.last_row.ensures.same c.last_row.ensures.was_open c.last_row.ensures.crash

pub returns-in-Err-clause-kept : goal.returns-in-Err-clause-kept
returns-in-Err-clause-kept g c =
    unchanged IsThird (state g.S.Store c.args.connection.now) (state g.S.Store c.last_row.new.connection)
    c.last_text.result.now (plain_as _ _ c.last_text.ensures (((is_journal.numbered).last).plain))
    c.last_row.ensures.same c.last_row.ensures.was_open c.last_row.ensures.crash

pub returns-in-Ok-clause-row : goal.returns-in-Ok-clause-row
returns-in-Ok-clause-row g c clean lines keeps =
    last_is c.last_text.result.now (state g.S.Store c.args.connection.now).now lines c.in-Ok.row c.last_text.ensures
    (keeps (c.in-Ok.ensures.ok_open clean)) (c.in-Ok.ensures.row clean)
