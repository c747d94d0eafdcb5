use Rattle.sqlite.specs.Held.{state}
use Rattle.mf_store_schema.proofs.ReadLemmas.{unchanged}
use Rattle.mf_store_journal.specs.Reading.{IsThird}
use Rattle.mf_store_journal.proofs.CallLemmas.{above_is, plain_as}
use Rattle.mf_store_journal.proofs.TextsLemmas.{is_journal}
use Rattle.mf_store_journal.proofs.reading.first_rows_after.Goals as goal

pub returns-in-Ok-clause-kept : goal.returns-in-Ok-clause-kept
returns-in-Ok-clause-kept g c =
    unchanged IsThird (state g.S.Store c.args.connection.now) (state g.S.Store c.rows_above.new.connection)
    c.above_text.result.now (plain_as _ _ c.above_text.ensures (((is_journal.numbered).above).plain))
    c.rows_above.ensures.same c.rows_above.ensures.was_open c.rows_above.ensures.crash

pub returns-in-Err-clause-kept : goal.returns-in-Err-clause-kept
returns-in-Err-clause-kept g c =
    unchanged IsThird (state g.S.Store c.args.connection.now) (state g.S.Store c.rows_above.new.connection)
    c.above_text.result.now (plain_as _ _ c.above_text.ensures (((is_journal.numbered).above).plain))
    c.rows_above.ensures.same c.rows_above.ensures.was_open c.rows_above.ensures.crash

pub returns-in-Ok-clause-rows : goal.returns-in-Ok-clause-rows
returns-in-Ok-clause-rows g c clean lines keeps =
    above_is c.above_text.result.now c.args.number c.args.most (state g.S.Store c.args.connection.now).now lines
    c.in-Ok.rows.items c.above_text.ensures (keeps (c.in-Ok.ensures.ok_open clean)) (c.in-Ok.ensures.rows clean)
