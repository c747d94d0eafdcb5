use Rattle.sqlite.specs.Held.{state}
use Rattle.mf_store_schema.proofs.CallLemmas.{unchanged}
use Rattle.mf_store_schema.proofs.table.ask.Goals as goal

pub returns-in-Ok-clause-kept : goal.returns-in-Ok-clause-kept
returns-in-Ok-clause-kept g c = unchanged (state g.S.Store c.args.connection.now)
    (state g.S.Store c.query.new.connection) c.args.sql.now c.requires.plain c.query.ensures.same
    c.query.ensures.was_open c.query.ensures.crash

pub returns-in-Err-clause-kept : goal.returns-in-Err-clause-kept
returns-in-Err-clause-kept g c = unchanged (state g.S.Store c.args.connection.now)
    (state g.S.Store c.query.new.connection) c.args.sql.now c.requires.plain c.query.ensures.same
    c.query.ensures.was_open c.query.ensures.crash
