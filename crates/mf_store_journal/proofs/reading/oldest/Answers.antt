use Rattle.std.proofs.Common.{[], subst}
use Rattle.sqlite.specs.Held.{state}
use Rattle.mf_store_sql.specs.Queries.{Answers}
use Rattle.mf_store_schema.proofs.ReadLemmas.{unchanged}
use Rattle.mf_store_journal.specs.Reading.{IsThird}
use Rattle.mf_store_journal.proofs.CallLemmas.{plain_as}
use Rattle.mf_store_journal.proofs.FirstLemmas.{first_row_is}
use Rattle.mf_store_journal.proofs.TextsLemmas.{is_journal}
use Rattle.mf_store_journal.proofs.reading.oldest.Goals as goal

pub returns-in-Ok-clause-kept : goal.returns-in-Ok-clause-kept
returns-in-Ok-clause-kept g c =
    unchanged IsThird (state g.S.Store c.args.connection.now) (state g.S.Store c.query.new.connection)
    c.first_text.result.now (plain_as _ _ c.first_text.ensures ((is_journal.first).plain))
    c.query.ensures.same c.query.ensures.was_open c.query.ensures.crash

pub returns-in-Err-clause-kept : goal.returns-in-Err-clause-kept
returns-in-Err-clause-kept g c =
    unchanged IsThird (state g.S.Store c.args.connection.now) (state g.S.Store c.query.new.connection)
    c.first_text.result.now (plain_as _ _ c.first_text.ensures ((is_journal.first).plain))
    c.query.ensures.same c.query.ensures.was_open c.query.ensures.crash

pub returns-in-Ok-clause-row : goal.returns-in-Ok-clause-row
returns-in-Ok-clause-row g c clean lines keeps =
    let db = (state g.S.Store c.args.connection.now).now in
    first_row_is db lines (keeps (c.in-Ok.ensures.ok_open clean)) c.in-Ok.rows.items c.only.result c.only.ensures
    (subst (λ sql. Answers sql [] db c.in-Ok.rows.items) c.first_text.ensures (c.in-Ok.ensures.rows clean))
