use Rattle.std.proofs.Common.{◌≡◌}
use Rattle.mf_store_schema.proofs.ShownLemmas.{IsUnderWay}
use Rattle.mf_store_schema.proofs.shown.read_rows.Given as goal

abbrev pub invariant-rows : goal.invariant-rows
invariant-rows g l =
    (l.rows.conn.ghost_name ≡ l.fn.rows.conn.ghost_name)
    × IsUnderWay g.S.Store g.T.Table.stored (g.T.Table.columns).columns l.fn.rows.conn.now l.rows.conn.now l.records
