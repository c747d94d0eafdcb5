use Rattle.mf_store_noted.proofs.UpgradingLemmas.{tables_then}
use Rattle.mf_store_noted.proofs.upgrading.Tuple2WholeTables.put_tables.Goals as goal

pub returns-clause-takes_in : goal.returns-clause-takes_in
returns-clause-takes_in g c = tables_then g.S.Store g.A.WholeTables.text g.B.WholeTables.text g.A.WholeTables.Fit
    g.B.WholeTables.Fit c.args.connection.now c.put_tables.new.connection c.put_tables-2.new.connection
    c.args.hasher.now c.put_tables.new.hasher c.put_tables-2.new.hasher c.put_tables-2.result
    c.in_ok-put_tables.ensures.takes_in c.put_tables-2.ensures.takes_in
