use Rattle.std.proofs.lemmas.Result.{on_ok_weaker}
use Rattle.sqlite.specs.Held.{state}
use Rattle.mf_store_schema.proofs.UpgradeLemmas.{making_accounts}
use Rattle.mf_store_schema.proofs.upgrade_writes.make_account_tables.Goals as goal

pub returns-clause-ok : goal.returns-clause-ok
returns-clause-ok g c clean inside = on_ok_weaker c.make.result (making_accounts
    (state g.S.Store c.args.tx.now.conn.now) (state g.S.Store c.make.new.tx.conn.now)) (c.make.ensures.ok clean inside)
