use Rattle.sqlite.specs.Held.{state}
use Rattle.mf_store_sql.proofs.NumberedShownLemmas.{shows_last}
use Rattle.mf_store_sql.proofs.numbered.last_row.Goals as goal

pub returns-clause-row : goal.returns-clause-row
returns-clause-row g c clean =
    shows_last c.args.text.now (state g.S.Store c.args.connection.now).now c.in_ok-rows.rows.items c.only.result
    c.only.ensures (c.in_ok-rows.ensures.rows clean)
