use Rattle.sqlite.specs.Held.{state}
use Rattle.sqlite.specs.Values.{bound}
use Rattle.mf_store_sql.proofs.AppendLemmas.{appends_line, leaves_lines}
use Rattle.mf_store_sql.proofs.numbered.append.Goals as goal

pub returns-then-count-eq1-clause-ok : goal.returns-then-count-eq1-clause-ok
returns-then-count-eq1-clause-ok g c clean inside =
    let ran = c.in_ok-count.ensures.runs clean inside in
    appends_line c.args.text.now (bound c.args.row.now) (state g.S.Store c.args.tx.now.conn.now)
    (state g.S.Store c.execute.new.self.conn.now) c.in_ok-count.count c.if-count-eq1.true ran.1.mode ran.1.was_open
    ran.0

pub returns-else-count-eq1-clause-err : goal.returns-else-count-eq1-clause-err
returns-else-count-eq1-clause-err g c clean inside =
    leaves_lines c.args.text.now (bound c.args.row.now) (state g.S.Store c.args.tx.now.conn.now)
    (state g.S.Store c.execute.new.self.conn.now) c.in_ok-count.count c.if-count-eq1.false
    (c.in_ok-count.ensures.runs clean inside).0
