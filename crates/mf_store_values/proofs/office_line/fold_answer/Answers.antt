use Rattle.std.proofs.Common.{◌≡◌, rules}
use Rattle.sqlite.specs.Held.{state}
use Rattle.sqlite.specs.State.{HasCleanDisk}
use Rattle.sqlite.specs.Values.{bound}
use Rattle.mf_store_sql.proofs.QueryLemmas.{refused_same}
use Rattle.mf_store_values.proofs.RowsLemmas.{folded_line, folded_sums}
use Rattle.mf_store_values.specs.declared.fold.NoLine.TheVariants.{Unread, TooGreat}
use Rattle.mf_store_values.proofs.office_line.fold_answer.Goals as goal

pub returns-in-Ok-clause-line : goal.returns-in-Ok-clause-line
returns-in-Ok-clause-line g c clean plain =
    let new = c.fold_instalments.new.rows.conn.now in
    let late : HasCleanDisk (state g.S.Store new) = search rules in
    let told =
    folded_line g.S.Store c.args.sql.now (bound c.args.params.now) c.args.connection.now c.in-Ok.rows.conn.now new plain
    c.in-Ok.ensures.begun c.fold_instalments.ensures.survives late c.args.today c.args.line.now
    c.fold_instalments.new.line c.fold_instalments.result c.fold_instalments.ensures.folds in
    search rules

pub returns-in-Err-clause-same : goal.returns-in-Err-clause-same
returns-in-Err-clause-same g c clean plain settled live =
    let refused = rw c.in-Err.is at c.query.follows.holds-at-none in
    refused_same c.args.sql.now (bound c.args.params.now) (state g.S.Store c.args.connection.now)
    (state g.S.Store c.query.follows.lender-at-none) c.in-Err.field-0 plain settled live (refused.err clean)

pub returns-in-Ok-clause-sums : goal.returns-in-Ok-clause-sums
returns-in-Ok-clause-sums g c clean plain =
    let new = c.fold_instalments.new.rows.conn.now in
    let late : HasCleanDisk (state g.S.Store new) = search rules in
    folded_sums g.S.Store c.args.sql.now (bound c.args.params.now) c.args.connection.now c.in-Ok.rows.conn.now new plain
    c.in-Ok.ensures.begun c.fold_instalments.ensures.survives late c.args.line.now c.fold_instalments.result
    c.fold_instalments.ensures.sums

pub returns-in-Err-clause-sums : goal.returns-in-Err-clause-sums
returns-in-Err-clause-sums g c clean plain great = absurd (let never : Unread ≡ TooGreat = great in cc)
