use Rattle.std.proofs.Common.{◌≡◌, true, not, ap, ◌∙◌, [], IsTrue, arith}
use Rattle.std.proofs.lemmas.Result.{IfOk-weaker}
use Rattle.sqlite.specs.Held.{state}
use Rattle.sqlite.specs.Values.{bound}
use Rattle.sqlite.specs.State.{HasCleanDisk, Shown}
use Rattle.mf_store_sql.specs.Queries.{Answers}
use Rattle.mf_store_sql.proofs.QueryLemmas.{not_run_same, answers_prepared, same_prepared, crash_prepared, shown_open}
use Rattle.mf_store_sql.proofs.query.Goals as goal

pub returns-in_err-prepare-clause-same : goal.returns-in_err-prepare-clause-same
returns-in_err-prepare-clause-same g c clean live plain =
    let alone : c.is_autocommit-settled.result ≡ true = c.is_autocommit-settled.ensures.value ∙ ap not c.requires in
    (not_run_same (state g.S.Store c.args.connection.now) (state g.S.Store c.prepare.new.self) _ []
    c.in_err-prepare.field-0.0 (c.is_autocommit-settled.ensures.settled alone) live (c.in_err-prepare.ensures.err
    clean [])).1

pub returns-in_err-prepare-clause-was_open : goal.returns-in_err-prepare-clause-was_open
returns-in_err-prepare-clause-was_open g c clean live =
    let alone : c.is_autocommit-settled.result ≡ true = c.is_autocommit-settled.ensures.value ∙ ap not c.requires in
    (not_run_same (state g.S.Store c.args.connection.now) (state g.S.Store c.prepare.new.self) _ []
    c.in_err-prepare.field-0.0 (c.is_autocommit-settled.ensures.settled alone) live (c.in_err-prepare.ensures.err
    clean [])).0

pub returns-clause-rows : goal.returns-clause-rows
returns-clause-rows g c clean =
    let old = state g.S.Store c.args.connection.now in
    let mid = state g.S.Store c.prepare.new.self in
    let new = state g.S.Store c.query_all.new.self in
    let early : HasCleanDisk mid = omega (arith, clean, c.query_all.ensures.survives.clean) in
    let params = bound c.args.params.now in
    IfOk-weaker c.query_all.result (λ rows. Shown c.args.sql.now params mid new rows.items)
    (λ rows. Answers c.args.sql.now params old.now rows.items)
    (λ rows h. answers_prepared c.args.sql.now params old mid new rows.items (c.in_ok-prepare.ensures.ok early).1 h)
    (c.query_all.ensures.ok clean)

pub returns-clause-still_open : goal.returns-clause-still_open
returns-clause-still_open g c clean =
    IfOk-weaker c.query_all.result _ (λ _. IsTrue (state g.S.Store c.query_all.new.self).is_open)
    (λ rows h. shown_open c.args.sql.now (bound c.args.params.now) (state g.S.Store c.prepare.new.self)
    (state g.S.Store c.query_all.new.self) rows.items h) (c.query_all.ensures.ok clean)

pub returns-clause-same : goal.returns-clause-same
returns-clause-same g c clean live plain =
    let old = state g.S.Store c.args.connection.now in
    let mid = state g.S.Store c.prepare.new.self in
    let new = state g.S.Store c.query_all.new.self in
    let early : HasCleanDisk mid = omega (arith, clean, c.query_all.ensures.survives.clean) in
    let alone : c.is_autocommit-settled.result ≡ true = c.is_autocommit-settled.ensures.value ∙ ap not c.requires in
    same_prepared c.args.sql.now (bound c.args.params.now) old mid new (λ rows. rows.items) c.query_all.result
    (c.in_ok-prepare.ensures.ok early).1 plain (c.is_autocommit-settled.ensures.settled alone) live
    (c.query_all.ensures.ok clean) (c.query_all.ensures.err clean)

pub returns-clause-crash : goal.returns-clause-crash
returns-clause-crash g c =
    crash_prepared c.args.sql.now (bound c.args.params.now) (state g.S.Store c.args.connection.now)
    (state g.S.Store c.prepare.new.self) (state g.S.Store c.query_all.new.self)
    (λ clean. (c.in_ok-prepare.ensures.ok clean).1) c.prepare.ensures.survives c.query_all.ensures.survives
