use Rattle.std.proofs.Common.{rules, ◌≡◌, true, not, ap, ◌∙◌, List, [], IsTrue, IfOk, arith}
use Rattle.sqlite.specs.Held.{state}
use Rattle.sqlite.specs.State.{HasCleanDisk, Survives}
use Rattle.mf_store_schema.proofs.ShownLemmas.{prepared, refused_prepared, answers_prepared, same_prepared}
use Rattle.mf_store_schema.proofs.ShownLemmas.{crash_read}
use Rattle.mf_store_schema.specs.Read.{AreRead}
use Rattle.mf_store_sql.specs.Queries.{Answers}
use Rattle.sqlite.specs.Order.{Row}
use Rattle.sqlite.specs.Given.{IsPlain}
use Rattle.sqlite.specs.Listing.{understood}
use Rattle.mf_store_sql.proofs.QueryLemmas.{crash_prepared}
use Rattle.mf_store_schema.proofs.shown.read_shown.Goals as goal

pub returns-in_default-clause-same : goal.returns-in_default-clause-same
returns-in_default-clause-same g c clean live plain =
    let alone : c.is_autocommit-settled.result ≡ true = c.is_autocommit-settled.ensures.value ∙ ap not
    c.requires.alone in
    (prepared c.prepare.result _ (state g.S.Store c.args.connection.now) (state g.S.Store c.prepare.new.self) _
    (c.prepare.ensures.ok clean) (c.prepare.ensures.err clean) (c.is_autocommit-settled.ensures.settled alone) live).1

pub returns-in_default-clause-was_open : goal.returns-in_default-clause-was_open
returns-in_default-clause-was_open g c clean live =
    let alone : c.is_autocommit-settled.result ≡ true = c.is_autocommit-settled.ensures.value ∙ ap not
    c.requires.alone in
    (prepared c.prepare.result _ (state g.S.Store c.args.connection.now) (state g.S.Store c.prepare.new.self) _
    (c.prepare.ensures.ok clean) (c.prepare.ensures.err clean) (c.is_autocommit-settled.ensures.settled alone) live).0

pub returns-in-Err-clause-same : goal.returns-in-Err-clause-same
returns-in-Err-clause-same g c clean live plain =
    let alone : c.is_autocommit-settled.result ≡ true =
    c.is_autocommit-settled.ensures.value ∙ ap not c.requires.alone in
    let held = rw c.in-Err.is at c.query.follows.holds-at-none in
    let early : HasCleanDisk (state g.S.Store c.prepare.new.self) = omega (arith, clean, held.survives.clean) in
    refused_prepared g.S.Store c.args.sql.now (state g.S.Store c.args.connection.now) c.prepare.new.self
    c.prepare.new.self c.query.follows.lender-at-none (c.in-Ok.ensures.ok early).1 c.in-Err._error plain
    (c.is_autocommit-settled.ensures.settled alone) live (held.err clean)

pub returns-in-Err-clause-was_open : goal.returns-in-Err-clause-was_open
returns-in-Err-clause-was_open g c clean live =
    let held = rw c.in-Err.is at c.query.follows.holds-at-none in
    let early : HasCleanDisk (state g.S.Store c.prepare.new.self) = omega (arith, clean, held.survives.clean) in
    (c.in-Ok.ensures.ok early).1.0.was_open

pub returns-in-Err-clause-crash : goal.returns-in-Err-clause-crash
returns-in-Err-clause-crash g c =
    let held = rw c.in-Err.is at c.query.follows.holds-at-none in
    crash_prepared c.args.sql.now [] (state g.S.Store c.args.connection.now) (state g.S.Store c.prepare.new.self)
    (state g.S.Store c.query.follows.lender-at-none) (λ clean. (c.in-Ok.ensures.ok clean).1) c.prepare.ensures.survives
    held.survives

pub returns-in-Ok-query-clause-read : goal.returns-in-Ok-query-clause-read
returns-in-Ok-query-clause-read g c =
    let old = state g.S.Store c.args.connection.now in
    let mid = c.prepare.new.self in
    let first = c.in-Ok-query.rows.conn.now in
    let last = c.read_rows.new.rows.conn.now in
    let whole : HasCleanDisk (state g.S.Store last) → IfOk c.read_rows.result (λ x. (shown : List Row)
    × AreRead g.T.Table.stored (g.T.Table.columns).columns x shown × Answers c.args.sql.now [] old.now shown) = λ clean.
    let early : HasCleanDisk (state g.S.Store first) = omega (arith, clean, c.read_rows.ensures.survives.clean) in
    let before : HasCleanDisk (state g.S.Store mid) = omega (arith, early, c.in-Ok-query.ensures.survives.clean) in
    answers_prepared g.S.Store c.args.sql.now old mid first last (c.in-Ok.ensures.ok before).1
    (λ x shown. AreRead g.T.Table.stored (g.T.Table.columns).columns x shown) c.read_rows.result
    (c.in-Ok-query.ensures.begun early) (c.read_rows.ensures.read clean) in
    search rules

pub returns-in-Ok-query-clause-same : goal.returns-in-Ok-query-clause-same
returns-in-Ok-query-clause-same g c =
    let old = state g.S.Store c.args.connection.now in
    let mid = c.prepare.new.self in
    let first = c.in-Ok-query.rows.conn.now in
    let last = c.read_rows.new.rows.conn.now in
    let alone : c.is_autocommit-settled.result ≡ true =
    c.is_autocommit-settled.ensures.value ∙ ap not c.requires.alone in
    let whole : HasCleanDisk (state g.S.Store last) → IsTrue (state g.S.Store last).is_open
    → IsPlain (understood c.args.connection.now.schema c.args.sql.now) → (state g.S.Store last).now
    ≡ old.now = λ clean live plain.
    let early : HasCleanDisk (state g.S.Store first) = omega (arith, clean, c.read_rows.ensures.survives.clean) in
    let before : HasCleanDisk (state g.S.Store mid) = omega (arith, early, c.in-Ok-query.ensures.survives.clean) in
    same_prepared g.S.Store c.args.sql.now old mid first last (c.in-Ok.ensures.ok before).1 plain
    (c.in-Ok-query.ensures.begun early) (c.is_autocommit-settled.ensures.settled alone)
    (c.read_rows.ensures.same clean live) in
    search rules

pub returns-in-Ok-query-clause-crash : goal.returns-in-Ok-query-clause-crash
returns-in-Ok-query-clause-crash g c =
    let old = state g.S.Store c.args.connection.now in
    let last = state g.S.Store c.read_rows.new.rows.conn.now in
    let whole : Survives old last (λ _. IsTrue old.is_open
    × ¬ IsPlain (understood c.args.connection.now.schema c.args.sql.now)) =
    crash_read c.args.sql.now old (state g.S.Store c.prepare.new.self) (state g.S.Store c.in-Ok-query.rows.conn.now)
    last (λ clean. (c.in-Ok.ensures.ok clean).1) c.prepare.ensures.survives c.in-Ok-query.ensures.survives
    c.read_rows.ensures.survives in
    search rules
