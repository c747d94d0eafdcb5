use Rattle.std.proofs.Common.{◌≡◌, Err, rules}
use Rattle.mf_store_noted.proofs.UpgradingLemmas.{headless, not_upgraded, upgraded}
use Rattle.mf_store_noted.proofs.upgrading.begin_upgraded.Goals as goal

pub returns-clause-gets : goal.returns-clause-gets
returns-clause-gets g c =
    let head = c.in_ok-begins in
    let made = c.in_ok-begin_journal.ensures in
    upgraded g.S.Store c.args.day head.begins head.ensures.can c.args.connection.now c.upgrading_head.new.connection
    c.begin_journal.new.connection head.ensures.kept made.premise made.shuts made.stop made.open head.ensures.head
    head.ensures.fits made.made made.left

pub returns-in_err-begins-clause-gets : goal.returns-in_err-begins-clause-gets
returns-in_err-begins-clause-gets g c =
    let given : c.from_residual.result ≡ Err c.in_err-begins.field-0.0 = search rules in
    rw given (headless g.S.Store c.args.day c.args.connection.now c.upgrading_head.new.connection
    c.in_err-begins.field-0.0 c.in_err-begins.ensures.kept c.in_err-begins.ensures.gives_up)

pub returns-in_err-begin_journal-clause-gets : goal.returns-in_err-begin_journal-clause-gets
returns-in_err-begin_journal-clause-gets g c =
    let head = c.in_ok-begins in
    let left = c.in_err-begin_journal in
    let given : c.from_residual-in_err-begin_journal.result ≡ Err left.field-0.0 = search rules in
    rw given (not_upgraded g.S.Store c.args.day head.begins head.ensures.can c.args.connection.now
    c.upgrading_head.new.connection c.begin_journal.new.connection head.ensures.kept left.ensures.premise
    left.ensures.shuts left.ensures.stop left.field-0.0 left.ensures.gives_up left.ensures.same)
