use Rattle.std.proofs.Common.{◌≡◌, Err, not, sym, ap, ◌∙◌, rules}
use Rattle.sqlite.specs.Held.{state}
use Rattle.sqlite.specs.State.{IsUnchanged}
use Rattle.mf_store_schema.specs.InstalmentsTexts.{lists_by_1}
use Rattle.mf_store_schema.proofs.RangeLemmas.{instalments_of_office}
use Rattle.mf_store_values.proofs.RowsLemmas.{clean_before, prepared_ok, unprepared, folded_unchanged, plain_kept}
use Rattle.mf_store_values.proofs.RowsLemmas.{line_read, never_great}
use Rattle.mf_store_values.proofs.office_line.line_of_office.Goals as goal

pub returns-then-is_err-clause-kept : goal.returns-then-is_err-clause-kept
returns-then-is_err-clause-kept g c =
    unprepared _ instalments_of_office _ (state g.S.Store c.args.connection.now) (state g.S.Store c.prepare.new.self)
    c.prepare.result (λ journaled. (lists_by_1 journaled).plain)
    (c.is_autocommit-settled.ensures.settled (c.is_autocommit-settled.ensures.value ∙ ap not c.requires.alone))
    c.prepare.ensures.ok c.prepare.ensures.err c.prepare.ensures.survives

pub returns-in_err-fold_answer-clause-kept : goal.returns-in_err-fold_answer-clause-kept
returns-in_err-fold_answer-clause-kept g c =
    folded_unchanged _ instalments_of_office _ (state g.S.Store c.args.connection.now)
    (state g.S.Store c.prepare.new.self) (state g.S.Store c.fold_answer.new.connection) c.prepare.result
    (λ journaled. (lists_by_1 journaled).plain)
    (c.is_autocommit-settled.ensures.settled (c.is_autocommit-settled.ensures.value ∙ ap not c.requires.alone))
    (sym c.is_err.ensures.value ∙ c.if-is_err.false) c.prepare.ensures.ok c.prepare.ensures.survives
    c.fold_answer.ensures.survives c.fold_answer.ensures.same

pub returns-clause-kept : goal.returns-clause-kept
returns-clause-kept g c =
    folded_unchanged _ instalments_of_office _ (state g.S.Store c.args.connection.now)
    (state g.S.Store c.prepare.new.self) (state g.S.Store c.fold_answer.new.connection) c.prepare.result
    (λ journaled. (lists_by_1 journaled).plain)
    (c.is_autocommit-settled.ensures.settled (c.is_autocommit-settled.ensures.value ∙ ap not c.requires.alone))
    (sym c.is_err.ensures.value ∙ c.if-is_err.false) c.prepare.ensures.ok c.prepare.ensures.survives
    c.fold_answer.ensures.survives c.fold_answer.ensures.same

pub returns-clause-line : goal.returns-clause-line
returns-clause-line g c clean lists keeping loans above whole are =
    let old = state g.S.Store c.args.connection.now in
    let mid = state g.S.Store c.prepare.new.self in
    let new = state g.S.Store c.fold_answer.new.connection in
    let same : IsUnchanged old mid = prepared_ok _ _ c.prepare.result (sym c.is_err.ensures.value ∙ c.if-is_err.false)
    (c.prepare.ensures.ok (clean_before c.fold_answer.ensures.survives clean)) in
    let told = rw c.in_ok-fold_answer.was at
    (c.fold_answer.ensures.line clean (plain_kept lists old mid same keeping)) in
    line_read lists old mid same keeping c.args.office loans c.new-line.result above whole are c.new-line.ensures
    c.args.today new c.fold_answer.new.line (rw (c.params-to_sql.ensures, c.get-number.ensures.value) at told)

pub returns-in_err-fold_answer-clause-sums : goal.returns-in_err-fold_answer-clause-sums
returns-in_err-fold_answer-clause-sums g c clean lists keeping loans above whole within are =
    let old = state g.S.Store c.args.connection.now in
    let mid = state g.S.Store c.prepare.new.self in
    let new = state g.S.Store c.fold_answer.new.connection in
    let same : IsUnchanged old mid = prepared_ok _ _ c.prepare.result (sym c.is_err.ensures.value ∙ c.if-is_err.false)
    (c.prepare.ensures.ok (clean_before c.fold_answer.ensures.survives clean)) in
    let e : c.from_residual.result ≡ Err c.in_err-fold_answer.field-0.0 = search rules in
    rw e (never_great lists old mid same keeping c.args.office loans c.new-line.result above whole are
    c.new-line.ensures c.in_err-fold_answer.field-0.0 within
    (rw (c.params-to_sql.ensures, c.get-number.ensures.value) at
    (c.in_err-fold_answer.ensures.sums clean (plain_kept lists old mid same keeping))))
