use Rattle.std.proofs.Common.{◌≡◌, rules, subst, sym, IfErr}
use Rattle.std.specs.Prelude.{Err, None, Some}
use Rattle.mf_store_values.specs.Decoded.{IsNoLoan}
use Rattle.mf_store_values.proofs.loans.loan_from.Goals as goal

pub returns-in_err-stage-clause-none : goal.returns-in_err-stage-clause-none
returns-in_err-stage-clause-none c =
    let e : c.from_residual-in_err-stage.result ≡ Err c.in_err-stage.field-0.0 = search rules in
    subst (λ r. IfErr r (λ _. IsNoLoan c.args.row)) (sym e) (λ today office number l early staged numbered is.
    let none : c.stage_of.result ≡ None = c.in_err-stage.ensures.none in
    let some : c.stage_of.result ≡ Some l.stage = c.stage_of.ensures.every today l.stage early staged
    (sym (λ t. (is t).stage), sym (λ t. (is t).approved), sym (λ t. (is t).disbursed)) in
    absurd (cc))
