use Rattle.std.proofs.Common.{◌≡◌, ◌∙◌, sym, ap, rules}
use Rattle.std.specs.Option.{unwrap_or}
use Rattle.std.proofs.lemmas.Int.{to_z-of_z}
use mir.Syntax.{w64}
use mir.Val.{SFits}
use Rattle.mf_store_schema.specs.declared.loans.LoanRow.{LoanRow}
use Rattle.mf_store_audit.proofs.LoanLemmas.{not_there, no_entries}
use Rattle.mf_store_audit.proofs.sums_by_loan.loan_sums.Goals as goal

pub returns-in_default-clause-sums : goal.returns-in_default-clause-sums
returns-in_default-clause-sums c k sound e f x n names l plain is es =
    let none = not_there k l (sym c.in_default.is ∙ c.in_ok-found.ensures.account k sound e f x n names l plain is
    es) in
    c.stage_sums.ensures k l none (no_entries k names l plain none) (ap (λ (r : LoanRow). r.stage) is)

pub returns-clause-sums : goal.returns-clause-sums
returns-clause-sums c k sound e f x n names l plain is es =
    let some = sym c.in-Some.is ∙ c.in_ok-found.ensures.account k sound e f x n names l plain is es in
    let fits : SFits w64 c.args.row.now.principal = search rules in
    let lent : l.loan.principal ≡ c.unwrap_or-lent.result = sym (c.unwrap_or-lent.ensures ∙ ap (λ o. unwrap_or o 0)
    (c.amount_from.ensures.every l.loan.principal (ap (λ (r : LoanRow). r.principal) is
    ∙ sym (to_z-of_z w64 c.args.row.now.principal fits)))) in
    c.account_sums.ensures k l some lent
