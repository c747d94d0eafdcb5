use Rattle.std.proofs.Common.{◌≡◌, ◌≢◌, ◌∙◌, ℕ, List, None, sym, subst, rules}
use Rattle.std.specs.Prelude.{IfSome}
use Rattle.std.proofs.lemmas.Int.{to_z-of_z}
use mir.Syntax.{w64}
use Rattle.mf_account.specs.Change.{account_by_replay}
use Rattle.mf_account.specs.declared.entry.Entry.{Entry}
use Rattle.mf_account.specs.Loan.{DisbursedLoan, IsSoundDisbursed}
use Rattle.mf_model.specs.Accounts.{running_loan, terms_in}
use Rattle.mf_model.specs.Stages.{disbursed_on}
use Rattle.mf_store_values.proofs.AccountLemmas.{no_account, account_found, readable_of}
use Rattle.mf_store_values.proofs.AnswerLemmas.{both_if_ok}
use Rattle.mf_store_values.proofs.accounts.account_of.Goals as goal

pub returns-in_default-clause-account : goal.returns-in_default-clause-account
returns-in_default-clause-account c k sound e f office number names l plain is es =
    no_account k l (c.in_default.ensures k.day office number l.loan sound.day plain.own.stage is)

pub returns-clause-account : goal.returns-clause-account
returns-clause-account c =
    both_if_ok c.of_entries.result _ _ _ c.of_entries.ensures.account c.of_entries.ensures.none
    (λ found is some k sound e f office number names l plain row_is es.
    let one = c.in-Some-amount_from.ensures.every l.loan.principal ((λ t. (row_is t).principal)
    ∙ sym (to_z-of_z w64 c.args.row.now.principal (search rules))) in
    let principal : c.in-Some-amount_from.principal ≡ l.loan.principal = cc in
    let entries = (c.in_ok-list.ensures {u = tt}).entries office number l.entries
    (readable_of k.day l.loan.periods (disbursed_on l.loan.stage) l.entries plain.entries) es in
    let running : ℕ → ℕ → List Entry → DisbursedLoan = λ principal periods entries. record {
      terms = c.in-Some-2.terms;
      principal = principal;
      periods = periods;
      day = c.in-Some.day;
      entries = entries;
    } in
    let same : running c.in-Some-amount_from.principal c.args.row.now.periods c.in_ok-list.list.items
    ≡ running_loan l.loan l.entries c.in-Some.day c.in-Some-2.terms =
    λ t. running (principal t) (sym row_is t).periods (entries t) in
    let given = (c.in_ok-terms.ensures {u = tt}).terms k e f
    ∙ (λ t. terms_in k (sym row_is t).product) in
    account_found k names l c.in-Some.day c.in-Some-2.terms found sound plain (c.in-Some.ensures k.day office number
    l.loan sound.day plain.own.stage row_is)
    (sym c.in-Some-2.is ∙ given)
    (subst (λ (r : DisbursedLoan). IfSome found (λ account. account ≡ account_by_replay r)) same is)
    (subst (λ (r : DisbursedLoan). IsSoundDisbursed r → found ≢ None) same some))
