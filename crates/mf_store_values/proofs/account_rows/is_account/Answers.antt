use Rattle.std.proofs.Common.{◌∙◌, sym}
use Rattle.mf_store_values.proofs.AnswerLemmas.{refuses, no_answer}
use Rattle.mf_store_values.proofs.account_rows.is_account.Goals as goal

pub returns-then-not-are_same-clause-account : goal.returns-then-not-are_same-clause-account
returns-then-not-are_same-clause-account c k sound e f names l plain row_is es =
    let made = c.in_ok-add_account.ensures.added k sound e f names l plain row_is es in
    let own = rw c.new-own_instalments.ensures.items at made.0 in
    no_answer (λ both. refuses c.are_same.result c.if-not-are_same.true c.are_same.ensures (c.deref.ensures.value ∙ own
    ∙ both.0))

pub returns-clause-account : goal.returns-clause-account
returns-clause-account c k sound e f names l plain row_is es =
    let made = c.in_ok-add_account.ensures.added k sound e f names l plain row_is es in
    let own = rw c.new-own_instalments.ensures.items at made.0 in
    let own_shares = rw c.new-own_shares.ensures.items at made.1 in
    let instalments = sym (c.deref.ensures.value ∙ own) ∙ c.are_same.ensures.0 c.if-not-are_same.false in
    let shares = c.deref-2.ensures.value ∙ own_shares in (
      λ yes. (instalments, sym shares ∙ c.are_same-same.ensures.0 yes),
      λ both. c.are_same-same.ensures.1 (shares
          ∙ both.1),
    )
