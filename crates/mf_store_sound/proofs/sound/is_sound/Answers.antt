use Rattle.std.proofs.Common.{◌↔◌, IsTrue, refl, sym, ap, ◌∙◌, subst, true≢false}
use Rattle.std.proofs.lemmas.Result.{IfOk-weaker}
use Rattle.mf_store_schema.specs.Rows.{Lists}
use Rattle.mf_store_values.specs.Accounts.{AreAccounts}
use Rattle.mf_store_values.proofs.AnswerLemmas.{refuses, no_answer}
use Rattle.mf_store_sound.specs.Sound.{AreUnder}
use Rattle.mf_store_sound.proofs.TableLemmas.{of_parts}
use Rattle.mf_store_sound.proofs.WholeLemmas.{Told, bare_is, under_of, whole_is}
use Rattle.mf_store_sound.proofs.sound.is_sound.Goals as goal

pub returns-then-not-branch-clause-exact : goal.returns-then-not-branch-clause-exact
returns-then-not-branch-clause-exact c =
    no_answer (λ h. refuses c.in_ok-are_under.field-0 c.if-not-branch.true (c.in_ok-are_under.ensures {u = tt}).exact
    (subst (λ n. AreUnder n c.args.tables.now) (sym c.number.ensures) (under_of c.args.version c.args.tables.now h)))

pub returns-then-not-has_accounts-clause-exact : goal.returns-then-not-has_accounts-clause-exact
returns-then-not-has_accounts-clause-exact c =
    let v = c.args.version in
    let under = (c.in_ok-are_under.ensures {u = tt}).exact.0 c.if-not-branch.false in
    bare_is v (λ has. true≢false (sym (c.has_accounts.ensures.1 has) ∙ c.if-not-has_accounts.true)) c.args.tables.now
    (IsTrue c.has_no_accounts.result) c.has_no_accounts.ensures.journal
    (subst (λ n. AreUnder n c.args.tables.now) c.number.ensures under) c.has_no_accounts.ensures.none

pub returns-clause-exact : goal.returns-clause-exact
returns-clause-exact c =
    let v = c.args.version in
    let under = (c.in_ok-are_under.ensures {u = tt}).exact.0 c.if-not-branch.false in
    IfOk-weaker c.are_accounts.result _ _ (λ answer told.
    whole_is v (c.has_accounts.ensures.0 c.if-not-has_accounts.false) c.args.tables.now (IsTrue answer)
    (sym (ap (λ (l : Lists). l.journal) c.tables.view_is)) (subst (λ n. AreUnder n c.args.tables.now) c.number.ensures
    under)
    (
    of_parts (Told (λ instalments shares k ps. IsTrue answer ↔ AreAccounts k ps instalments shares)) c.args.tables.now
    _ c.tables.view_is _ _ _ _ _ _ _ _ _ _ _
    refl refl refl refl c.deref.ensures.value c.deref-2.ensures.value c.deref-3.ensures.value c.deref-4.ensures.value
    refl c.deref-5.ensures.value c.deref-6.ensures.value told
    )) c.are_accounts.ensures.accounts
