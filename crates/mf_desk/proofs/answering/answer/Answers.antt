use Rattle.std.proofs.Common.{◌≡◌, Ok, Err, rules}
use Rattle.std.specs.Fn.{FnOnceReturnsAt}
use Rattle.mf_model.specs.Notes.{received_now, noted_as}
use Rattle.mf_model.specs.Unseen.{call_from}
use Rattle.mf_desk.proofs.AnswerLemmas.{refusal_changes_nothing, changes_made, changes_given_up}
use Rattle.mf_desk.proofs.AnswerLemmas.{decides_in_any_text, tells_own_view}
use Rattle.mf_desk.proofs.answering.answer.Goals as goal

pub returns-in_err-reply-clause-changes : goal.returns-in_err-reply-clause-changes
returns-in_err-reply-clause-changes g c =
    let s = g.S.InstitutionStore in
    let e : c.from_residual.result ≡ Err c.in_err-reply.field-0.0 = search rules in
    rw e (refusal_changes_nothing s (call_from c.args.caller c.args.request (received_now c.args.text.now))
    c.decide.result c.args.store.now c.decide.new.store c.in_err-reply.field-0.0 g.met.S.InstitutionStore.more
    c.decide.ensures.decides)

pub returns-in_err-shown-clause-changes : goal.returns-in_err-shown-clause-changes
returns-in_err-shown-clause-changes g c =
    let s = g.S.InstitutionStore in
    let e : c.from_residual-in_err-shown.result ≡ Err c.in_err-shown.field-0.0 = search rules in
    rw e (refusal_changes_nothing s (call_from c.args.caller c.args.request (received_now c.args.text.now))
    c.decide.result c.args.store.now c.decide.new.store c.in_err-shown.field-0.0 g.met.S.InstitutionStore.more
    c.decide.ensures.decides)

pub returns-in_err-commit_noted-in-Some-clause-changes : goal.returns-in_err-commit_noted-in-Some-clause-changes
returns-in_err-commit_noted-in-Some-clause-changes g c =
    let s = g.S.InstitutionStore in
    let e : c.from_residual-in_err-commit_noted-in-Some.result
    ≡ Err c.in_err-commit_noted-in-Some.field-0.0 = search rules in
    rw e (changes_given_up s (call_from c.args.caller c.args.request (received_now c.args.text.now))
    c.in_ok-reply.field-0 c.in-Some.commit
    (noted_as c.args.caller (received_now c.args.text.now) c.names-names.result) c.args.store.now c.decide.new.store
    c.commit_noted.new.store
    c.in_err-commit_noted-in-Some.field-0.0 c.soundness.ensures.accepted g.met.S.InstitutionStore.sound
    c.requires.in_range c.in-Some.is
    c.in_ok-reply.ensures.decides c.in_err-commit_noted-in-Some.ensures (search rules))

pub returns-in_ok-commit_noted-in-Some-clause-changes : goal.returns-in_ok-commit_noted-in-Some-clause-changes
returns-in_ok-commit_noted-in-Some-clause-changes g c =
    let s = g.S.InstitutionStore in
    changes_made s (call_from c.args.caller c.args.request (received_now c.args.text.now)) c.in_ok-reply.field-0
    c.in-Some.commit
    (noted_as c.args.caller (received_now c.args.text.now) c.names-names.result) c.args.store.now c.decide.new.store
    c.commit_noted.new.store c.in_ok-shown.shown
    c.soundness.ensures.accepted g.met.S.InstitutionStore.sound c.requires.in_range c.in-Some.is
    c.in_ok-reply.ensures.decides c.in_ok-commit_noted-in-Some.ensures (search rules)

pub returns-in_err-reply-clause-own_view : goal.returns-in_err-reply-clause-own_view
returns-in_err-reply-clause-own_view g c =
    let s = g.S.InstitutionStore in
    tells_own_view s (FnOnceReturnsAt g.F.FnOnce c.args.show) c.args.caller c.args.request
    (received_now c.args.text.now) c.args.store.now
    c.decide.new.store c.from_residual.result c.answered_by_view.ensures.office g.met.S.InstitutionStore.sound
    (search rules)

pub returns-in_err-shown-clause-own_view : goal.returns-in_err-shown-clause-own_view
returns-in_err-shown-clause-own_view g c =
    let s = g.S.InstitutionStore in
    tells_own_view s (FnOnceReturnsAt g.F.FnOnce c.args.show) c.args.caller c.args.request
    (received_now c.args.text.now) c.args.store.now
    c.decide.new.store c.from_residual-in_err-shown.result c.answered_by_view.ensures.office
    g.met.S.InstitutionStore.sound (search rules)

pub returns-in-None-clause-own_view : goal.returns-in-None-clause-own_view
returns-in-None-clause-own_view g c =
    let s = g.S.InstitutionStore in
    tells_own_view s (FnOnceReturnsAt g.F.FnOnce c.args.show) c.args.caller c.args.request
    (received_now c.args.text.now) c.args.store.now
    c.decide.new.store (Ok c.in_ok-shown.shown) c.answered_by_view.ensures.office g.met.S.InstitutionStore.sound
    (search rules)

pub returns-in_ok-commit_noted-in-Some-clause-own_view : goal.returns-in_ok-commit_noted-in-Some-clause-own_view
returns-in_ok-commit_noted-in-Some-clause-own_view g c =
    let s = g.S.InstitutionStore in
    tells_own_view s (FnOnceReturnsAt g.F.FnOnce c.args.show) c.args.caller c.args.request
    (received_now c.args.text.now) c.args.store.now
    c.commit_noted.new.store (Ok c.in_ok-shown.shown) c.answered_by_view.ensures.office g.met.S.InstitutionStore.sound
    (search rules)
