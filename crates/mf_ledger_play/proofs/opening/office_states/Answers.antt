use Rattle.std.proofs.Common.{refl, sym, subst, ◌∙◌, ◌+◌, arith}
use Rattle.mf_ledger_play.proofs.HeldLemmas.{number_made}
use Rattle.mf_ledger_play.proofs.OpeningLemmas.{ReadSome, read_all, read_more, read_none}
use Rattle.mf_ledger_play.proofs.opening.office_states.Goals as goal

pub loop-place-init : goal.loop-place-init
loop-place-init g c =
    let store = g.S.InstitutionStore in
    subst (λ states. ReadSome store c.args.office c.args.day c.in-Ok.counts.loans 0 states c.args.store.now
    c.next_numbers.new.self) (sym c.new-states.ensures.items)
    (read_none store c.args.office c.args.day c.in-Ok.counts.loans c.in-Ok.counts c.args.store.now
    c.next_numbers.new.self refl (c.in-Ok.ensures {u = tt}))

pub loop-place-preserved : goal.loop-place-preserved
loop-place-preserved g c =
    read_more g.S.InstitutionStore c.args.office c.args.day c.in-Ok.counts.loans c.loop-place.place c.in-Some.number
    c.loop-place.states.items c.push.new.self.items c.in-Ok-loan_state.state c.args.store.now c.loop-place.store
    c.loan_state.new.store c.loop-place-test.true (number_made 999999 (c.loop-place.place + 1) c.in-Some.number
    (sym c.in-Some.is ∙ c.new.ensures)) c.loop-place.invariant (c.in-Ok-loan_state.ensures {u = tt})
    (c.in_ok-push-in-Ok-loan_state.ensures {u = tt}).items

pub returns-clause-read : goal.returns-clause-read
returns-clause-read g c =
    read_all g.S.InstitutionStore c.args.office c.args.day c.in-Ok.counts.loans c.loop-place.place
    c.loop-place.states.items c.args.store.now c.loop-place.store
    (omega (arith, c.loop-place-test.false, c.loop-place.auto.place-end)) c.loop-place.invariant
