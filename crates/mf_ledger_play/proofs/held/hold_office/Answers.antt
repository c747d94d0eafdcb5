use Rattle.std.proofs.Common.{refl, sym, ◌∙◌, ◌+◌, arith}
use Rattle.mf_ledger_play.proofs.HeldLemmas.{holds_all, holds_more, holds_none, number_made}
use Rattle.mf_ledger_play.proofs.held.hold_office.Goals as goal

pub loop-place-init : goal.loop-place-init
loop-place-init g c =
    holds_none g.S.InstitutionStore c.args.office c.in-Ok.counts.loans c.in-Ok.counts c.args.held.now.items
    c.args.store.now c.next_numbers.new.self refl (c.in-Ok.ensures {u = tt})

pub loop-place-preserved : goal.loop-place-preserved
loop-place-preserved g c =
    holds_more g.S.InstitutionStore c.args.office c.in-Ok.counts.loans c.loop-place.place c.in-Some.number
    c.args.held.now.items c.loop-place.held.items c.hold_loan.new.held.items c.args.store.now c.loop-place.store
    c.hold_loan.new.store c.loop-place-test.true (number_made 999999 (c.loop-place.place + 1) c.in-Some.number
    (sym c.in-Some.is ∙ c.new.ensures)) c.loop-place.invariant (c.in-Ok-hold_loan.ensures {u = tt}).holds

pub returns-clause-holds : goal.returns-clause-holds
returns-clause-holds g c =
    holds_all g.S.InstitutionStore c.args.office c.in-Ok.counts.loans c.loop-place.place c.args.held.now.items
    c.loop-place.held.items c.args.store.now c.loop-place.store
    (omega (arith, c.loop-place-test.false, c.loop-place.auto.place-end)) c.loop-place.invariant
