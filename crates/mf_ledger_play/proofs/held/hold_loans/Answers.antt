use Rattle.std.proofs.Common.{[], sym, subst, ◌∙◌, arith}
use Rattle.std.proofs.lemmas.Option.{slice_get-get_or}
use Rattle.mf_ledger_play.proofs.HeldLemmas.{HoldsOffices, offices_all, offices_more, offices_none}
use Rattle.mf_ledger_play.proofs.held.hold_loans.Goals as goal

pub loop-place-init : goal.loop-place-init
loop-place-init g c =
    let store = g.S.InstitutionStore in
    let old = c.args.store.now in
    let now = c.offices.new.self in
    subst (λ held. HoldsOffices store c.as_slice-listed.result.now 0 held old now) (sym c.new-held.ensures.items)
    (subst (λ offices. HoldsOffices store offices 0 [] old now) (sym c.as_slice-listed.ensures)
    (offices_none store c.in-Ok.offices old now (g.met.S.InstitutionStore.sound old) c.in-Some.head
    (sym c.in-Some.is ∙ c.new.ensures) (c.in-Ok.ensures {u = tt})))

pub loop-place-preserved : goal.loop-place-preserved
loop-place-preserved g c =
    offices_more g.S.InstitutionStore c.as_slice-listed.result.now c.loop-place.place _ c.loop-place.held.items
    c.hold_office.new.held.items c.args.store.now c.loop-place.store c.hold_office.new.store
    (slice_get-get_or _ c.loop-place.place _ c.loop-place-test.true) c.loop-place.invariant
    (c.in-Ok-hold_office.ensures {u = tt}).holds

pub returns-clause-holds : goal.returns-clause-holds
returns-clause-holds g c =
    offices_all g.S.InstitutionStore c.as_slice-listed.result.now c.loop-place.place c.loop-place.held.items
    c.args.store.now c.loop-place.store (omega (arith, c.loop-place-test.false, c.loop-place.auto.place-end))
    c.loop-place.invariant
