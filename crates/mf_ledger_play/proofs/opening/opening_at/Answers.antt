use Rattle.std.proofs.Common.{[], refl, sym, subst, ◌∙◌, arith}
use Rattle.std.proofs.lemmas.Option.{slice_get-get_or}
use Rattle.mf_ledger_play.proofs.OpeningLemmas.{OpensOffices, opens_all, opens_more, opens_none}
use Rattle.mf_ledger_play.proofs.opening.opening_at.Goals as goal

pub loop-place-init : goal.loop-place-init
loop-place-init g c =
    let store = g.S.InstitutionStore in
    let old = c.args.store.now in
    let now = c.offices.new.self in
    let products = c.in-Ok.counts.products in
    subst (λ cash. OpensOffices store c.as_slice-listed.result.now products c.args.day 0 cash c.new-3.result.items old
    now) (sym c.new-2.ensures.items)
    (subst (λ added. OpensOffices store c.as_slice-listed.result.now products c.args.day 0 [] added old now)
    (sym c.new-3.ensures.items)
    (subst (λ offices. OpensOffices store offices products c.args.day 0 [] [] old now) (sym c.as_slice-listed.ensures)
    (opens_none store c.in-Ok-offices.offices products c.args.day old c.catalogue_counts.new.self now c.in-Ok.counts
    c.in-Some.head (g.met.S.InstitutionStore.sound old) (sym c.in-Some.is ∙ c.new.ensures) refl
    (c.in-Ok.ensures {u = tt}) (c.in-Ok-offices.ensures {u = tt}))))

pub loop-place-preserved : goal.loop-place-preserved
loop-place-preserved g c =
    opens_more g.S.InstitutionStore c.as_slice-listed.result.now c.in-Ok.counts.products c.args.day c.loop-place.place _
    c.in-Ok-office_states.states.items c.deref.result.now c.loop-place.opening.cash.items
    c.loop-place.opening.added.items c.open_products.new.opening.cash.items c.open_products.new.opening.added.items
    c.args.store.now c.loop-place.store c.office_states.new.store
    (slice_get-get_or _ c.loop-place.place _ c.loop-place-test.true) c.loop-place.invariant
    (c.in-Ok-office_states.ensures {u = tt}).read c.deref.ensures.value c.in_ok-open_products.ensures.cash
    c.in_ok-open_products.ensures.added

pub returns-clause-reads : goal.returns-clause-reads
returns-clause-reads g c =
    opens_all g.S.InstitutionStore c.as_slice-listed.result.now c.in-Ok.counts.products c.args.day c.loop-place.place
    c.loop-place.opening c.args.store.now c.loop-place.store
    (omega (arith, c.loop-place-test.false, c.loop-place.auto.place-end)) c.loop-place.invariant
