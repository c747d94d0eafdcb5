use Rattle.std.proofs.Common.{[], refl, sym, subst, ◌∙◌, arith}
use Rattle.std.proofs.lemmas.Option.{slice_get-get_or}
use Rattle.mf_portions_play.proofs.ReadingLemmas.{OfficesPut, offices_all, offices_more, offices_none}
use Rattle.mf_portions_play.proofs.reading.read_portions.Goals as goal

pub loop-place-init : goal.loop-place-init
loop-place-init g c =
    let store = g.S.InstitutionStore in
    let old = c.args.store.now in
    let now = c.offices.new.self in
    let products = c.in-Ok.counts.products in
    subst (λ lines. OfficesPut store c.as_slice-listed.result.now products 0 lines old now)
    (sym c.new-lines.ensures.items)
    (subst (λ offices. OfficesPut store offices products 0 [] old now) (sym c.as_slice-listed.ensures)
    (offices_none store c.in-Ok-offices.offices products old c.catalogue_counts.new.self now
    (g.met.S.InstitutionStore.sound old) c.in-Some.head (sym c.in-Some.is ∙ c.new.ensures) c.in-Ok.counts refl
    (c.in-Ok.ensures {u = tt}) (c.in-Ok-offices.ensures {u = tt})))

pub loop-place-preserved : goal.loop-place-preserved
loop-place-preserved g c =
    offices_more g.S.InstitutionStore c.as_slice-listed.result.now c.in-Ok.counts.products c.loop-place.place _
    c.loop-place.lines.items c.put_office.new.lines.items c.args.store.now c.loop-place.store c.put_office.new.store
    (slice_get-get_or _ c.loop-place.place _ c.loop-place-test.true) c.loop-place.invariant
    (c.in-Ok-put_office.ensures {u = tt}).puts

pub returns-clause-tells : goal.returns-clause-tells
returns-clause-tells g c =
    offices_all g.S.InstitutionStore c.as_slice-listed.result.now c.in-Ok.counts.products c.loop-place.place
    c.loop-place.lines.items c.args.store.now c.loop-place.store
    (omega (arith, c.loop-place-test.false, c.loop-place.auto.place-end)) c.loop-place.invariant
