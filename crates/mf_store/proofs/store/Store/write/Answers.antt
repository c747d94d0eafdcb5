use Rattle.std.proofs.Common.{◌≡◌, ◌∙◌, Err, sym, ap, subst, rules}
use Rattle.mf_model.specs.Notes.{noted_now}
use Rattle.mf_store.specs.Facts.{KnownStore}
use Rattle.mf_store.specs.Stands.{IsClean, Stays}
use Rattle.mf_store.proofs.MadeLemmas.{unwritten, written}
use Rattle.mf_store.proofs.store.Store.write.Goals as goal

pub returns : goal.returns
returns g c =
    let place = c.in_ok-place in
    let mid_is = sym c.self.view_is in
    written g.S.Store c.args.self.now _ place.place (noted_now c.args.note.now) c.args.writes.now
    c.write_kept.new.connection (subst (Stays g.S.Store c.args.self.now) mid_is place.ensures.asks.kept)
    (place.ensures.journal ∙ ap (λ (k : KnownStore _). k.journal) mid_is)
    (λ clean. place.ensures.today (subst (IsClean g.S.Store) c.self.view_is clean)) c.in_ok-self-inside.field-0
    c.in_ok-self-inside.ensures.makes

pub returns-in_err-self-inside : goal.returns-in_err-self-inside
returns-in_err-self-inside g c =
    let place = c.in_ok-place in
    let mid_is = sym c.self.view_is in
    let given : c.from_residual-in_err-self-inside.result ≡ Err c.in_err-self-inside.field-0.0 = search rules in
    rw given (unwritten g.S.Store c.args.self.now _ place.place (noted_now c.args.note.now) c.args.writes.now
    c.write_kept.new.connection (subst (Stays g.S.Store c.args.self.now) mid_is place.ensures.asks.kept)
    (place.ensures.journal ∙ ap (λ (k : KnownStore _). k.journal) mid_is)
    (λ clean. place.ensures.today (subst (IsClean g.S.Store) c.self.view_is clean)) c.in_err-self-inside.field-0.0
    c.in_err-self-inside.ensures.makes)
