use Rattle.std.proofs.Common.{◌≡◌, Err, sym, subst, rules}
use Rattle.mf_store.specs.Stands.{IsClean, Stays}
use Rattle.mf_store.proofs.BeginLemmas.{began, not_begun}
use Rattle.mf_store.proofs.store.Store.begin_upgraded.Goals as goal

pub returns : goal.returns
returns g c =
    let day = c.in_ok-day in
    let mid_is = sym c.self.view_is in
    began g.S.Store c.args.self.now _ c.begin_upgraded.new.connection day.day
    (subst (Stays g.S.Store c.args.self.now) mid_is day.ensures.asks.kept) c.requires
    (λ clean. day.ensures.value (subst (IsClean g.S.Store) c.self.view_is clean)) c.in_ok-journal.journal
    c.in_ok-journal.ensures.gets

pub returns-in_err-journal : goal.returns-in_err-journal
returns-in_err-journal g c =
    let day = c.in_ok-day in
    let mid_is = sym c.self.view_is in
    let given : c.from_residual-in_err-journal.result ≡ Err c.in_err-journal.field-0.0 = search rules in
    rw given (not_begun g.S.Store c.args.self.now _ c.begin_upgraded.new.connection day.day
    (subst (Stays g.S.Store c.args.self.now) mid_is day.ensures.asks.kept) c.requires
    (λ clean. day.ensures.value (subst (IsClean g.S.Store) c.self.view_is clean)) c.in_err-journal.field-0.0
    c.in_err-journal.ensures.gets)
