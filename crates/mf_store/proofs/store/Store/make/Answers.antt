use Rattle.std.proofs.Common.{Ok, sym, subst}
use Rattle.mf_model.specs.Notes.{noted_now}
use Rattle.mf_store.specs.Stands.{WritesNoted}
use Rattle.mf_store.proofs.MadeLemmas.{committed}
use Rattle.mf_store.proofs.store.Store.make.Goals as goal

pub returns : goal.returns
returns g c = λ first commit kept becomes.
    let noted = noted_now c.args.note.now in
    committed g.S.Store commit first c.args.self.now _ c.args.writes.now noted kept
    (λ clean i s admitted. (becomes clean i s admitted).0) c.learn.new.self
    (subst (λ k. WritesNoted g.S.Store c.args.writes.now noted c.args.self.now k (Ok tt)) (sym c.self.view_is)
    (c.in_ok-write.ensures {u = tt}))
    (λ i known admitted s clean. c.learn.ensures i _ known (becomes clean i s admitted).1)
