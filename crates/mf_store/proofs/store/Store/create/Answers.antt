use Rattle.std.proofs.Common.{None, refl, sym, subst}
use Rattle.mf_store_commits.specs.Becoming.{Begins}
use Rattle.mf_model.specs.Institution.{newly_made}
use Rattle.mf_store.proofs.FirstLemmas.{founded_stands, unfounded}
use Rattle.mf_store_noted.proofs.TurnedLemmas.{settled_leaves}
use Rattle.mf_store.proofs.KeptLemmas.{first_known}
use Rattle.mf_store.proofs.store.Store.create.Goals as goal

pub returns-in-Ok-apply-clause-stands : goal.returns-in-Ok-apply-clause-stands
returns-in-Ok-apply-clause-stands g c clean none = first_known g.S.Store _ _ _ _ c.in-Ok-nothing.ensures.nothing
    (founded_stands g.S.Store c.args.connection c.apply.new.connection _ _ (subst (λ ws. Begins ws c.args.day)
    (sym c.deref.ensures.value) c.in-Ok.ensures.writes) (c.soundness.ensures.first c.args.day c.requires.day)
    (c.in-Ok-apply.ensures.ok clean) none)

pub returns-in-Ok-apply-clause-leaves : goal.returns-in-Ok-apply-clause-leaves
returns-in-Ok-apply-clause-leaves g c clean none =
    let stands = returns-in-Ok-apply-clause-stands g c clean none in
    settled_leaves g.S.Store None c.apply.new.connection (λ trees live may.
    g.met.S.Store.settled c.apply.new.connection.store trees live may)
    (c.in-Ok-apply.ensures.settled clean) (newly_made c.args.day) refl (record {
      sound = stands.sound;
      serves = stands.serves;
    })

pub returns-clause-given_back : goal.returns-clause-given_back
returns-clause-given_back g c = unfounded g.S.Store _ _ _ _ (subst (λ ws. Begins ws c.args.day)
    (sym c.deref.ensures.value) c.in-Ok.ensures.writes) c.apply.ensures.was_open c.in-Err-apply.ensures.err
    c.apply.ensures.crash
