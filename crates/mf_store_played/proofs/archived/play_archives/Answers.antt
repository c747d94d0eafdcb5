use Rattle.mf_store_played.proofs.ArchivedLemmas.{going_first, going_on, going_stops, going_whole}
use Rattle.mf_store_played.proofs.archived.play_archives.Goals as goal

pub loop-k-init : goal.loop-k-init
loop-k-init g c = going_first g.T.InstitutionStore c.args.archives.now c.args.places.now c.args.store.now

pub loop-k-preserved : goal.loop-k-preserved
loop-k-preserved g c =
    going_on g.T.InstitutionStore c.args.archives.now c.args.places.now c.args.store.now c.loop-k.store
    c.play_at.new.store c.loop-k.k c.loop-k.invariant c.play_at.ensures.premise c.place_at.result c.place_at.ensures
    (λ a there. rw c.in-Ok-Ok.field-0-is at (c.in-Ok-Ok.ensures {u = tt}).plays a there)

pub returns-in-Ok-Err-clause-premise : goal.returns-in-Ok-Err-clause-premise
returns-in-Ok-Err-clause-premise g c ok = c.loop-k.invariant.premise (c.play_at.ensures.premise ok)

pub returns-in-Ok-Err-clause-plays : goal.returns-in-Ok-Err-clause-plays
returns-in-Ok-Err-clause-plays g c =
    going_stops g.T.InstitutionStore c.args.archives.now c.args.places.now c.args.store.now c.loop-k.store
    c.play_at.new.store c.loop-k.k c.loop-k.invariant c.play_at.ensures.premise c.place_at.result c.place_at.ensures
    c.in-Ok-Err.number c.in-Ok-Err.why
    (λ a there. rw c.in-Ok-Err.field-0-is at (c.in-Ok-Err.ensures {u = tt}).plays a there)

pub returns-in-Err-clause-premise : goal.returns-in-Err-clause-premise
returns-in-Err-clause-premise g c ok = c.loop-k.invariant.premise (c.play_at.ensures.premise ok)

pub returns-clause-plays : goal.returns-clause-plays
returns-clause-plays g c =
    going_whole g.T.InstitutionStore c.args.archives.now c.args.places.now c.args.store.now c.loop-k.store
    c.loop-k.store c.loop-k.k c.loop-k.invariant c.loop-k-test.false

pub returns-clause-premise : goal.returns-clause-premise
returns-clause-premise g c = c.loop-k.invariant.premise
