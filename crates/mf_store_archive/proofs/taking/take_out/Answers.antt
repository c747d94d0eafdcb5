use Rattle.mf_store_archive.proofs.TakesLemmas.{taken, untaken}
use Rattle.mf_store_archive.proofs.taking.take_out.Goals as goal

pub returns-in-Ok-clause-takes : goal.returns-in-Ok-clause-takes
returns-in-Ok-clause-takes g c =
    taken c.args.journal (record { begins = c.args.begins }) g.S.Store c.args.connection.now c.apply.new.connection
    c.apply.ensures.was_open c.apply.ensures.crash c.in-Ok.ensures.ok c.in-Ok.ensures.settled
    (λ trees live may. g.met.S.Store.settled c.apply.new.connection.store trees live may)

pub returns-in-Err-clause-takes : goal.returns-in-Err-clause-takes
returns-in-Err-clause-takes g c =
    untaken c.args.journal (record { begins = c.args.begins }) g.S.Store c.args.connection.now
    c.apply.new.connection c.apply.ensures.was_open c.apply.ensures.crash c.in-Err.ensures.err
