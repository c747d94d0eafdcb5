use Rattle.std.proofs.Common.{None, refl}
use Rattle.mf_store_schema.specs.Writes.{after_write, FitsLists}
use Rattle.mf_store_noted.proofs.LineLemmas.{turn_alone}
use Rattle.mf_store_noted.proofs.MakesLemmas.{made_writes, unmade_writes}
use Rattle.mf_store_noted.proofs.writing.write_alone.Goals as goal

pub returns-in-Ok-clause-makes : goal.returns-in-Ok-clause-makes
returns-in-Ok-clause-makes g c line =
    let writes = c.args.writes.now in
    made_writes after_write FitsLists writes None None writes line g.S.Store c.args.connection.now
    c.apply.new.connection (λ i j t b. turn_alone writes line i j t.keeps b) c.apply.ensures.was_open
    c.apply.ensures.crash refl c.in-Ok.ensures.ok c.in-Ok.ensures.settled
    (λ trees live may. g.met.S.Store.settled c.apply.new.connection.store trees live may)

pub returns-in-Err-clause-makes : goal.returns-in-Err-clause-makes
returns-in-Err-clause-makes g c line =
    let writes = c.args.writes.now in
    unmade_writes after_write FitsLists writes None None writes line g.S.Store c.args.connection.now
    c.apply.new.connection (λ i j t b. turn_alone writes line i j t.keeps b) c.apply.ensures.was_open
    c.apply.ensures.crash c.in-Err.ensures.err
