use Rattle.std.proofs.Common.{◌≡◌, Err, Some, refl, sym, ap, subst, rules, ◌∙◌}
use Rattle.mf_store_journal.specs.Noting.{FitsNoted, after_noted_write}
use Rattle.mf_journal.specs.Chain.{line_of_row}
use Rattle.mf_store_noted.specs.Writing.{MakesWrites}
use Rattle.mf_store_noted.proofs.LineLemmas.{turn_with_line}
use Rattle.mf_store_noted.proofs.MakesLemmas.{made_writes, unmade_writes, untried}
use Rattle.mf_store_noted.proofs.writing.write_row.Goals as goal

pub returns-in-Ok-clause-makes : goal.returns-in-Ok-clause-makes
returns-in-Ok-clause-makes g c =
    let told = c.in_ok-noted.ensures.writes in
    made_writes after_noted_write FitsNoted c.deref.result.now (Some c.args.journal) _ c.args.writes.now
    (line_of_row c.args.row) g.S.Store c.args.connection.now c.apply.new.connection
    (λ i j t b. turn_with_line c.args.journal c.in-Some.head c.args.row c.deref.result.now told.0 c.args.writes.now
    (c.deref.ensures.value ∙ told.1) told.2 c.in-Some.ensures.added.0 c.in-Some.ensures.added.1
    (c.has_room.ensures.0 (search rules)) i j t.keeps b)
    c.apply.ensures.was_open c.apply.ensures.crash refl c.in-Ok.ensures.ok c.in-Ok.ensures.settled
    (λ trees live may. g.met.S.Store.settled c.apply.new.connection.store trees live may)

pub returns-clause-makes : goal.returns-clause-makes
returns-clause-makes g c =
    let told = c.in_ok-noted.ensures.writes in
    unmade_writes after_noted_write FitsNoted c.deref.result.now (Some c.args.journal) _ c.args.writes.now
    (line_of_row c.args.row) g.S.Store c.args.connection.now c.apply.new.connection
    (λ i j t b. turn_with_line c.args.journal c.in-Some.head c.args.row c.deref.result.now told.0 c.args.writes.now
    (c.deref.ensures.value ∙ told.1) told.2 c.in-Some.ensures.added.0 c.in-Some.ensures.added.1
    (c.has_room.ensures.0 (search rules)) i j t.keeps b)
    c.apply.ensures.was_open c.apply.ensures.crash c.in-Err.ensures.err

pub returns-in_default-clause-makes : goal.returns-in_default-clause-makes
returns-in_default-clause-makes g c = untried g.S.Store _ _ _ _

pub returns-in_err-noted-clause-makes : goal.returns-in_err-noted-clause-makes
returns-in_err-noted-clause-makes g c =
    let given : c.from_residual.result ≡ Err c.in_err-noted.field-0.0 = search rules in
    subst (MakesWrites g.S.Store (Some c.args.journal) c.args.writes.now (line_of_row c.args.row)
    c.args.connection.now c.args.connection.now) (sym (given ∙ ap Err c.in_err-noted.ensures.gives_up))
    (untried g.S.Store _ _ _ _)
