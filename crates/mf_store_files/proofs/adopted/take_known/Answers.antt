use Rattle.std.proofs.Common.{sym, ◌∙◌}
use Rattle.mf_store_files.proofs.TakenLemmas.{taken_at, back_at}
use Rattle.mf_store_files.proofs.adopted.take_known.Goals as goal

pub returns-clause-taken : goal.returns-clause-taken
returns-clause-taken g c =
    let made = c.take_over in
    taken_at g.S.Store c.args.connection c.in-Some.version (sym c.schema.ensures.value ∙ c.in-Some.ensures.some)
    made.result made.ensures.premise made.ensures.sound made.ensures.stands made.ensures.leaves made.ensures.was_open
    made.ensures.open

pub returns-clause-given_back : goal.returns-clause-given_back
returns-clause-given_back g c =
    let made = c.take_over in
    back_at g.S.Store c.args.connection c.in-Some.version (sym c.schema.ensures.value ∙ c.in-Some.ensures.some)
    made.result made.ensures.still made.ensures.errors made.ensures.refused made.ensures.left made.ensures.unchanged
    made.ensures.alone
