use Rattle.std.proofs.Common.{sym, ◌∙◌}
use Rattle.mf_store_files.proofs.TakenLemmas.{taken_none, unmade_journaled}
use Rattle.mf_store_files.proofs.adopted.adopt_journaled.Goals as goal

pub returns-then-has_no_tables-clause-taken : goal.returns-then-has_no_tables-clause-taken
returns-then-has_no_tables-clause-taken g c =
    let made = c.found_new in
    taken_none g.S.Store c.args.connection (sym c.schema.ensures.value ∙ c.has_no_tables.ensures.0
    c.if-has_no_tables.true) made.result made.ensures.premise made.ensures.was_open made.ensures.open

pub returns-then-has_no_tables-clause-given_back : goal.returns-then-has_no_tables-clause-given_back
returns-then-has_no_tables-clause-given_back g c =
    let made = c.found_new in
    unmade_journaled g.S.Store c.args.connection (sym c.schema.ensures.value ∙ c.has_no_tables.ensures.0
    c.if-has_no_tables.true) c.args.founds made.result made.ensures.errors
