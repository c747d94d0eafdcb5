use Rattle.std.proofs.Common.{◌≡◌, true, false, sym, ◌∙◌}
use Rattle.mf_store_files.proofs.TakenLemmas.{taken_none, back_none, of_any, of_any_error}
use Rattle.mf_store_files.proofs.adopted.adopt.Goals as goal

pub returns-then-has_no_tables-clause-taken : goal.returns-then-has_no_tables-clause-taken
returns-then-has_no_tables-clause-taken g c =
    let made = c.create in
    taken_none g.S.Store c.args.connection (sym c.schema.ensures.value ∙ c.has_no_tables.ensures.0
    c.if-has_no_tables.true) made.result made.ensures.premise made.ensures.was_open made.ensures.open

pub returns-then-has_no_tables-clause-given_back : goal.returns-then-has_no_tables-clause-given_back
returns-then-has_no_tables-clause-given_back g c =
    let made = c.create in
    back_none g.S.Store c.args.connection (sym c.schema.ensures.value ∙ c.has_no_tables.ensures.0
    c.if-has_no_tables.true) c.args.day made.result made.ensures.gives_up made.ensures.given_back made.ensures.alone

pub returns-clause-made_leaves : goal.returns-clause-made_leaves
returns-clause-made_leaves g c =
    of_any c.take_known.result _ (λ store clean none. let both : false ≡ true = sym c.if-has_no_tables.false
    ∙ c.has_no_tables.ensures.1 (c.schema.ensures.value ∙ none.schema_is) in cc)

pub returns-clause-unfounded : goal.returns-clause-unfounded
returns-clause-unfounded g c =
    of_any_error c.take_known.result _ (λ e none. let both : false ≡ true = sym c.if-has_no_tables.false
    ∙ c.has_no_tables.ensures.1 (c.schema.ensures.value ∙ none.schema_is) in cc)
