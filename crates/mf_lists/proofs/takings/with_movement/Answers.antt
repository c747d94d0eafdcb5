use Rattle.std.proofs.Common.{sym, ap, ap₂, ◌∙◌, ◌++◌, ◌∷◌, []}
use Rattle.mf_lists.specs.Takings.{with_movement}
use Rattle.mf_lists.proofs.TakingLemmas.{known_more, new_more}
use Rattle.mf_lists.proofs.takings.with_movement.Goals as goal

pub returns-then-are_of-clause-more : goal.returns-then-are_of-clause-more
returns-then-are_of-clause-more c moves are =
    c.in_ok-more.ensures.more
    ∙ known_more moves c.args.staff.now c.args.movement.now c.args.takings.now are
    (sym c.if-are_of.true ∙ c.are_of.ensures)

pub returns-clause-more : goal.returns-clause-more
returns-clause-more c moves are =
    let first = c.in_ok-first.ensures.more ∙ ap (with_movement c.args.movement.now) c.nothing.ensures in
    c.in_ok-push.ensures.items ∙ ap₂ (λ l t. l ++ t ∷ []) c.in_ok-more.ensures.more first
    ∙ new_more moves c.args.staff.now c.args.movement.now c.args.takings.now are
    (sym c.if-are_of.false ∙ c.are_of.ensures)
