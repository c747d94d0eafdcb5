use Rattle.std.proofs.Common.{◌++◌, ◌∷◌, [], ap, refl, sym, ◌∙◌}
use Rattle.mf_journal.specs.Chain.{line_of_row}
use Rattle.mf_store_lists.proofs.ChangeLemmas.{found_early, found_told}
use Rattle.mf_store_lists.proofs.changes.put_line.Goals as goal

pub returns-in_ok-push-clause-found : goal.returns-in_ok-push-clause-found
returns-in_ok-push-clause-found c before found =
    found_told c.args.asked.now before (line_of_row c.args.row) _ _ found (sym (c.if-not-names.ensures {u = tt}))
    (c.in-Some.ensures {u = tt}).1 (sym (c.if-tells.ensures {u = tt})) c.requires
    ((c.in_ok-push.ensures {u = tt}).items
    ∙ ap (λ line. c.args.lines.now.items ++ line ∷ []) (c.in_ok-line.ensures {u = tt}).line)

pub returns-else-tells-clause-found : goal.returns-else-tells-clause-found
returns-else-tells-clause-found c before found =
    found_early c.args.asked.now before (line_of_row c.args.row) _ _ found (sym (c.if-not-names.ensures {u = tt}))
    (c.in-Some.ensures {u = tt}).1 (sym (c.if-tells.ensures {u = tt})) refl
