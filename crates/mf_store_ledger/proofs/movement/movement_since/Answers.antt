use Rattle.std.proofs.Common.{ap, ◌∙◌}
use Rattle.mf_portions.specs.Table.{table_text}
use Rattle.mf_store_ledger.proofs.movement.movement_since.Goals as goal

pub lines_before-requires-clause-early : goal.lines_before-requires-clause-early
lines_before-requires-clause-early g c = c.requires.early

pub returns-in_ok-text-in-Ok-Ok-clause-answer : goal.returns-in_ok-text-in-Ok-Ok-clause-answer
returns-in_ok-text-in-Ok-Ok-clause-answer g c clean its begins lines none keeps =
    let found = (rw c.in-Ok-Ok.field-0-is at (c.in-Ok-Ok.ensures {u = tt}).lines) clean its begins lines none keeps in
    (c.in_ok-text-in-Ok-Ok.ensures.text ∙ ap (table_text c.args.before.now) (c.deref.ensures.value ∙ found.0), found.1)

pub returns-in-Ok-Err-clause-answer : goal.returns-in-Ok-Err-clause-answer
returns-in-Ok-Err-clause-answer g c clean its begins lines none keeps =
    (rw c.in-Ok-Err.field-0-is at (c.in-Ok-Err.ensures {u = tt}).lines) clean its begins lines none keeps
