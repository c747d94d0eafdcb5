use Rattle.std.proofs.lemmas.Result.{on_err_weaker, on_ok_weaker}
use Rattle.mf_wire_lines.proofs.Writes.{part_first}
use Rattle.mf_wire_messages.specs.Responses.{status_line, fields_and_body}
use Rattle.mf_wire_messages.proofs.GatherLemmas.{gathers_both, cut_second, gathered, gathered_cut}
use Rattle.mf_wire_messages.proofs.responses.write_reply.Goals as goal

pub returns-in_default-clause-err : goal.returns-in_default-clause-err
returns-in_default-clause-err g c = part_first _ _ (status_line c.args.status) _ c.in_default.ensures.err

pub returns-in_default-gather_fields_and_body-clause-err : goal.returns-in_default-gather_fields_and_body-clause-err
returns-in_default-gather_fields_and_body-clause-err g c =
    cut_second _ _ _ _ _ (status_line c.args.status) _ c.in-Ok.ensures.ok
    c.in_default-gather_fields_and_body.ensures.err

pub returns-clause-ok : goal.returns-clause-ok
returns-clause-ok g c =
    let both = gathers_both _ _ _ _ _ (status_line c.args.status) _ (fields_and_body c.args.body.now c.args.to_head)
    c.in-Ok.ensures.ok c.in-Ok-gather_fields_and_body.ensures.ok in
    on_ok_weaker c.put.result (λ p. gathered _ _ _ _ _ both p) c.put.ensures.ok

pub returns-clause-err : goal.returns-clause-err
returns-clause-err g c =
    let both = gathers_both _ _ _ _ _ (status_line c.args.status) _ (fields_and_body c.args.body.now c.args.to_head)
    c.in-Ok.ensures.ok c.in-Ok-gather_fields_and_body.ensures.ok in
    on_err_weaker c.put.result (λ p. gathered_cut _ _ _ _ _ both p) c.put.ensures.err
