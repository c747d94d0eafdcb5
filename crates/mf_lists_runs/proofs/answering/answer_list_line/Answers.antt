use Rattle.std.specs.Prelude.{◌≡◌}
use Rattle.mf_lists_runs.specs.Choice.{told_line}
use Rattle.mf_wire_lines.specs.Replies.{reply_line_of}
use Rattle.mf_wire_requests.specs.RequestLine.{parts_now}
use Rattle.mf_wire_requests.specs.Requests.{call_of_parts}
use Rattle.mf_lists_runs.proofs.Calling.{list_answered}
use Rattle.mf_lists_runs.proofs.answering.answer_list_line.Goals as goal

pub returns-clause-calls : goal.returns-clause-calls
returns-clause-calls g c = λ asked sent.
    list_answered g.S.InstitutionStore g.L.Lists.folded (λ t. reply_line_of c.line_of_list.result ≡ told_line t)
    (call_of_parts (parts_now c.args.parts.now)) c.args.caller c.args.store.now c.answer_list-told.new.store
    c.answer_list-told.result asked sent c.answer_list-told.ensures.told c.line_of_list.ensures.line (λ t. t)

pub returns-clause-refusal : goal.returns-clause-refusal
returns-clause-refusal g c = c.line_of_list.ensures.refusal c.answer_list-told.ensures.refusal
