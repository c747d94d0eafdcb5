use Rattle.std.proofs.Common.{◌≡◌, true, nat_le, length, Some, sym, subst, rules}
use Rattle.std.proofs.lemmas.Bool.{le-leb}
use Rattle.mf_model.specs.Calls.{Call}
use Rattle.mf_wire_lines.specs.Cut.{longest_line}
use Rattle.mf_wire_lines.specs.Replies.{reply_line_of}
use Rattle.mf_wire_replies.specs.Shown.{shown_line}
use Rattle.mf_wire_requests.specs.RequestLine.{parts_now, parts_in}
use Rattle.mf_wire.specs.Runs.{Calls}
use Rattle.mf_wire.proofs.Calling.{line_call}
use Rattle.mf_wire.proofs.answering.DeskLineDesk.answer.Goals as goal

pub returns-clause-step : goal.returns-clause-step
returns-clause-step g c =
    let told = c.args.self.now.told in
    let line = c.args.line.now in
    let p = parts_now c.in-Some.parts in
    let parts : parts_in told line ≡ Some p = search rules in
    let short : nat_le (length line) longest_line ≡ true = le-leb (length line) longest_line c.requires in
    subst (λ (call : Call). Calls g.S.InstitutionStore (λ r. reply_line_of c.answer_line_parts.result ≡ shown_line r)
    call c.args.state.now c.answer_line_parts.new.store) (sym (line_call told line p short parts))
    c.answer_line_parts.ensures.calls
